use Rattle.std.proofs.Common.{List, ℕ, ap, ◌∙◌}
use Rattle.hg_defs.specs.Hypergraph.{vertex_count}
use Rattle.hg_defs.specs.Cost.{cost}
use Rattle.exact_cost.proofs.CarryingLaws.{carried_through_none}
use Rattle.exact_cost.proofs.costs.cost_with.Goals as goal

pub returns-clause-value : goal.returns-clause-value
returns-clause-value g c =
    let h = c.args.h.now in
    c.cost_below.ensures.value ∙ ap (λ (p : List ℕ). cost h p) (carried_through_none (vertex_count h) c.args.blocks.now c.requires.partition.vertices)
