use Rattle.hg_defs.specs.Hypergraph.{vertex_count}
use Rattle.exact_cost.specs.Carrying.{carried_down}
use Rattle.exact_cost.specs.Paying.{IsPaid}
use Rattle.exact_cost.proofs.costs.cost_of_run.Given as goal

abbrev pub invariant-nets : goal.invariant-nets
invariant-nets l = IsPaid l.h (carried_down (vertex_count l.h) l.maps l.blocks) l.from l.e l.sum
