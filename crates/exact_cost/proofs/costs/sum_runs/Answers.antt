-- The sums of all runs together are the cost.
use Rattle.std.proofs.Common.{subst, length, arith}
use Rattle.hg_defs.specs.Hypergraph.{vertex_count}
use Rattle.exact_cost.specs.Carrying.{carried_down}
use Rattle.exact_cost.specs.Paying.{IsPaidByRun}
use Rattle.exact_cost.proofs.PayingLemmas.{all_runs}
use Rattle.exact_cost.proofs.costs.sum_runs.Goals as goal

pub returns : goal.returns
returns g c =
    let h = c.args.h.now in
    let q = carried_down (vertex_count h) c.args.maps.now c.args.blocks.now in
    let n = length c.args.sums.now in
    let runs = c.requires.runs in
    all_runs h q c.each.new.items n (omega arith) (let long = c.each.ensures.changes in omega arith)
    (λ i l. (
    let x = c.each.ensures.changes i 0 l in
    subst (λ s. IsPaidByRun h q n i s) x.1.left x.1.call))
