use Rattle.std.proofs.Common.{IfOk, length, subst}
use Rattle.flow_pair.specs.CutNets.{AreCutListsOfRun}
use Rattle.flow_pair.proofs.cut_lists.find_in_runs.Goals as goal

pub returns-clause-cut : goal.returns-clause-cut
returns-clause-cut g c =
    let h = c.args.h.now in
    let p = c.args.p.now in
    let runs = length c.args.runs.now in
    λ i d l.
    let x = c.each.ensures.changes i d l in
    subst (λ run. IfOk run (λ lists. AreCutListsOfRun h p.k p.blocks runs i lists.items)) x.1.left x.1.call
