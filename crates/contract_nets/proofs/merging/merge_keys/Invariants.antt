-- The nets so far and those to come are all that is merged, and the ends so far are noted.
use Rattle.contract_nets.proofs.MergeLaws.{IsMerging, AreEndsUpto}
use Rattle.contract_nets.proofs.merging.merge_keys.Given as goal

abbrev pub invariant-loop-i : goal.invariant-loop-i
invariant-loop-i l = IsMerging l.nets l.keys l.i l.list l.weight × AreEndsUpto l.nets l.keys l.i l.ends.items
