use Rattle.std.proofs.Common.{◌≡◌, drop, nat_eq}
use Rattle.std.specs.List.{list_any}
use Rattle.std.specs.Set.{is_member}
use Rattle.flow_pair.proofs.region.has_noted.Given as goal

abbrev pub invariant-loop-e : goal.invariant-loop-e
invariant-loop-e l = list_any (is_member nat_eq l.list) l.nets ≡ list_any (is_member nat_eq l.list) (drop l.e-index l.nets)
