use Rattle.std.proofs.Common.{◌≡◌, map}
use Rattle.cluster_core.specs.Events.{all_inserted}
use Rattle.cluster_core.proofs.pass.united.Given as goal

abbrev pub invariant-loop-number : goal.invariant-loop-number
invariant-loop-number l = l.all.keys ≡ all_inserted l.fn.these.keys (map (λ x. x.now) l.yielded)
