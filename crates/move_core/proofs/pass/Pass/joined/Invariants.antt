use Rattle.std.proofs.Common.{◌≡◌, map}
use Rattle.move_core.specs.Events.{all_inserted}
use Rattle.move_core.proofs.pass.Pass.joined.Given as goal

abbrev pub invariant-loop-vertex : goal.invariant-loop-vertex
invariant-loop-vertex l = l.held.keys ≡ all_inserted l.self.held (map (λ x. x.now) l.yielded)
