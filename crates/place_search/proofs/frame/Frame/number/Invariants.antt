use Rattle.std.proofs.Common.{◌≡◌, ◌≤◌}
use Rattle.place_search.proofs.frame.Frame.number.Given as goal

abbrev pub invariant-loop-v : goal.invariant-loop-v
invariant-loop-v l = (l.numbers ≡ l.fn.numbers) × (l.count ≤ l.v)
