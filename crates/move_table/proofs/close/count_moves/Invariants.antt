use Rattle.std.proofs.Common.{◌≡◌, ◌+◌, length, drop}
use Rattle.move_table.specs.Closing.{all_moves}
use Rattle.move_table.proofs.close.count_moves.Given as goal

abbrev pub invariant-loop-pass : goal.invariant-loop-pass
invariant-loop-pass l = l.count + length (all_moves (drop l.pass-index l.passes)) ≡ length (all_moves l.passes)
