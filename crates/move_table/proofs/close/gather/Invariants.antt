use Rattle.std.proofs.Common.{◌≡◌, ℕ, ◌<◌, take, drop, slice_index_or}
use Rattle.move_table.specs.Calls.{RacedPass}
use Rattle.move_table.specs.Closing.{IsKeptPass, laid, all_moves, all_numbers, all_gains}
use Rattle.move_table.proofs.close.gather.Given as goal

abbrev pub invariant-loop-pass : goal.invariant-loop-pass
invariant-loop-pass l = record {
  moves : laid l.moves.items (all_numbers (drop l.pass-index l.passes)) (all_moves (drop l.pass-index l.passes)) ≡ laid l.initial.moves.items (all_numbers
      l.passes) (all_moves l.passes);
  gains : l.gains.items ≡ all_gains (take l.pass-index l.passes);
  kept : (i : ℕ) (p : RacedPass) → i < l.pass-index → IsKeptPass (slice_index_or l.passes i p);
}
