use Rattle.std.proofs.Common.{◌≡◌, ℕ, ◌+◌, ◌-◌, ◌<◌, [], length, slice_index_or}
use Rattle.move_table.specs.Standing.{first_view}
use Rattle.move_table.specs.Calls.{RacedPass, IsFreshPass}
use Rattle.move_table.proofs.begin.make_passes.Given as goal

abbrev pub invariant-loop-number : goal.invariant-loop-number
invariant-loop-number l = record {
  table : l.seat.table_id ≡ l.initial.seat.table_id;
  view : l.seat.me ≡ (record (first_view l.words.key) { steps = l.number - 1; may = l.workers - l.number }, []);
  all : length l.passes.items + 1 ≡ l.number;
  each : (i : ℕ) (p : RacedPass) → i < length l.passes.items → IsFreshPass l.words.table_id l.words.key (i + 1) (slice_index_or l.passes.items i p);
}
