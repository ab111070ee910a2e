use Rattle.std.proofs.Common.{◌≡◌, length}
use Rattle.fm_search.proofs.reading.read_pins.Given as goal

abbrev pub invariant-pins : goal.invariant-pins
invariant-pins l = record {
  mover : l.mover ≡ l.fn.mover;
  row : length l.row ≡ length l.fn.row;
}
