use Rattle.std.proofs.Common.{◌≡◌, length}
use Rattle.fm_search.proofs.reading.read_vertex.Given as goal

abbrev pub invariant-nets : goal.invariant-nets
invariant-nets l = record {
  mover : l.mover ≡ l.fn.mover;
  row : length l.row ≡ length l.fn.row;
}
