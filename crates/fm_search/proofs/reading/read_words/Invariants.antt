use Rattle.std.proofs.Common.{◌≡◌, length}
use Rattle.fm_search.proofs.reading.read_words.Given as goal

abbrev pub invariant-words : goal.invariant-words
invariant-words l = record {
  mover : l.mover ≡ l.fn.mover;
  row : length l.row ≡ length l.fn.row;
}
