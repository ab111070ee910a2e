-- The moves so far are booked, and the later ones are as they were.
use Rattle.std.proofs.Common.{◌≡◌, ℕ, ◌<◌, ◌≤◌, length, get_or, pos}
use Rattle.hg_defs.specs.declared.moves.Move.{Move}
use Rattle.det_sync.proofs.rounds.book.Given as goal

abbrev pub invariant-loop-i : goal.invariant-loop-i
invariant-loop-i l = record {
  size : length l.moves ≡ length l.fn.moves;
  done : (j : ℕ) (d : Move) → j < l.i → get_or l.moves j d ≡ record (get_or l.fn.moves j d) { booked = get_or l.gains j (pos 0) };
  rest : (j : ℕ) (d : Move) → l.i ≤ j → get_or l.moves j d ≡ get_or l.fn.moves j d;
}
