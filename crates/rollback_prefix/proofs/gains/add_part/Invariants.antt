use Rattle.std.proofs.Common.{◌≡◌, ℕ, ◌<◌, ◌≤◌, get_or, pos, ◌+ℤ◌}
use Rattle.rollback_prefix.proofs.gains.add_part.Given as goal

-- the gains so far were added, and the later ones are as they were
abbrev pub invariant-loop-i : goal.invariant-loop-i
invariant-loop-i l = record {
  done : (j : ℕ) → j < l.i → get_or l.gains j (pos 0) ≡ get_or l.fn.gains j (pos 0) +ℤ get_or l.part j (pos 0);
  rest : (j : ℕ) → l.i ≤ j → get_or l.gains j (pos 0) ≡ get_or l.fn.gains j (pos 0);
}
