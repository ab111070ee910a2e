-- The numbers so far were raised, and the others are as they were.
use Rattle.std.proofs.Common.{◌≡◌, ◌+◌, ◌≤◌, ℕ, ◌++◌, map, take, drop, slice_index}
use Rattle.hg_base.proofs.sets.raise.Given as goal

abbrev pub invariant-loop-number : goal.invariant-loop-number
invariant-loop-number l = record {
  raised : l.numbers ≡ map (λ n. n + l.by) (take l.number-index l.initial.numbers) ++ drop l.number-index l.initial.numbers;
  rest : (k : ℕ) → l.number-index ≤ k → slice_index l.numbers k ≡ slice_index l.initial.numbers k;
}
