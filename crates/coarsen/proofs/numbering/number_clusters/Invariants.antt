-- The vertices so far have the numbers of their roots.
use Rattle.std.proofs.Common.{◌≡◌, ℕ, ◌<◌, ◌≤◌, get_or}
use Rattle.coarsen.proofs.numbering.number_clusters.Given as goal

abbrev pub invariant-loop-root : goal.invariant-loop-root
invariant-loop-root l = record {
  done : (k : ℕ) → k < l.root-index → get_or l.roots k 0 ≡ get_or l.numbers.items (get_or l.initial.roots k 0) 0;
  rest : (k : ℕ) → l.root-index ≤ k → get_or l.roots k 0 ≡ get_or l.initial.roots k 0;
}
