-- What a first run and the others leave, each by its own thread.
use Rattle.std.proofs.Common.{◌≡◌, ℕ, ◌+◌, ◌<◌, List, ◌++◌, length, arith}
use Rattle.crew.specs.Chunks.{AllRunsChange}
use Rattle.crew.proofs.ChunkLaws.{changes_only, changes_both}

module _ {X : Type 0} (R : ℕ → List X → List X → Type 0) (place size : ℕ) where
  pub changes_more : (xs ys zs us vs : List X) → zs ≡ xs ++ ys → length xs ≡ size → 0 < size → length us ≡ length xs → R place xs us →
      AllRunsChange R (place + size) size ys vs → AllRunsChange R place size zs (us ++ vs)
  changes_more xs ys zs us vs e n some m h k =
      changes_both R place size xs ys zs us vs e n some (changes_only R place size xs us (omega (arith, n)) m h) k
