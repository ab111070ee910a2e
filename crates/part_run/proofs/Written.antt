-- A list that is written over, place by place, with another one.
use Rattle.std.proofs.Common.{◌≡◌, ◌+◌, ◌<◌, ℕ, zero, suc, List, [], ◌∷◌, ◌++◌, length, take, drop, slice_set, slice_index, refl, ap, arith, add-one}

written_suc : (i : ℕ) (xs ys : List ℕ) → i < length xs → i < length ys → slice_set (take i xs ++ drop i ys) i (slice_index xs i) ≡ take (suc i) xs ++ drop
    (suc i) ys
written_suc i [] ys low low' = absurd (omega arith)
written_suc i (x ∷ xs) [] low low' = absurd (omega arith)
written_suc zero (x ∷ xs) (y ∷ ys) low low' = refl
written_suc (suc i) (x ∷ xs) (y ∷ ys) low low' = ap {B = List ℕ} (λ r. x ∷ r) (written_suc i xs ys (omega arith) (omega arith))

pub written_more : (i : ℕ) (xs ys : List ℕ) → i < length xs → i < length ys → slice_set (take i xs ++ drop i ys) i (slice_index xs i) ≡ take (i + 1) xs ++
    drop
    (i + 1) ys
written_more i xs ys low low' = rw add-one (written_suc i xs ys low low')
