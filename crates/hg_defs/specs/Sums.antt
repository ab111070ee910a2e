-- Sums over a list and over the numbers below a bound.
use Rattle.std.specs.Prelude.{ℕ, zero, suc, ◌+◌, List, [], ◌∷◌, ℤ, pos, ◌+ℤ◌}

-- the sum of f over a list
abbrev pub total : {A : Type 0} → (A → ℕ) → List A → ℕ
total f [] = 0
total f (x ∷ xs) = f x + total f xs

-- the same for a signed f
abbrev pub total_z : {A : Type 0} → (A → ℤ) → List A → ℤ
total_z f [] = pos 0
total_z f (x ∷ xs) = f x +ℤ total_z f xs

-- the sum of f over the numbers below a bound
abbrev pub sum_below : (ℕ → ℕ) → ℕ → ℕ
sum_below f zero = 0
sum_below f (suc n) = sum_below f n + f n
