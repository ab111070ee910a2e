-- From the levels above one to the levels from it on.
use Rattle.std.proofs.Common.{◌≡◌, ◌<◌, ◌≤◌, ◌+◌, ◌-◌, ◌⊎◌, ℕ, inl, inr, subst, arith}
use Rattle.std.proofs.lemmas.Bool.{cases_lt}

pub one_more :
    (P : ℕ → Type 0) (depth above last : ℕ) → ((i : ℕ) → depth ≤ i + above → i ≤ last → P i) → P (depth - 1 - above) → (i : ℕ) → depth ≤ i + (above + 1) →
    i ≤ last → P i
one_more P depth above last kept here i far within = by (cases_lt (i + above) depth)
  where
    by : (i + above < depth) ⊎ (depth ≤ i + above) → P i
    by (inl less) = let same : depth - 1 - above ≡ i = omega arith in subst P same here
    by (inr more) = kept i more within
