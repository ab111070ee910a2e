-- Bounds on the limit of a load.
use Rattle.std.proofs.Common.{ℕ, ◌^◌, ◌<◌, ◌≤◌, ⊎_elim, arith}
use Rattle.std.proofs.lemmas.Bool.{cases_lt}
use Rattle.std.proofs.Math.Nat.{mul-le-mul_left, mul-le-mul_right}
use Rattle.hg_defs.specs.Partition.{divided_up, limit}

-- a share is no more than the whole
pub divided_up-le : (t k : ℕ) → 0 < k → divided_up t k ≤ t
divided_up-le t k h =
    ⊎_elim
    (λ (l : t < divided_up t k).
    let a = mul-le-mul_left k l in
    let b = mul-le-mul_right t h in
    absurd (omega arith))
    (λ (l : divided_up t k ≤ t). l)
    (cases_lt t (divided_up t k))

pub limit-lt : (t k eps : ℕ) → t < 2 ^ 54 → 0 < k → eps ≤ 100000 → limit t k eps < 2 ^ 61
limit-lt t k eps h l m =
    let share = divided_up-le t k l in
    let a = mul-le-mul_right (divided_up t k) m in
    omega arith
