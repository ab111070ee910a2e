-- What a pass books for one block more or less, by the price of a net of weight 1.
use Rattle.std.proofs.Common.{◌≡◌, ℕ, ◌+◌, ◌-◌, ◌*◌, ◌^◌, ◌<◌, ◌≤◌, pos, ◌-ℤ◌, sym, ap, ◌∙◌, arith}
use Rattle.std.proofs.lemmas.Int.{ints}
use Rattle.std.proofs.Math.Nat.{mul-le-mul_left}
use Rattle.hg_defs.specs.declared.objective.Objective.{Objective}
use Rattle.hg_defs.specs.Cost.{price}

-- the product of a weight and a step of the price
pub record IsProduct (w p q n s : ℕ) : Type 0 where
  pub products : w * p + n * s ≡ w * q
  pub small : n * s < 2 ^ 55

product : (w p q n s : ℕ) → n ≡ w → n < 2 ^ 54 → p + s ≡ q → s ≤ 2 → IsProduct w p q n s
product w p q n s e l f k =
    let a = mul-le-mul_left n k in
    let b : w * p + w * s ≡ w * q = sym (spread w p s) ∙ ap (λ z. w * z) f in
    let c : n * s ≡ w * s = ap (λ z. z * s) e in
    record { products = omega arith; small = omega arith }
  where
    spread : (x y z : ℕ) → x * (y + z) ≡ x * y + x * z
    spread x y z = omega arith

pub widen_value : (o : Objective) (w found n s : ℕ) → 64 ≤ found → n ≡ w → n < 2 ^ 54 → price o (found - 64) + s ≡ price o (found - 64 + 1) → s ≤ 2
    → (pos 0 -ℤ pos (n * s) ≡ pos (w * price o (found - 64)) -ℤ pos (w * price o (found + 1 - 64))) × (n * s < 2 ^ 55)
widen_value o w found n s g e l f k =
    let t : found - 64 + 1 ≡ found + 1 - 64 = omega arith in
    let p = product w (price o (found - 64)) (price o (found + 1 - 64)) n s e l (f ∙ ap (price o) t) k in
    let a = p.products in
    (omega (arith, ints), p.small)

pub narrow_value : (o : Objective) (w found n s : ℕ) → 65 ≤ found → n ≡ w → n < 2 ^ 54 → price o (found - 65) + s ≡ price o (found - 65 + 1) → s ≤ 2
    → (pos (n * s) ≡ pos (w * price o (found - 64)) -ℤ pos (w * price o (found - 1 - 64))) × (n * s < 2 ^ 55)
narrow_value o w found n s g e l f k =
    let t : found - 65 + 1 ≡ found - 64 = omega arith in
    let u : found - 65 ≡ found - 1 - 64 = omega arith in
    let p = product w (price o (found - 1 - 64)) (price o (found - 64)) n s e l (ap (λ z. price o z + s) (sym u) ∙ f ∙ ap (price o) t) k in
    let a = p.products in
    (omega (arith, ints), p.small)
