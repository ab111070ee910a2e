-- The shares of a whole that is cut into equal parts, rounded down.
use Rattle.std.proofs.Common.{◌≡◌, ℕ, ◌+◌, ◌*◌, ◌/◌, ◌%◌, ◌<◌, ◌≤◌, arith}
use Rattle.std.proofs.Math.Nat.{lt_of_mul-lt-mul_left, div-add-mod, mod-lt}

-- two shares that follow on each other differ by a part, or by one more
pub share_even : (n k w : ℕ) → 0 < w → (n * k / w + n / w ≤ n * (k + 1) / w) × (n * (k + 1) / w ≤ n * k / w + n / w + 1)
share_even n k w positive =
    let one = n * k / w in
    let next = n * (k + 1) / w in
    let part = n / w in
    let a : w * one + n * k % w ≡ n * k = div-add-mod (n * k) w in
    let b : w * next + n * (k + 1) % w ≡ n * (k + 1) = div-add-mod (n * (k + 1)) w in
    let c : w * part + n % w ≡ n = div-add-mod n w in
    let ra : n * k % w < w = mod-lt (n * k) positive in
    let rb : n * (k + 1) % w < w = mod-lt (n * (k + 1)) positive in
    let rc : n % w < w = mod-lt n positive in
    let low : w * (one + part) < w * (next + 1) = omega arith in
    let high : w * next < w * (one + part + 2) = omega arith in
    let low' : one + part < next + 1 = lt_of_mul-lt-mul_left w low in
    let high' : next < one + part + 2 = lt_of_mul-lt-mul_left w high in
    (omega arith, omega arith)
