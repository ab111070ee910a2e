-- Causes over several calls.
use Rattle.std.proofs.Common.{◌≡◌, ◌∙◌, ℕ, ◌≤◌, Result, arith, le_trans}
use Rattle.std.specs.Prelude.{Ok, Err}
use Rattle.hg_io.specs.Faults.{Rose, HasCause}

-- a rise in the second of two spans is a rise in both
pub Rose-after : (a b c : ℕ) → a ≤ b → Rose b c → Rose a c
Rose-after a b c first second = omega (arith, first, second)

-- a rise in the first of two spans is a rise in both
pub Rose-before : (a b c : ℕ) → Rose a b → b ≤ c → Rose a c
Rose-before a b c first second = omega (arith, first, second)

-- the cause of the second of two calls is the cause of both
pub HasCause-after : {T E : Type 0} → (a b c : ℕ) (r : Result T E) → b ≡ a → HasCause b c r → HasCause a c r
HasCause-after a b c (Ok x) first second = record { later = omega (arith, first, second.later); failed = tt; kept = second.kept ∙ first }
HasCause-after a b c (Err e) first second =
    let before : a ≤ b = omega (arith, first) in
    record { later = le_trans before second.later; failed = Rose-after a b c before second.failed; kept = tt }
