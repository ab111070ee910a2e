-- Slices that are moved from a list to the front of another.
use Rattle.std.proofs.Common.{◌≡◌, ◌≤◌, ◌++◌, length, take, drop, ℕ, ◌+◌, ◌-◌, List, arith, sym, ap, ◌∙◌}
use Rattle.std.proofs.Common.{length-take, length-drop, take_at, take-append-drop}
use Rattle.std.proofs.lemmas.List.{drop-drop}

-- the n elements from `at` on are n long
pub length-range : (bytes piece : List ℕ) (at n : ℕ) → at + n ≤ length bytes → piece ≡ take (at + n - at) (drop at bytes) → length piece ≡ n
length-range bytes piece at n within is =
    omega (arith, ap length is, length-take (at + n - at) (drop at bytes), length-drop at bytes)

-- a list from `at` on is the n elements that were moved to the front of another list, and the rest
pub moved_front : (bytes piece other : List ℕ) (at n : ℕ) → at + n ≤ length bytes → piece ≡ take (at + n - at) (drop at bytes)
    → drop at bytes ≡ take n (piece ++ drop n other) ++ drop (at + n) bytes
moved_front bytes piece other at n within is =
    let count : at + n - at ≡ n = omega arith in
    let same : piece ≡ take n (drop at bytes) = is ∙ ap (λ k. take k (drop at bytes)) count in
    let front : take n (piece ++ drop n other) ≡ piece = take_at piece (drop n other) n (length-range bytes piece at n within is) in
    sym (take-append-drop n (drop at bytes)) ∙ ap (λ l. l ++ drop n (drop at bytes)) (sym same ∙ sym front)
    ∙ ap (λ l. take n (piece ++ drop n other) ++ l) (drop-drop n at bytes)
