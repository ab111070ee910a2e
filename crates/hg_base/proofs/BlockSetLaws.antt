-- Laws of a set of numbers as words.
use Rattle.std.proofs.Common.{zero, suc, [], ◌∷◌, ◌≡◌, ◌≢◌, ℕ, ◌*◌, ◌/◌, ◌%◌, ◌^◌, ◌<◌, false, not, ◌||◌, nat_eq, List, length, slice_index, slice_set}
use Rattle.std.proofs.Common.{bit_and, bit_or, w64, get_or-set_same, get_or-set_other, refl, sym, ap, ap₂, ◌∙◌, ⊎_elim, arith}
use Rattle.std.specs.Int.{bit_at}
use Rattle.std.proofs.lemmas.Bool.{cases_eq, eq-eqb, ne_eqb}
use Rattle.std.proofs.lemmas.Nat.{pow_below, pow_pos}
use Rattle.std.proofs.Math.Nat.{mod-eq_of_lt, one-mul}
use Rattle.std.proofs.lemmas.Nat.Bits.{and_pow, bit_at-lt, bit_at-zero, bit_at_set_same, bit_at_set_other}
use Rattle.hg_base.specs.BlockSet.{has}

-- the word with one bit, as code makes it
abbrev pub one_bit : ℕ → ℕ
one_bit i = 1 * 2 ^ i % 2 ^ 64

pub has-set : (ws : List ℕ) (x b : ℕ) → x / 64 < length ws → has (slice_set ws (x / 64) (bit_or (slice_index ws (x / 64)) (one_bit (x % 64)))) b ≡
    (nat_eq b x || has ws b)
has-set ws x b inside =
    let bit : x % 64 < 64 = omega arith in
    let word = bit_or (slice_index ws (x / 64)) (one_bit (x % 64)) in
    ⊎_elim
    (λ (e : b / 64 ≡ x / 64).
    let read = ap (slice_index (slice_set ws (x / 64) word)) e ∙ get_or-set_same ws (x / 64) word 0 inside in
    ⊎_elim
    (λ (f : b % 64 ≡ x % 64).
    ap (λ n. nat_eq n 1) (ap₂ bit_at read f ∙ bit_at_set_same w64 (slice_index ws (x / 64)) (x % 64) bit)
    ∙ ap (λ t. t || has ws b) (sym (eq-eqb b x (omega arith))))
    (λ (f : b % 64 ≢ x % 64).
    ap (λ n. nat_eq n 1) (ap (λ n. bit_at n (b % 64)) read ∙ bit_at_set_other w64 (slice_index ws (x / 64)) (x % 64) bit (b % 64) f ∙
    ap (λ n. bit_at (slice_index ws n) (b % 64)) (sym e))
    ∙ ap (λ t. t || has ws b) (sym (ne_eqb b x (λ g. f (ap (λ n. n % 64) g)))))
    (cases_eq (b % 64) (x % 64)))
    (λ (e : b / 64 ≢ x / 64).
    ap (λ n. nat_eq (bit_at n (b % 64)) 1) (get_or-set_other ws (x / 64) (b / 64) word 0 e)
    ∙ ap (λ t. t || has ws b) (sym (ne_eqb b x (λ g. e (ap (λ n. n / 64) g)))))
    (cases_eq (b / 64) (x / 64))

not_has : (n m : ℕ) → n < 2 → 0 < m → nat_eq (n * m) 0 ≡ not (nat_eq n 1)
not_has n m h k =
    ⊎_elim
    (λ (e : n ≡ 0). eq-eqb (n * m) 0 (let p = ap (λ z. z * m) e in omega arith) ∙ ap (λ z. not (nat_eq z 1)) (sym e))
    (λ (e : n ≢ 0). let one : n ≡ 1 = omega arith in ne_eqb (n * m) 0 (λ z. absurd (let p = ap (λ y. y * m) one in omega arith)) ∙
    ap (λ z. not (nat_eq z 1))
    (sym one))
    (cases_eq n 0)

-- the test whether a bit is 0
pub is_new : (ws : List ℕ) (x : ℕ) → nat_eq (bit_and (slice_index ws (x / 64)) (one_bit (x % 64))) 0 ≡ not (has ws x)
is_new ws x =
    let bit : x % 64 < 64 = omega arith in
    let small = pow_below (x % 64) 64 bit in
    let word = slice_index ws (x / 64) in
    ap (λ m. nat_eq (bit_and word m) 0) (mod-eq_of_lt (omega arith) ∙ one-mul (2 ^ (x % 64)))
    ∙ ap (λ m. nat_eq m 0) (and_pow word (x % 64))
    ∙ not_has (bit_at word (x % 64)) (2 ^ (x % 64)) (bit_at-lt word (x % 64)) (pow_pos (x % 64))

-- the empty set
pub has-empty : (b : ℕ) → has (0 ∷ 0 ∷ 0 ∷ 0 ∷ []) b ≡ false
has-empty b = ap (λ n. nat_eq (bit_at n (b % 64)) 1) (zeros (b / 64)) ∙ ap (λ n. nat_eq n 1) (bit_at-zero (b % 64))
  where
    zeros : (i : ℕ) → slice_index (0 ∷ 0 ∷ 0 ∷ 0 ∷ []) i ≡ 0
    zeros zero = refl
    zeros (suc zero) = refl
    zeros (suc (suc zero)) = refl
    zeros (suc (suc (suc zero))) = refl
    zeros (suc (suc (suc (suc i)))) = refl
