-- Laws of counts in words: one more or one less in the count of a block, and the other counts.
use Rattle.std.proofs.Common.{◌≡◌, ◌≢◌, ℕ, ◌+◌, ◌/◌, ◌%◌, ◌<◌, Bool, true, false, if◌then◌else◌, nat_eq, List}
use Rattle.std.proofs.Common.{length, set, slice_index, refl, sym, ap, ◌∙◌, arith, add-zero}
use Rattle.std.proofs.lemmas.List.{get_or-set_same, get_or-set_other}
use Rattle.std.proofs.lemmas.Bool.{eqb-true, eqb-false, ne_eqb, eq-eqb}
use Rattle.hg_base.specs.Packed.{fields_of, field, count_at}
use Rattle.hg_base.proofs.PackedLaws.{same_block}

-- the count of one block, where that of another one changes by its field
same_place : (f b c : ℕ) → c / f ≡ b / f → nat_eq (c % f) (b % f) ≡ nat_eq c b
same_place f b c quotient = by (nat_eq c b) refl
  where
    by : (t : Bool) → nat_eq c b ≡ t → nat_eq (c % f) (b % f) ≡ t
    by true e = eq-eqb (c % f) (b % f) (ap (λ x. x % f) (eqb-true c b e))
    by false e = ne_eqb (c % f) (b % f) (λ r. eqb-false c b e (same_block f c b quotient r))

other_place : (f b c : ℕ) → c / f ≢ b / f → nat_eq c b ≡ false
other_place f b c q = ne_eqb c b (λ e. q (ap (λ x. x / f) e))

module _ (words : List ℕ) (start bits b word : ℕ) (inside : start + b / fields_of bits < length words) where
  abbrev before : ℕ
  before = slice_index words (start + b / fields_of bits)

  abbrev after : List ℕ
  after = set words (start + b / fields_of bits) word

  read : (c : ℕ) → c / fields_of bits ≡ b / fields_of bits → slice_index after (start + c / fields_of bits) ≡ word
  read c quotient = ap (slice_index after) (ap (λ x. start + x) quotient) ∙ get_or-set_same words (start + b / fields_of bits) word 0 inside

  far : (c : ℕ) → c / fields_of bits ≢ b / fields_of bits → count_at after start bits c ≡ count_at words start bits c
  far c apart =
      let other : start + c / fields_of bits ≢ start + b / fields_of bits = λ r. apart (omega arith) in
      ap (λ w. field w bits (c % fields_of bits)) (get_or-set_other words (start + b / fields_of bits) (start + c / fields_of bits) word 0 other)

  -- a word whose field is one more
  pub raise_count : ((q : ℕ) → field word bits q ≡ field before bits q + (if nat_eq q (b % fields_of bits) then 1 else 0)) → (c : ℕ) →
      count_at after start bits c ≡ count_at words start bits c + (if nat_eq c b then 1 else 0)
  raise_count fields c = by (nat_eq (c / fields_of bits) (b / fields_of bits)) refl
    where
      by : (t : Bool) → nat_eq (c / fields_of bits) (b / fields_of bits) ≡ t → count_at after start bits c ≡ count_at words start bits c +
          (if nat_eq c b then 1 else 0)
      by true e =
          let quotient = eqb-true (c / fields_of bits) (b / fields_of bits) e in
          ap (λ w. field w bits (c % fields_of bits)) (read c quotient)
          ∙ fields (c % fields_of bits)
          ∙ ap (λ x. field (slice_index words (start + x)) bits (c % fields_of bits) + (if nat_eq (c % fields_of bits) (b % fields_of bits) then 1 else 0))
          (sym quotient)
          ∙ ap (λ t. count_at words start bits c + (if t then 1 else 0)) (same_place (fields_of bits) b c quotient)
      by false e =
          let apart = eqb-false (c / fields_of bits) (b / fields_of bits) e in
          far c apart ∙ sym (add-zero (count_at words start bits c)) ∙ ap (λ t. count_at words start bits c + (if t then 1 else 0))
          (sym (other_place (fields_of bits) b c apart))

  -- a word whose field is one less
  pub lower_count : ((q : ℕ) → field word bits q + (if nat_eq q (b % fields_of bits) then 1 else 0) ≡ field before bits q) → (c : ℕ) →
      count_at after start bits c + (if nat_eq c b then 1 else 0) ≡ count_at words start bits c
  lower_count fields c = by (nat_eq (c / fields_of bits) (b / fields_of bits)) refl
    where
      by : (t : Bool) → nat_eq (c / fields_of bits) (b / fields_of bits) ≡ t → count_at after start bits c + (if nat_eq c b then 1 else 0) ≡ count_at words
          start bits c
      by true e =
          let quotient = eqb-true (c / fields_of bits) (b / fields_of bits) e in
          ap (λ w. field w bits (c % fields_of bits) + (if nat_eq c b then 1 else 0)) (read c quotient)
          ∙ ap (λ t. field word bits (c % fields_of bits) + (if t then 1 else 0)) (sym (same_place (fields_of bits) b c quotient))
          ∙ fields (c % fields_of bits)
          ∙ ap (λ x. field (slice_index words (start + x)) bits (c % fields_of bits)) (sym quotient)
      by false e =
          let apart = eqb-false (c / fields_of bits) (b / fields_of bits) e in
          ap (λ x. x + (if nat_eq c b then 1 else 0)) (far c apart)
          ∙ ap (λ t. count_at words start bits c + (if t then 1 else 0)) (other_place (fields_of bits) b c apart) ∙ add-zero (count_at words start bits c)
