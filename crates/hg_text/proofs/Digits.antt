-- The digits that a text begins with.
use Rattle.std.proofs.Common.{add-one, min, drop, lit<, zero, suc, cond, ◌≡◌, ℕ, suc, ◌+◌, ◌*◌, ◌<◌, ◌≤◌, ◌^◌, Bool, true, false, cond, ◌&&◌, List, [], ◌∷◌}
use Rattle.std.proofs.Common.{length, take, get_or, refl, ◌∙◌, ap, arith, inl, inr, ◌-◌, ◌/◌, ◌⊎◌, Some, None, Ok, Err, nat_lt, if◌then◌else◌}
use Rattle.std.specs.Option.{ok_or}
use Rattle.std.proofs.Math.Nat.{pow-le-pow_right, pow-suc}
use Rattle.std.proofs.lemmas.List.{take-take}
use Rattle.std.proofs.lemmas.Str.Parse.{digits_value-take-le}
use Rattle.hg_text.specs.Kept.{number_of, fitting}
use Rattle.hg_text.specs.declared.numeral.BadNumber.TheVariants.{NotDigits, TooBig}
use Rattle.std.specs.List.{prefix_len}
use Rattle.std.specs.Char.{is_ascii_digit, digit_value}
use Rattle.std.specs.Str.{all_ascii_digits}
use Rattle.std.specs.Str.Parse.{digits_value}
use Rattle.std.proofs.lemmas.Str.{digit_value_digit}
use Rattle.std.proofs.lemmas.Int.Digits.{digits_value_more}

pub all_digits : (ds : List ℕ) → length ds ≤ prefix_len is_ascii_digit ds → all_ascii_digits ds ≡ true
all_digits [] h = refl
all_digits (d ∷ ds) h = step (is_ascii_digit d) refl h (all_digits ds) where
  step : (b : Bool) → is_ascii_digit d ≡ b → suc (length ds) ≤ cond b (1 + prefix_len is_ascii_digit ds) 0 →
      (length ds ≤ prefix_len is_ascii_digit ds → all_ascii_digits ds ≡ true) → is_ascii_digit d && all_ascii_digits ds ≡ true
  step true e g later = ap (λ (b : Bool). b && all_ascii_digits ds) e ∙ later (omega arith)
  step false e g later = absurd (omega arith)

pub not_all_digits : (ds : List ℕ) → prefix_len is_ascii_digit ds < length ds → all_ascii_digits ds ≡ false
not_all_digits [] h = absurd (omega arith)
not_all_digits (d ∷ ds) h = step (is_ascii_digit d) refl h (not_all_digits ds) where
  step : (b : Bool) → is_ascii_digit d ≡ b → cond b (1 + prefix_len is_ascii_digit ds) 0 < suc (length ds) →
      (prefix_len is_ascii_digit ds < length ds → all_ascii_digits ds ≡ false) → is_ascii_digit d && all_ascii_digits ds ≡ false
  step true e g later = ap (λ (b : Bool). b && all_ascii_digits ds) e ∙ later (omega arith)
  step false e g later = ap (λ (b : Bool). b && all_ascii_digits ds) e

-- one more digit
pub value_more : (text : List ℕ) (i : ℕ) → i < length text → 48 ≤ get_or text i 0 → get_or text i 0 ≤ 57 → digits_value 10 (take (i + 1) text) ≡
    digits_value
    10 (take i text) * 10 + (get_or text i 0 - 48)
value_more text i h low high =
    let digit : digit_value (get_or text i 0) ≡ get_or text i 0 - 48 = omega (arith, digit_value_digit (get_or text i 0) (low, high)) in
    digits_value_more 10 text i h ∙ ap (λ (d : ℕ). digits_value 10 (take i text) * 10 + d) digit

-- one more digit would take the value past 64 bits, and so would all that follow
pub value_past : (text : List ℕ) (i more : ℕ) → i < length text → 48 ≤ get_or text i 0 → get_or text i 0 ≤ 57 → 0 < more →
    (2 ^ 64 - 1 - (get_or text i 0 - 48)) / 10 < digits_value 10 (take i text) → 2 ^ 64 ≤ digits_value 10 (take (i + more) text)
value_past text i more h low high some past =
    let here : 2 ^ 64 ≤ digits_value 10 (take (i + 1) text) = omega (arith, value_more text i h low high) in
    let later : digits_value 10 (take (i + 1) (take (i + more) text)) ≤ digits_value 10 (take (i + more) text) = digits_value-take-le 10
    (take (i + more) text)
    (i + 1) (omega arith) in
    let same : digits_value 10 (take (i + 1) (take (i + more) text)) ≡ digits_value 10 (take (i + 1) text) = ap (digits_value 10)
    (take-take (i + 1) (i + more) text (omega arith)) in
    omega arith

-- a field whose digits end early
pub number_not_digits : (field : List ℕ) → (prefix_len is_ascii_digit field ≡ 0) ⊎ (prefix_len is_ascii_digit field < length field) →
    number_of field ≡ Err NotDigits
number_not_digits [] h = refl
number_not_digits (x ∷ field) h =
    let less : prefix_len is_ascii_digit (x ∷ field) < length (x ∷ field) = elim h [ inl e ↦ omega arith | inr l ↦ l ] in
    ap (λ (b : Bool). if b then fitting (digits_value 10 (x ∷ field)) else Err NotDigits) (not_all_digits (x ∷ field) less)

-- a field of digits
pub number_digits : (field : List ℕ) → 0 < length field → length field ≤ prefix_len is_ascii_digit field → number_of field ≡ fitting (digits_value 10 field)
number_digits [] h d = absurd (omega arith)
number_digits (x ∷ field) h d =
    ap (λ (b : Bool). if b then fitting (digits_value 10 (x ∷ field)) else Err NotDigits) (all_digits (x ∷ field) d)

pub fitting_option : (value : ℕ) → ok_or (if nat_lt value (2 ^ 64) then Some value else None) TooBig ≡ fitting value
fitting_option value = step (nat_lt value (2 ^ 64)) where
  step : (b : Bool) → ok_or (if b then Some value else None) TooBig ≡ (if b then Ok value else Err TooBig)
  step true = refl
  step false = refl

-- the run at the front of a part of a list
pub prefix_len-take : (p : ℕ → Bool) (m : ℕ) (xs : List ℕ) → prefix_len p (take m xs) ≡ min m (prefix_len p xs)
prefix_len-take p zero xs = omega arith
prefix_len-take p (suc m) [] = omega arith
prefix_len-take p (suc m) (x ∷ xs) = step (p x) (prefix_len-take p m xs) where
  step : (b : Bool) → prefix_len p (take m xs) ≡ min m (prefix_len p xs) → cond b (1 + prefix_len p (take m xs)) 0 ≡ min (suc m)
      (cond b (1 + prefix_len p xs) 0)
  step true e = grind arith
  step false e = omega arith

-- a run, after some of it was passed
pub prefix_len_split : (p : ℕ → Bool) (n : ℕ) (xs : List ℕ) → n ≤ prefix_len p xs → prefix_len p xs ≡ n + prefix_len p (drop n xs)
prefix_len_split p zero xs h = omega arith
prefix_len_split p (suc n) [] h = absurd (omega arith)
prefix_len_split p (suc n) (x ∷ xs) h = step (p x) h (prefix_len_split p n xs) where
  step : (b : Bool) → suc n ≤ cond b (1 + prefix_len p xs) 0 → (n ≤ prefix_len p xs → prefix_len p xs ≡ n + prefix_len p (drop n xs)) →
      cond b (1 + prefix_len p xs) 0 ≡ suc n + prefix_len p (drop n xs)
  step true g later = omega (arith, later (omega arith))
  step false g later = absurd (omega arith)

-- a number of at most 18 digits has room for another
pub room : (value count : ℕ) → value < 10 ^ count → count < 19 → value < 10 ^ 18
room value count small short =
    let few : count ≤ 18 = omega arith in
    let most : 10 ^ count ≤ 10 ^ 18 = pow-le-pow_right (lit< tt) few in
    omega arith

pub room_more : (value count digit : ℕ) → value < 10 ^ count → digit ≤ 9 → value * 10 + digit < 10 ^ (count + 1)
room_more value count digit small d = rw add-one (omega (arith, pow-suc 10 count))
