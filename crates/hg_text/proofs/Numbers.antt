-- The number that a line begins with.
use Rattle.std.proofs.Common.{◌≡◌, ℕ, ◌<◌, ◌≤◌, ◌^◌, ◌⊎◌, true, false, List, length, take, drop, get_or, Option, Some}
use Rattle.std.proofs.Common.{None, Err, Ok, ◌+◌, min, refl, nat_lt, if◌then◌else◌, sym, ◌∙◌, ap, arith, inl, inr}
use Rattle.std.specs.List.{prefix_len}
use Rattle.std.specs.Char.{is_ascii_digit}
use Rattle.std.specs.Option.{ok_or}
use Rattle.std.specs.Str.Parse.{digits_value}
use Rattle.std.proofs.lemmas.Bool.Decides.{nat_tests}
use Rattle.std.proofs.lemmas.Bool.{cases_lt, both_ways}
use Rattle.std.proofs.lemmas.List.{get_or-take, length-take-le, take-take}
use Rattle.std.proofs.lemmas.List.Sums.{prefix_len-le-length, prefix_len_passes, prefix_len_stops, prefix_len_is}
use Rattle.hg_text.specs.Kept.{is_blank, fields, SpellsFirst}
use Rattle.hg_text.specs.Cut.{EndsField, ends_field, StopsAt}
use Rattle.hg_text.specs.declared.numeral.BadNumber.TheVariants.{NotDigits, TooBig}
use Rattle.hg_text.proofs.Cuts.{fields_front, ends_blank, fields_next}
use Rattle.hg_text.proofs.Digits.{number_not_digits, number_digits, fitting_option, prefix_len-take}

digit_not_blank : (c : ℕ) → is_ascii_digit c ≡ true → is_blank c ≡ false
digit_not_blank c hit = grind (arith, nat_tests)

-- a run of digits that ends the line or stands before a blank is its first field
pub digits_end : (line : List ℕ) (count : ℕ) → count ≡ prefix_len is_ascii_digit line → 0 < count → ends_field line count ≡ true → EndsField line count
digits_end line count e some ends = record {
  low = some;
  high = omega (arith, prefix_len-le-length is_ascii_digit line);
  inside = λ k h. digit_not_blank (get_or line k 0) (prefix_len_passes is_ascii_digit line k 0 (omega arith));
  ends = ends;
}

-- that field spells the number
pub spells_digits : (line : List ℕ) (count : ℕ) (value : Option ℕ) → count ≡ prefix_len is_ascii_digit line → EndsField line count →
    value ≡ (if nat_lt (digits_value 10 (take count line)) (2 ^ 64) then Some (digits_value 10 (take count line)) else None) → SpellsFirst (fields line)
    (fields (drop count line)) (ok_or value TooBig)
spells_digits line count value e end v =
    let size : length (take count line) ≡ count = length-take-le count line end.high in
    let all : prefix_len is_ascii_digit (take count line) ≡ count =
    prefix_len_is is_ascii_digit (take count line) count 0 (omega arith)
    (λ k h. ap is_ascii_digit (get_or-take count line k 0 h) ∙ prefix_len_passes is_ascii_digit line k 0 (omega arith))
    (λ h. absurd (omega arith)) in
    record {
      field = take count line;
      first = fields_front line count end;
      spelt = ap (λ (o : Option ℕ). ok_or o TooBig) v ∙ fitting_option (digits_value 10 (take count line))
          ∙ sym (number_digits (take count line) (omega (arith, end.low)) (omega arith));
    }

-- a field whose digits end before it does spells none
pub spells_none : (line : List ℕ) (count end : ℕ) → count ≡ prefix_len is_ascii_digit line → EndsField line end →
    (count ≡ 0) ⊎ (ends_field line count ≡ false) → SpellsFirst (fields line) (fields (drop end line)) (Err NotDigits)
spells_none line count end e ends early =
    let size : length (take end line) ≡ end = length-take-le end line ends.high in
    let less : count < end = elim early [
      | inl none ↦ omega (arith, ends.low)
      | inr stop ↦ elim (cases_lt count end) [
        | inl below ↦ below
        | inr past ↦ absurd (goes_on (cases_lt end count) past stop)
      ]
    ] in
    let short : prefix_len is_ascii_digit (take end line) ≡ count =
    prefix_len_is is_ascii_digit (take end line) count 0 (omega arith)
    (λ k h. ap is_ascii_digit (get_or-take end line k 0 (omega arith)) ∙ prefix_len_passes is_ascii_digit line k 0 (omega arith))
    (λ h. ap is_ascii_digit (get_or-take end line count 0 (omega arith)) ∙ stops (omega (arith, ends.high))) in
    record {
      field = take end line;
      first = fields_front line end ends;
      spelt = sym (number_not_digits (take end line) (inr (omega arith)));
    }
  where
    goes_on : (end < count) ⊎ (count ≤ end) → end ≤ count → ends_field line count ≡ false → ⊥
    goes_on (inl l) h stop = both_ways (is_blank (get_or line end 0))
        (digit_not_blank (get_or line end 0) (prefix_len_passes is_ascii_digit line end 0 (omega arith)))
        (ends_blank line end ends.ends (omega (arith, prefix_len-le-length is_ascii_digit line)))
    goes_on (inr l) h stop =
        let same : end ≡ count = omega arith in
        both_ways (ends_field line end) (ap (ends_field line) same ∙ stop) ends.ends

    stops : count < length line → is_ascii_digit (get_or line count 0) ≡ false
    stops h = ap (λ (n : ℕ). is_ascii_digit (get_or line n 0)) e ∙ prefix_len_stops is_ascii_digit line 0 (omega arith)

-- few digits that a text begins with stand in its line
pub few_in_line : (text : List ℕ) (len count : ℕ) → len ≤ length text → StopsAt text len → count ≡ min 8 (prefix_len is_ascii_digit text) → count < 8 →
    (count ≤ len) × (count ≡ prefix_len is_ascii_digit (take len text))
few_in_line text len count inside stops e few =
    let within : count ≤ len = elim (cases_lt len count) [
      | inl past ↦ absurd (both_ways (is_ascii_digit (get_or text len 0)) (stops (omega (arith, prefix_len-le-length is_ascii_digit text)))
          (prefix_len_passes is_ascii_digit text len 0 (omega arith)))
      | inr less ↦ less
    ] in
    (within, omega (arith, prefix_len-take is_ascii_digit len text))

-- they spell its first field, where they end with it
pub spells_few : (text : List ℕ) (len count value : ℕ) → len ≤ length text → StopsAt text len → count ≡ min 8 (prefix_len is_ascii_digit text) →
    0 < count → count < 8 → value ≡ digits_value 10 (take count text) → value < 2 ^ 64 → ends_field (take len text) count ≡ true →
    SpellsFirst (fields (take len text)) (fields (drop count (take len text))) (Ok value)
spells_few text len count value inside stops e some few v small ends =
    let line : List ℕ = take len text in
    let f = few_in_line text len count inside stops e few in
    let same : digits_value 10 (take count line) ≡ value = ap (digits_value 10) (take-take count len text f.0) ∙ sym v in
    let fits : nat_lt value (2 ^ 64) ≡ true = grind (arith, nat_tests) in
    let whole : Some value ≡ (if nat_lt (digits_value 10 (take count line)) (2 ^ 64) then Some (digits_value 10 (take count line)) else None) =
    rw (same, fits) refl in
    spells_digits line count (Some value) f.1 (digits_end line count f.1 some ends) whole

-- and so where a blank follows them, which is passed too
pub spells_blank : (text : List ℕ) (len count value : ℕ) → len ≤ length text → StopsAt text len → count ≡ min 8 (prefix_len is_ascii_digit text) →
    0 < count → count < 8 → value ≡ digits_value 10 (take count text) → value < 2 ^ 64 → count < len → is_blank (get_or text count 0) ≡ true →
    SpellsFirst (fields (take len text)) (fields (drop (count + 1) (take len text))) (Ok value)
spells_blank text len count value inside stops e some few v small within blank =
    let line : List ℕ = take len text in
    let size : length line ≡ len = length-take-le len text inside in
    let here : is_blank (get_or line count 0) ≡ true = ap is_blank (get_or-take len text count 0 within) ∙ blank in
    let ends : ends_field line count ≡ true = ends_at line count here in
    rw (fields_next line count (omega arith) here) (spells_few text len count value inside stops e some few v small ends)
  where
    ends_at : (line : List ℕ) (count : ℕ) → is_blank (get_or line count 0) ≡ true → ends_field line count ≡ true
    ends_at line count here = grind (arith, nat_tests)

-- and where they end the line
pub spells_last : (text : List ℕ) (len count value : ℕ) → len ≤ length text → StopsAt text len → count ≡ min 8 (prefix_len is_ascii_digit text) →
    0 < count → count < 8 → value ≡ digits_value 10 (take count text) → value < 2 ^ 64 → count ≡ len →
    SpellsFirst (fields (take len text)) (fields (drop count (take len text))) (Ok value)
spells_last text len count value inside stops e some few v small last =
    let size : length (take len text) ≡ len = length-take-le len text inside in
    spells_few text len count value inside stops e some few v small (ends_at (take len text) count (omega arith))
  where
    ends_at : (line : List ℕ) (count : ℕ) → count ≡ length line → ends_field line count ≡ true
    ends_at line count here = grind (arith, nat_tests)

pub feed_no_digit : (c : ℕ) → c ≡ 10 → is_ascii_digit c ≡ false
feed_no_digit c e = ap is_ascii_digit e

pub return_no_digit : (c : ℕ) → c ≡ 13 → is_ascii_digit c ≡ false
return_no_digit c e = ap is_ascii_digit e
