-- The laws over the words of numbers and of imbalances.
use Rattle.std.proofs.Common.{◌≡◌, ℕ, ◌+◌, ◌-◌, ◌*◌, ◌^◌, ◌<◌, ◌≤◌, ◌⊎◌, inl, inr, Bool, true, false, cond, if◌then◌else◌}
use Rattle.std.proofs.Common.{List, [], ◌∷◌, ◌++◌, length, take, drop, get_or, All, Option, Some, None, Ok, Err, refl, sym, ap, subst, ◌∙◌, arith}
use Rattle.std.specs.Prelude.{option_map, nat_le, nat_lt, not, ◌&&◌}
use Rattle.std.specs.List.{position_or_len, before_first, after_first}
use Rattle.std.specs.Str.{all_ascii_digits}
use Rattle.std.specs.Str.Parse.{digits_value}
use Rattle.std.proofs.Math.Nat.{mul_assoc, mul_comm, add-mul}
use Rattle.std.proofs.Math.Seq.{take-append_seam, drop-append-add}
use Rattle.std.proofs.lemmas.Bool.{leb-true, le-leb, ltb-true, ltb-false, lt-ltb, eqb-true, ne_eqb}
use Rattle.std.proofs.lemmas.Nat.{pow-add}
use Rattle.std.proofs.lemmas.List.{length-append, take_all}
use Rattle.std.proofs.lemmas.List.Elements.{All-nil, All-cons, All-head, All-tail, All-append}
use Rattle.std.proofs.lemmas.List.Sums.{split_at_first, passes_at_first}
use Rattle.std.proofs.lemmas.Str.Parse.{IsDigitsTest, IsNumeralModel, numerals_by_weight, numerals_by_value, tells_all_ascii_digits}
use Rattle.std.proofs.lemmas.Str.Parse.{digits_value_short}
use Rattle.hg_text.specs.declared.numeral.BadNumber.TheVariants.{NotDigits, TooBig}
use Rattle.hg_text.specs.Kept.{fitting, is_filled}
use Rattle.part_run.specs.Wanted.{within, number_within, fraction_of, is_point, in_thousandths, imbalance}
use Rattle.part_run.specs.NumberLaws.{IsDigit, decimal_value, Spells, SpellsThousandths, IsImbalance}
use Rattle.part_run.specs.NumberLaws.{NumbersAreSpelled, ImbalancesAreSpelled, ImbalancesAreThese}
use Rattle.part_run.proofs.SettingBounds.{within_bounds}

-- ---- digits

is_digits : IsDigitsTest (λ ds. All IsDigit ds)
is_digits = record {
  empty = All-nil IsDigit;
  parts = λ c cs h. (All-head IsDigit c cs h, All-tail IsDigit c cs h);
  more = λ c cs k h. All-cons IsDigit c cs k h;
}

by_weight : IsNumeralModel (λ ds. All IsDigit ds) (λ ds. decimal_value ds)
by_weight = numerals_by_weight (λ ds. All IsDigit ds) is_digits (λ ds. decimal_value ds) (record { empty = refl; more = λ c cs k. refl })

by_test : IsNumeralModel (λ ds. all_ascii_digits ds ≡ true) (λ ds. digits_value 10 ds)
by_test = numerals_by_value (λ ds. all_ascii_digits ds ≡ true) tells_all_ascii_digits

regrouped : (a b c : ℕ) → a + (b + c) ≡ a + b + c
regrouped a b c = omega arith

-- the value of digits in a row
value_append : (xs ys : List ℕ) → decimal_value (xs ++ ys) ≡ decimal_value xs * 10 ^ length ys + decimal_value ys
value_append [] ys = let none : decimal_value ys ≡ 0 * 10 ^ length ys + decimal_value ys = omega arith in none
value_append (x ∷ xs) ys =
    let first = (x - 48) * 10 ^ length xs in
    let scale = 10 ^ length ys in
    let power : 10 ^ length (xs ++ ys) ≡ 10 ^ length xs * scale = ap (λ n. 10 ^ n) (length-append xs ys) ∙ pow-add 10 (length xs) (length ys) in
    ap (λ n. (x - 48) * n + decimal_value (xs ++ ys)) power
    ∙ ap (λ n. n + decimal_value (xs ++ ys)) (sym (mul_assoc (x - 48) (10 ^ length xs) scale))
    ∙ ap (λ n. first * scale + n) (value_append xs ys)
    ∙ regrouped (first * scale) (decimal_value xs * scale) (decimal_value ys)
    ∙ ap (λ n. n + decimal_value ys) (sym (add-mul first (decimal_value xs) scale))

all_before : (xs ys : List ℕ) → All IsDigit (xs ++ ys) → All IsDigit xs
all_before [] ys h = All-nil IsDigit
all_before (x ∷ xs) ys h = All-cons IsDigit x xs (All-head IsDigit x (xs ++ ys) h) (all_before xs ys (All-tail IsDigit x (xs ++ ys) h))

all_behind : (xs ys : List ℕ) → All IsDigit (xs ++ ys) → All IsDigit ys
all_behind [] ys h = h
all_behind (x ∷ xs) ys h = all_behind xs ys (All-tail IsDigit x (xs ++ ys) h)

-- ---- numbers

filled_some : (word : List ℕ) → is_filled word ≡ true → 0 < length word
filled_some [] e = cc
filled_some (byte ∷ word) e = omega arith

some_filled : (word : List ℕ) → 0 < length word → is_filled word ≡ true
some_filled [] h = absurd (omega arith)
some_filled (byte ∷ word) h = refl

same_if : (b : Bool) (v n : ℕ) → (if b then Some v else None) ≡ Some n → v ≡ n
same_if true v n e = cc
same_if false v n e = cc

fits_within : (low high v n : ℕ) (b : Bool) → within low high (if b then Ok v else Err TooBig) ≡ Some n → within low high (Ok v) ≡ Some n
fits_within low high v n true e = e
fits_within low high v n false e = cc

number_spelled : (low high n : ℕ) (word : List ℕ) → number_within low high word ≡ Some n → Spells word n × (low ≤ n) × (n ≤ high)
number_spelled low high n word e = by (is_filled word) (all_ascii_digits word) refl refl e
  where
    by : (f a : Bool) → is_filled word ≡ f → all_ascii_digits word ≡ a →
        within low high (if f && a then fitting (digits_value 10 word) else Err NotDigits) ≡ Some n → Spells word n × (low ≤ n) × (n ≤ high)
    by true true some digits e =
        let taken = fits_within low high (digits_value 10 word) n (nat_lt (digits_value 10 word) (2 ^ 64)) e in
        let is = same_if (nat_le low (digits_value 10 word) && nat_le (digits_value 10 word) high) (digits_value 10 word) n taken in
        let numeral = by_test.to word digits in
        let bounds = within_bounds low high (Ok (digits_value 10 word)) n taken in
        (record { some = filled_some word some; digits = by_weight.from word numeral; value = by_weight.same word numeral ∙ is }, bounds.0, bounds.1)
    by true false some digits e = cc
    by false a some digits e = cc

number_taken : (low high n : ℕ) (word : List ℕ) → high < 2 ^ 64 → Spells word n → low ≤ n → n ≤ high → number_within low high word ≡ Some n
number_taken low high n word small is least most =
    let numeral = by_weight.to word is.digits in
    let value : digits_value 10 word ≡ n = sym (by_weight.same word numeral) ∙ is.value in
    ap (λ (f : Bool). within low high (if f && all_ascii_digits word then fitting (digits_value 10 word) else Err NotDigits)) (some_filled word is.some)
    ∙ ap (λ (a : Bool). within low high (if a then fitting (digits_value 10 word) else Err NotDigits)) (by_test.from word numeral)
    ∙ ap (λ v. within low high (fitting v)) value
    ∙ ap (λ (b : Bool). within low high (if b then Ok n else Err TooBig)) (lt-ltb n (2 ^ 64) (omega arith))
    ∙ ap (λ (a : Bool). if a && nat_le n high then Some n else None) (le-leb low n least)
    ∙ ap (λ (b : Bool). if b then Some n else None) (le-leb n high most)

pub numbers-spelled : NumbersAreSpelled
numbers-spelled low high n word small = (λ e. number_spelled low high n word e, λ is. number_taken low high n word small is.0 is.1 is.2)

-- ---- what stands behind the point

-- one to three digits that spell so many thousandths
record IsPart (part : List ℕ) (x : ℕ) : Type 0 where
  some : 0 < length part
  few : length part ≤ 3
  digits : All IsDigit part
  value : x * 10 ^ length part ≡ 1000 * decimal_value part

scaled : (o : Option ℕ) (f : ℕ → ℕ) (x : ℕ) → option_map f o ≡ Some x → (n : ℕ) × (o ≡ Some n) × (f n ≡ x)
scaled None f x e = cc
scaled (Some n) f x e = (n, refl, cc)

part_spelled : (part : List ℕ) (x : ℕ) → fraction_of part ≡ Some x → IsPart part x
part_spelled [] x e = cc
part_spelled (a ∷ []) x e =
    let n = scaled (number_within 0 999 (a ∷ [])) (λ n. n * 100) x e in
    let is = (number_spelled 0 999 n.0 (a ∷ []) n.1).0 in
    let value = is.value in
    let scale = n.2 in
    record { some = is.some; few = omega arith; digits = is.digits; value = (let r : x * 10 ≡ 1000 * decimal_value (a ∷ []) = omega arith in r) }
part_spelled (a ∷ b ∷ []) x e =
    let n = scaled (number_within 0 999 (a ∷ b ∷ [])) (λ n. n * 10) x e in
    let is = (number_spelled 0 999 n.0 (a ∷ b ∷ []) n.1).0 in
    let value = is.value in
    let scale = n.2 in
    record { some = is.some; few = omega arith; digits = is.digits; value = (let r : x * 100 ≡ 1000 * decimal_value (a ∷ b ∷ []) = omega arith in r) }
part_spelled (a ∷ b ∷ c ∷ []) x e =
    let is = (number_spelled 0 999 x (a ∷ b ∷ c ∷ []) e).0 in
    let value = is.value in
    record { some = is.some; few = omega arith; digits = is.digits; value = (let r : x * 1000 ≡ 1000 * decimal_value (a ∷ b ∷ c ∷ []) = omega arith in r) }
part_spelled (a ∷ b ∷ c ∷ d ∷ part) x e = cc

-- at most three digits spell a number below a thousand
short_taken : (part : List ℕ) → 0 < length part → length part ≤ 3 → All IsDigit part → number_within 0 999 part ≡ Some (decimal_value part)
short_taken part some few digits =
    let small : decimal_value part < 1000 = digits_value_short by_weight part 3 digits few in
    number_taken 0 999 (decimal_value part) part (omega arith) (record { some = some; digits = digits; value = refl }) (omega arith) (omega arith)

part_taken : (part : List ℕ) (x : ℕ) → IsPart part x → fraction_of part ≡ Some x
part_taken [] x is = let some = is.some in absurd (omega arith)
part_taken (a ∷ []) x is =
    let value : x * 10 ≡ 1000 * decimal_value (a ∷ []) = is.value in
    let scale : decimal_value (a ∷ []) * 100 ≡ x = omega arith in
    ap (option_map (λ n. n * 100)) (short_taken (a ∷ []) is.some is.few is.digits) ∙ ap Some scale
part_taken (a ∷ b ∷ []) x is =
    let value : x * 100 ≡ 1000 * decimal_value (a ∷ b ∷ []) = is.value in
    let scale : decimal_value (a ∷ b ∷ []) * 10 ≡ x = omega arith in
    ap (option_map (λ n. n * 10)) (short_taken (a ∷ b ∷ []) is.some is.few is.digits) ∙ ap Some scale
part_taken (a ∷ b ∷ c ∷ []) x is =
    let value : x * 1000 ≡ 1000 * decimal_value (a ∷ b ∷ c ∷ []) = is.value in
    let scale : decimal_value (a ∷ b ∷ c ∷ []) ≡ x = omega arith in
    short_taken (a ∷ b ∷ c ∷ []) is.some is.few is.digits ∙ ap Some scale
part_taken (a ∷ b ∷ c ∷ d ∷ part) x is = let few = is.few in absurd (omega arith)

-- ---- the point

no_point : (c : ℕ) → IsDigit c → is_point c ≡ false
no_point c digit = let low = digit.0 in ne_eqb c 46 (λ e. omega (arith, e))

-- one digit more before the first point
more_digits : (c : ℕ) (cs : List ℕ) (n : ℕ) → IsDigit c → position_or_len is_point cs ≡ n → position_or_len is_point (c ∷ cs) ≡ 1 + n
more_digits c cs n digit e =
    ap (λ (b : Bool). cond (not b) (1 + position_or_len is_point cs) 0) (no_point c digit) ∙ ap (λ m. 1 + m) e

ends_at : (whole : List ℕ) → All IsDigit whole → position_or_len is_point whole ≡ length whole
ends_at [] digits = refl
ends_at (c ∷ whole) digits =
    let more = more_digits c whole (length whole) (All-head IsDigit c whole digits) (ends_at whole (All-tail IsDigit c whole digits)) in
    omega (arith, more)

parts_at : (whole part : List ℕ) → All IsDigit whole → position_or_len is_point (whole ++ 46 ∷ part) ≡ length whole
parts_at [] part digits = refl
parts_at (c ∷ whole) part digits =
    let more = more_digits c (whole ++ 46 ∷ part) (length whole) (All-head IsDigit c whole digits)
    (parts_at whole part (All-tail IsDigit c whole digits)) in
    omega (arith, more)

-- ---- imbalances

-- a whole part and thousandths that make this imbalance
record IsSum (whole part : Option ℕ) (x : ℕ) : Type 0 where
  wholes : ℕ
  rest : ℕ
  of_whole : whole ≡ Some wholes
  of_part : part ≡ Some rest
  sum : wholes * 1000 + rest ≡ x
  most : x ≤ 100000

sum_of : (whole part : Option ℕ) (x : ℕ) → in_thousandths whole part ≡ Some x → IsSum whole part x
sum_of None part x e = cc
sum_of (Some a) None x e = cc
sum_of (Some a) (Some b) x e = by (nat_le (a * 1000 + b) 100000) refl e
  where
    by : (t : Bool) → nat_le (a * 1000 + b) 100000 ≡ t → (if t then Some (a * 1000 + b) else None) ≡ Some x → IsSum (Some a) (Some b) x
    by true l f =
        let same : a * 1000 + b ≡ x = cc in
        let most = leb-true (a * 1000 + b) 100000 l in
        record { wholes = a; rest = b; of_whole = refl; of_part = refl; sum = same; most = omega arith }
    by false l f = cc

sum_is : (whole part : Option ℕ) (x : ℕ) → IsSum whole part x → in_thousandths whole part ≡ Some x
sum_is whole part x is =
    let sum = is.sum in
    let most = is.most in
    ap (λ o. in_thousandths o part) is.of_whole
    ∙ ap (in_thousandths (Some is.wholes)) is.of_part
    ∙ ap (λ (b : Bool). if b then Some (is.wholes * 1000 + is.rest) else None) (le-leb (is.wholes * 1000 + is.rest) 100000 (omega arith))
    ∙ ap Some sum

-- the whole part and the thousandths together
joined : (a b p v : ℕ) → b * p ≡ 1000 * v → (a * 1000 + b) * p ≡ 1000 * (a * p + v)
joined a b p v e =
    let wholes : a * 1000 * p ≡ 1000 * (a * p) = ap (λ n. n * p) (mul_comm a 1000) ∙ mul_assoc 1000 a p in
    let both : 1000 * (a * p) + 1000 * v ≡ 1000 * (a * p + v) = omega arith in
    add-mul (a * 1000) b p ∙ ap (λ n. n + b * p) wholes ∙ ap (λ n. 1000 * (a * p) + n) e ∙ both

imbalance_spelled : (word : List ℕ) (x : ℕ) → imbalance word ≡ Some x → IsImbalance word x
imbalance_spelled word x e = by (nat_lt (position_or_len is_point word) (length word)) refl e
  where
    by : (t : Bool) → nat_lt (position_or_len is_point word) (length word) ≡ t →
        in_thousandths (number_within 0 100 (before_first is_point word)) (if t then fraction_of (after_first is_point word) else Some 0) ≡ Some x →
        IsImbalance word x
    by true l f =
        let whole = before_first is_point word in
        let part = after_first is_point word in
        let at = ltb-true (position_or_len is_point word) (length word) l in
        let s = sum_of (number_within 0 100 whole) (fraction_of part) x f in
        let front = (number_spelled 0 100 s.wholes whole s.of_whole).0 in
        let back = part_spelled part s.rest s.of_part in
        let dot = eqb-true (get_or word (position_or_len is_point word) 0) 46 (passes_at_first is_point word 0 at) in (
          s.most,
          inr (record {
            whole = whole;
            part = part;
            point = split_at_first is_point word 0 at ∙ ap (λ c. whole ++ c ∷ part) dot;
            before = front.some;
            behind = back.some;
            few = back.few;
            digits = All-append IsDigit whole part front.digits back.digits;
            value = ap (λ y. y * 10 ^ length part) (sym s.sum)
                ∙ joined s.wholes s.rest (10 ^ length part) (decimal_value part) back.value
                ∙ ap (λ n. 1000 * (n * 10 ^ length part + decimal_value part)) (sym front.value)
                ∙ ap (λ n. 1000 * n) (sym (value_append whole part));
          }),
        )
    by false l f =
        let past = ltb-false (position_or_len is_point word) (length word) l in
        let s = sum_of (number_within 0 100 (before_first is_point word)) (Some 0) x f in
        let front = (number_spelled 0 100 s.wholes (before_first is_point word) s.of_whole).0 in
        let all : before_first is_point word ≡ word = take_all (position_or_len is_point word) word past in
        let nothing : Some 0 ≡ Some s.rest = s.of_part in
        let none : 0 ≡ s.rest = cc in
        let sum = s.sum in
        (s.most, inl (s.wholes, subst (λ w. Spells w s.wholes) all front, omega arith))

past : (a b : ℕ) (t : Bool) → nat_lt a b ≡ t → b ≤ a → t ≡ false
past a b true e h = let less = ltb-true a b e in absurd (omega arith)
past a b false e h = refl

-- the thousandths that stand behind the point
behind_of : (a x : ℕ) (part : List ℕ) → 0 < length part → length part ≤ 3 → x * 10 ^ length part ≡ 1000 * (a * 10 ^ length part + decimal_value part) →
    (y : ℕ) × (a * 1000 + y ≡ x) × (y * 10 ^ length part ≡ 1000 * decimal_value part)
behind_of a x [] some few e = absurd (omega arith)
behind_of a x (b ∷ []) some few e =
    let is : x * 10 ≡ 1000 * (a * 10 + decimal_value (b ∷ [])) = e in
    let value : decimal_value (b ∷ []) * 100 * 10 ≡ 1000 * decimal_value (b ∷ []) = omega arith in
    (decimal_value (b ∷ []) * 100, omega arith, value)
behind_of a x (b ∷ c ∷ []) some few e =
    let is : x * 100 ≡ 1000 * (a * 100 + decimal_value (b ∷ c ∷ [])) = e in
    let value : decimal_value (b ∷ c ∷ []) * 10 * 100 ≡ 1000 * decimal_value (b ∷ c ∷ []) = omega arith in
    (decimal_value (b ∷ c ∷ []) * 10, omega arith, value)
behind_of a x (b ∷ c ∷ d ∷ []) some few e =
    let is : x * 1000 ≡ 1000 * (a * 1000 + decimal_value (b ∷ c ∷ d ∷ [])) = e in
    let value : decimal_value (b ∷ c ∷ d ∷ []) * 1000 ≡ 1000 * decimal_value (b ∷ c ∷ d ∷ []) = omega arith in
    (decimal_value (b ∷ c ∷ d ∷ []), omega arith, value)
behind_of a x (b ∷ c ∷ d ∷ f ∷ part) some few e = absurd (omega arith)

pointed_taken : (whole part : List ℕ) (x : ℕ) → x ≤ 100000 → 0 < length whole → 0 < length part → length part ≤ 3 → All IsDigit (whole ++ part) →
    x * 10 ^ length part ≡ 1000 * decimal_value (whole ++ part) → imbalance (whole ++ 46 ∷ part) ≡ Some x
pointed_taken whole part x most before behind few digits value =
    let word = whole ++ 46 ∷ part in
    let whole_digits = all_before whole part digits in
    let part_digits = all_behind whole part digits in
    let at = parts_at whole part whole_digits in
    let front : before_first is_point word ≡ whole = ap (λ n. take n word) at ∙ take-append_seam whole (46 ∷ part) in
    let back : after_first is_point word ≡ part = ap (λ n. drop (n + 1) word) at ∙ drop-append-add whole (46 ∷ part) 1 in
    let long : length word ≡ length whole + length (46 ∷ part) = length-append whole (46 ∷ part) in
    let rest = behind_of (decimal_value whole) x part behind few (value ∙ ap (λ n. 1000 * n) (value_append whole part)) in
    let sum = rest.1 in
    ap (λ (b : Bool). in_thousandths (number_within 0 100 (before_first is_point word)) (if b then fraction_of (after_first is_point word) else Some 0))
    (lt-ltb (position_or_len is_point word) (length word) (omega (arith, at, long)))
    ∙ sum_is (number_within 0 100 (before_first is_point word)) (fraction_of (after_first is_point word)) x (record {
      wholes = decimal_value whole;
      rest = rest.0;
      of_whole = ap (number_within 0 100) front ∙ number_taken 0 100 (decimal_value whole) whole (omega arith)
          (record { some = before; digits = whole_digits; value = refl }) (omega arith) (omega arith);
      of_part = ap fraction_of back ∙ part_taken part rest.0 (record { some = behind; few = few; digits = part_digits; value = rest.2 });
      sum = sum;
      most = most;
    })

whole_taken : (word : List ℕ) (x n : ℕ) → x ≤ 100000 → Spells word n → x ≡ 1000 * n → imbalance word ≡ Some x
whole_taken word x n most is value =
    let ends = ends_at word is.digits in
    let all : before_first is_point word ≡ word = take_all (position_or_len is_point word) word (omega (arith, ends)) in
    ap (λ (b : Bool). in_thousandths (number_within 0 100 (before_first is_point word)) (if b then fraction_of (after_first is_point word) else Some 0))
    (past (position_or_len is_point word) (length word) (nat_lt (position_or_len is_point word) (length word)) refl (omega (arith, ends)))
    ∙ sum_is (number_within 0 100 (before_first is_point word)) (Some 0) x (record {
      wholes = n;
      rest = 0;
      of_whole = ap (number_within 0 100) all ∙ number_taken 0 100 n word (omega arith) is (omega arith) (omega arith);
      of_part = refl;
      sum = omega arith;
      most = most;
    })

imbalance_taken : (word : List ℕ) (x : ℕ) → IsImbalance word x → imbalance word ≡ Some x
imbalance_taken word x is = by is.1
  where
    by : ((n : ℕ) × Spells word n × (x ≡ 1000 * n)) ⊎ SpellsThousandths word x → imbalance word ≡ Some x
    by (inl m) = whole_taken word x m.0 is.0 m.1 m.2
    by (inr m) = subst (λ w. imbalance w ≡ Some x) (sym m.point)
        (pointed_taken m.whole m.part x is.0 m.before m.behind m.few m.digits m.value)

pub imbalances-spelled : ImbalancesAreSpelled
imbalances-spelled word x = (λ e. imbalance_spelled word x e, λ is. imbalance_taken word x is)

pub imbalances-these : ImbalancesAreThese
imbalances-these = (refl, refl, refl, refl, refl, refl)
