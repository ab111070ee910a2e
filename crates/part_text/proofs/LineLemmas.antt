-- The kept lines of a text of lines of numbers.
use Rattle.std.proofs.Common.{◌≡◌, ℕ, ◌+◌, ◌-◌, ◌^◌, ◌<◌, Bool, true, false, cond, not, ◌&&◌, eqb, List, [], ◌∷◌, ◌++◌}
use Rattle.std.proofs.Common.{length, map, filter, take, All, refl, sym, ap, ◌∙◌, append_assoc, arith}
use Rattle.std.proofs.lemmas.Bool.Decides.{nat_tests}
use Rattle.std.proofs.lemmas.List.Elements.{All-nil, All-cons, All-append, All-head, All-tail}
use Rattle.std.proofs.lemmas.List.Splits.{slice_split_none, slice_split_at}
use Rattle.std.proofs.lemmas.Fmt.{decimal_nonempty, digits_decimal, digits_value-decimal}
use Rattle.std.proofs.lemmas.Str.Parse.{numerals_by_value, tells_all_ascii_digits}
use Rattle.std.specs.Prelude.{Ok, Err, nat_lt}
use Rattle.std.specs.List.{flat_map, enumerate_from, onto_first}
use Rattle.std.specs.Char.{is_ascii_digit}
use Rattle.std.specs.Str.{all_ascii_digits}
use Rattle.std.specs.Str.Parse.{digits_value}
use Rattle.std.specs.Fmt.{decimal}
use Rattle.hg_text.specs.declared.numeral.BadNumber.TheVariants.{NotDigits, TooBig}
use Rattle.hg_text.specs.Kept.{is_line_feed, is_blank, is_filled, lines, without_return, fields, Line, is_kept, line_of, kept_from, number_of, fitting}
use Rattle.part_text.specs.NumberLines.{numbers_line}

-- ---- the digits of a number

all_digits-decimal : (n : ℕ) → n < 2 ^ 64 → all_ascii_digits (decimal n) ≡ true
all_digits-decimal n h =
    digits_decimal (numerals_by_value (λ ds. all_ascii_digits ds ≡ true) tells_all_ascii_digits) n h

-- what fails at each digit fails at each byte of a number
digits_fail : (p : ℕ → Bool) → ((b : ℕ) → is_ascii_digit b ≡ true → p b ≡ false) → (ds : List ℕ) → all_ascii_digits ds ≡ true → All (λ b. p b ≡ false) ds
digits_fail p fails [] h = All-nil (λ b. p b ≡ false)
digits_fail p fails (d ∷ ds) h = step (is_ascii_digit d) refl h (digits_fail p fails ds) where
  step : (b : Bool) → is_ascii_digit d ≡ b → b && all_ascii_digits ds ≡ true → (all_ascii_digits ds ≡ true → All (λ b. p b ≡ false) ds) →
      All (λ b. p b ≡ false) (d ∷ ds)
  step true e g later = All-cons (λ b. p b ≡ false) d ds (fails d e) (later g)
  step false e g later = cc

decimal_fails : (p : ℕ → Bool) → ((b : ℕ) → is_ascii_digit b ≡ true → p b ≡ false) → (n : ℕ) → n < 2 ^ 64 → All (λ b. p b ≡ false) (decimal n)
decimal_fails p fails n h = digits_fail p fails (decimal n) (all_digits-decimal n h)

digit-feed : (b : ℕ) → is_ascii_digit b ≡ true → is_line_feed b ≡ false
digit-feed b h = grind (arith, nat_tests)

digit-blank : (b : ℕ) → is_ascii_digit b ≡ true → is_blank b ≡ false
digit-blank b h = grind (arith, nat_tests)

digit-return : (b : ℕ) → is_ascii_digit b ≡ true → eqb b 13 ≡ false
digit-return b h = grind (arith, nat_tests)

digit-percent : (b : ℕ) → is_ascii_digit b ≡ true → eqb b 37 ≡ false
digit-percent b h = grind (arith, nat_tests)

filled : (xs : List ℕ) → 0 < length xs → is_filled xs ≡ true
filled [] h = absurd (omega arith)
filled (x ∷ xs) h = refl

filled-decimal : (n : ℕ) → n < 2 ^ 64 → is_filled (decimal n) ≡ true
filled-decimal n h = filled (decimal n) (decimal_nonempty n h)

pub number_of-decimal : (n : ℕ) → n < 2 ^ 64 → number_of (decimal n) ≡ Ok n
number_of-decimal n h =
    let fits : nat_lt n (2 ^ 64) ≡ true = grind (arith, nat_tests) in
    ap (λ (b : Bool). cond (b && all_ascii_digits (decimal n)) (fitting (digits_value 10 (decimal n))) (Err NotDigits)) (filled-decimal n h)
    ∙ ap (λ (b : Bool). cond b (fitting (digits_value 10 (decimal n))) (Err NotDigits)) (all_digits-decimal n h)
    ∙ ap fitting (digits_value-decimal (numerals_by_value (λ ds. all_ascii_digits ds ≡ true) tells_all_ascii_digits) n h)
    ∙ ap (λ (b : Bool). cond b (Ok n) (Err TooBig)) fits

-- ---- one line

-- the bytes of a line, without its line feed
abbrev pub body : List ℕ → List ℕ
body [] = []
body (n ∷ []) = decimal n
body (n ∷ m ∷ ns) = decimal n ++ 32 ∷ body (m ∷ ns)

numbers_line-body : (n : ℕ) (ns : List ℕ) → numbers_line (n ∷ ns) ≡ body (n ∷ ns) ++ 10 ∷ []
numbers_line-body n [] = refl
numbers_line-body n (m ∷ ns) =
    ap (λ l. decimal n ++ 32 ∷ l) (numbers_line-body m ns) ∙ sym (append_assoc (decimal n) (32 ∷ body (m ∷ ns)) (10 ∷ []))

-- what fails at each digit and at a blank fails at each byte of a line
body_fails : (p : ℕ → Bool) → ((b : ℕ) → is_ascii_digit b ≡ true → p b ≡ false) → p 32 ≡ false → (ns : List ℕ) → All (λ n. n < 2 ^ 64) ns →
    All (λ b. p b ≡ false) (body ns)
body_fails p fails blank [] h = All-nil (λ b. p b ≡ false)
body_fails p fails blank (n ∷ []) h = decimal_fails p fails n (All-head (λ n. n < 2 ^ 64) n [] h)
body_fails p fails blank (n ∷ m ∷ ns) h =
    All-append (λ b. p b ≡ false) (decimal n) (32 ∷ body (m ∷ ns)) (decimal_fails p fails n (All-head (λ n. n < 2 ^ 64) n (m ∷ ns) h))
    (All-cons (λ b. p b ≡ false) 32 (body (m ∷ ns)) blank (body_fails p fails blank (m ∷ ns) (All-tail (λ n. n < 2 ^ 64) n (m ∷ ns) h)))

lines_at_feed : (xs rest : List ℕ) → All (λ b. is_line_feed b ≡ false) xs → lines (xs ++ 10 ∷ rest) ≡ xs ∷ lines rest
lines_at_feed [] rest h = refl
lines_at_feed (x ∷ xs) rest h =
    ap (λ (b : Bool). cond b ([] ∷ lines (xs ++ 10 ∷ rest)) (onto_first x (lines (xs ++ 10 ∷ rest)))) (All-head (λ b. is_line_feed b ≡ false) x xs h)
    ∙ ap (onto_first x) (lines_at_feed xs rest (All-tail (λ b. is_line_feed b ≡ false) x xs h))

no_return : (line : List ℕ) → All (λ b. eqb b 13 ≡ false) line → without_return line ≡ line
no_return [] h = refl
no_return (x ∷ xs) h =
    ap (λ (b : Bool). cond b (take (length (x ∷ xs) - 1) (x ∷ xs)) (x ∷ xs)) (h (length (x ∷ xs) - 1) 0 (omega arith))

fields-body : (n : ℕ) (ns : List ℕ) → All (λ n. n < 2 ^ 64) (n ∷ ns) → fields (body (n ∷ ns)) ≡ map decimal (n ∷ ns)
fields-body n [] h =
    let small = All-head (λ n. n < 2 ^ 64) n [] h in
    ap (filter is_filled) (slice_split_none is_blank (decimal n) (decimal_fails is_blank digit-blank n small))
    ∙ ap (λ (b : Bool). cond b (decimal n ∷ []) []) (filled-decimal n small)
fields-body n (m ∷ ns) h =
    let small = All-head (λ n. n < 2 ^ 64) n (m ∷ ns) h in
    ap (filter is_filled) (slice_split_at is_blank (decimal n) 32 (body (m ∷ ns)) (decimal_fails is_blank digit-blank n small) refl)
    ∙ ap (λ (b : Bool). cond b (decimal n ∷ fields (body (m ∷ ns))) (fields (body (m ∷ ns)))) (filled-decimal n small)
    ∙ ap (λ (fs : List (List ℕ)). decimal n ∷ fs) (fields-body m ns (All-tail (λ n. n < 2 ^ 64) n (m ∷ ns) h))

-- ---- all lines

-- a line of numbers, as it is kept
abbrev pub numbers_kept : ℕ × List ℕ → Line
numbers_kept line = record { number = line.0; fields = map decimal line.1 }

-- each line has a number, and all numbers fit 64 bits
abbrev pub AreLines : List (List ℕ) → Type 0
AreLines [] = Unit {0}
AreLines ([] ∷ ls) = ⊥
AreLines ((n ∷ ns) ∷ ls) = All (λ m. m < 2 ^ 64) (n ∷ ns) × AreLines ls

line_of-body : (start n : ℕ) (ns : List ℕ) → All (λ m. m < 2 ^ 64) (n ∷ ns) → line_of (start, body (n ∷ ns)) ≡ numbers_kept (start, n ∷ ns)
line_of-body start n ns h =
    ap (λ (line : List ℕ). record { number = start; fields = fields line })
    (no_return (body (n ∷ ns)) (body_fails (λ b. eqb b 13) digit-return refl (n ∷ ns) h))
    ∙ ap (λ (fs : List (List ℕ)). record { number = start; fields = fs }) (fields-body n ns h)

kept-numbers : (start n : ℕ) (ns : List ℕ) → All (λ m. m < 2 ^ 64) (n ∷ ns) → is_kept (numbers_kept (start, n ∷ ns)) ≡ true
kept-numbers start n ns h =
    let small = All-head (λ m. m < 2 ^ 64) n ns h in
    ap not (decimal_fails (λ b. eqb b 37) digit-percent n small 0 0 (decimal_nonempty n small))

pub kept_from-numbers : (start : ℕ) (ls : List (List ℕ)) → AreLines ls → kept_from start (flat_map numbers_line ls) ≡ map numbers_kept
    (enumerate_from start ls)
kept_from-numbers start [] h = refl
kept_from-numbers start ([] ∷ ls) h = absurd h
kept_from-numbers start ((n ∷ ns) ∷ ls) h =
    let text = flat_map numbers_line ls in
    let bytes = body (n ∷ ns) in
    let cut : lines (numbers_line (n ∷ ns) ++ text) ≡ bytes ∷ lines text =
    ap (λ (l : List ℕ). lines (l ++ text)) (numbers_line-body n ns) ∙ ap lines (append_assoc bytes (10 ∷ []) text) ∙
    lines_at_feed bytes text (body_fails is_line_feed digit-feed refl (n ∷ ns) h.0) in
    ap (λ (parts : List (List ℕ)). filter is_kept (map line_of (enumerate_from start parts))) cut
    ∙ ap (λ (line : Line). filter is_kept (line ∷ map line_of (enumerate_from (start + 1) (lines text)))) (line_of-body start n ns h.0)
    ∙ ap (λ (b : Bool). cond b (numbers_kept (start, n ∷ ns) ∷ kept_from (start + 1) text) (kept_from (start + 1) text)) (kept-numbers start n ns h.0)
    ∙ ap (λ (later : List Line). numbers_kept (start, n ∷ ns) ∷ later) (kept_from-numbers (start + 1) ls h.1)
