-- A text cut at its first line feed, and a line cut at its first blank.
use Rattle.std.proofs.Common.{◌||◌, ◌≡◌, ℕ, zero, suc, ◌+◌, ◌<◌, ◌≤◌, Bool, true, false, cond, List, [], ◌∷◌, length, take}
use Rattle.std.proofs.Common.{drop, get_or, filter, refl, sym, ◌∙◌, ap, arith, add-one, eqb, inl, inr}
use Rattle.std.proofs.lemmas.Bool.{cases_lt, ne_eqb}
use Rattle.std.proofs.Math.Seq.{drop-cons}
use Rattle.std.proofs.Common.{◌-◌}
use Rattle.std.proofs.lemmas.List.{take_all, drop_all, take_rest, drop-take, get_or-drop, length-drop}
use Rattle.std.specs.List.{slice_split, onto_first}
use Rattle.hg_text.specs.Kept.{is_line_feed, is_blank, is_filled, lines, fields}
use Rattle.std.specs.Char.{is_ascii_digit}
use Rattle.hg_text.specs.Cut.{FailsBelow, EndsField, ends_field, IsTrimmed, StopsAt}

-- F ends a part at each element that passes, as `lines` and `slice_split` do
abbrev pub IsCutting : (ℕ → Bool) → (List ℕ → List (List ℕ)) → Type 0
IsCutting p F = (x : ℕ) (xs : List ℕ) → F (x ∷ xs) ≡ cond (p x) ([] ∷ F xs) (onto_first x (F xs))

pub cut_at : (p : ℕ → Bool) (F : List ℕ → List (List ℕ)) (step : IsCutting p F) (xs : List ℕ) (i : ℕ) → i < length xs → p (get_or xs i 0) ≡ true →
    FailsBelow p xs i → F xs ≡ take i xs ∷ F (drop (suc i) xs)
cut_at p F step [] i h hit miss = absurd (omega arith)
cut_at p F step (x ∷ xs) zero h hit miss =
    step x xs ∙ ap (λ (b : Bool). cond b ([] ∷ F xs) (onto_first x (F xs))) hit
cut_at p F step (x ∷ xs) (suc i) h hit miss =
    step x xs ∙ ap (λ (b : Bool). cond b ([] ∷ F xs) (onto_first x (F xs))) (miss 0 (omega arith))
    ∙ ap (onto_first x) (cut_at p F step xs i (omega arith) hit (λ k l. miss (suc k) (omega arith)))

pub lines_at : (text : List ℕ) (i : ℕ) → i < length text → is_line_feed (get_or text i 0) ≡ true → FailsBelow is_line_feed text i →
    lines text ≡ take i text ∷
    lines (drop (i + 1) text)
lines_at text i h hit miss = rw add-one (cut_at is_line_feed lines (λ x xs. refl) text i h hit miss)

lines_last_from : (x : ℕ) (text : List ℕ) → FailsBelow is_line_feed (x ∷ text) (suc (length text)) → lines (x ∷ text) ≡ (x ∷ text) ∷ []
lines_last_from x [] miss = ap (λ (b : Bool). cond b ([] ∷ []) ((x ∷ []) ∷ [])) (miss 0 (omega arith))
lines_last_from x (y ∷ text) miss =
    ap (λ (b : Bool). cond b ([] ∷ lines (y ∷ text)) (onto_first x (lines (y ∷ text)))) (miss 0 (omega arith))
    ∙ ap (onto_first x) (lines_last_from y text (λ k l. miss (suc k) (omega arith)))

pub lines_last : (text : List ℕ) → 0 < length text → FailsBelow is_line_feed text (length text) → lines text ≡ text ∷ []
lines_last [] h miss = absurd (omega arith)
lines_last (x ∷ text) h miss = lines_last_from x text miss

pub fields_blank : (x : ℕ) (line : List ℕ) → is_blank x ≡ true → fields (x ∷ line) ≡ fields line
fields_blank x line hit =
    ap (λ (b : Bool). filter is_filled (cond b ([] ∷ slice_split is_blank line) (onto_first x (slice_split is_blank line)))) hit

fields_at : (x : ℕ) (line : List ℕ) (j : ℕ) → j < length line → is_blank (get_or line j 0) ≡ true → FailsBelow is_blank (x ∷ line) (suc j) →
    fields (x ∷ line) ≡ take (suc j) (x ∷ line) ∷ fields (drop (suc j) line)
fields_at x line j h hit miss =
    ap (filter is_filled) (cut_at is_blank (slice_split is_blank) (λ y ys. refl) (x ∷ line) (suc j) (omega arith) hit miss)

split_last : (line : List ℕ) → FailsBelow is_blank line (length line) → slice_split is_blank line ≡ line ∷ []
split_last [] miss = refl
split_last (x ∷ line) miss =
    ap (λ (b : Bool). cond b ([] ∷ slice_split is_blank line) (onto_first x (slice_split is_blank line))) (miss 0 (omega arith))
    ∙ ap (onto_first x) (split_last line (λ k l. miss (suc k) (omega arith)))

-- a field ends before a blank
pub ends_blank : (line : List ℕ) (i : ℕ) → ends_field line i ≡ true → i < length line → is_blank (get_or line i 0) ≡ true
ends_blank line i e h =
    let other : eqb i (length line) ≡ false = ne_eqb i (length line) (λ same. absurd (omega arith)) in
    sym (ap (λ (b : Bool). b || is_blank (get_or line i 0)) other) ∙ e

-- a line that begins with a field, cut behind it
fields_cut : (line : List ℕ) (i : ℕ) → 0 < i → i ≤ length line → FailsBelow is_blank line i → (i < length line → is_blank (get_or line i 0) ≡ true) →
    fields line ≡ take i line ∷ fields (drop i line)
fields_cut [] i low high miss ends = absurd (omega arith)
fields_cut (x ∷ line) zero low high miss ends = absurd (omega arith)
fields_cut (x ∷ line) (suc j) low high miss ends =
    elim (cases_lt j (length line)) [
      | inl less ↦ fields_at x line j less (ends (omega arith)) miss
          ∙ ap (λ (fs : List (List ℕ)). (x ∷ take j line) ∷ fs)
          (sym (ap fields (drop-cons line j 0 less) ∙ fields_blank (get_or line j 0) (drop (suc j) line)
          (ends (omega arith))))
      | inr more ↦
          (let all : length line ≡ j = omega arith in
          let whole : fields (x ∷ line) ≡ (x ∷ line) ∷ [] = ap (filter is_filled) (split_last (x ∷ line) (λ k l. miss k (omega arith))) in
          whole ∙ sym (rw (take_all j line (omega arith), drop_all j line (omega arith)) refl))
    ]

pub fields_front : (line : List ℕ) (i : ℕ) → EndsField line i → fields line ≡ take i line ∷ fields (drop i line)
fields_front line i end = fields_cut line i end.low end.high end.inside (ends_blank line i end.ends)

-- a blank between fields is passed
pub fields_next : (line : List ℕ) (i : ℕ) → i < length line → is_blank (get_or line i 0) ≡ true → fields (drop (i + 1) line) ≡ fields (drop i line)
fields_next line i h hit = rw add-one (sym (ap fields (drop-cons line i 0 h) ∙ fields_blank (get_or line i 0) (drop (suc i) line) hit))

pub trimmed_at : (line : List ℕ) (i : ℕ) → (i < length line → is_blank (get_or line i 0) ≡ false) → IsTrimmed (drop i line)
trimmed_at [] zero h = tt
trimmed_at [] (suc i) h = tt
trimmed_at (x ∷ line) zero h = h (omega arith)
trimmed_at (x ∷ line) (suc i) h = trimmed_at line i (λ l. h (omega arith))

-- what is left of a line, after some of it was passed
pub rest_of : (text : List ℕ) (len passed : ℕ) → passed ≤ len → take (len - passed) (drop passed text) ≡ drop passed (take len text)
rest_of text len passed h =
    let e : len ≡ passed + (len - passed) = omega arith in
    sym (ap (λ (k : ℕ). drop passed (take k text)) e ∙ drop-take passed (len - passed) text)

pub rest_of_line : (text : List ℕ) (len passed : ℕ) → passed ≤ len → take (len - passed) (take (length text - passed) (drop passed text)) ≡ drop passed
    (take len text)
rest_of_line text len passed h = ap (take (len - passed)) (take_rest text passed) ∙ rest_of text len passed h

pub stops_on : (text : List ℕ) (len passed : ℕ) → passed ≤ len → StopsAt text len → StopsAt (drop passed text) (len - passed)
stops_on text len passed h stops inside =
    let e : passed + (len - passed) ≡ len = omega arith in
    ap is_ascii_digit (get_or-drop passed text (len - passed) 0 ∙ ap (λ (k : ℕ). get_or text k 0) e) ∙ stops (omega (arith, length-drop passed text))
