-- A text cut behind a line feed, and fields of kept lines whatever the lines' numbers.
use Rattle.std.proofs.Common.{◌≡◌, ℕ, zero, suc, ◌+◌, ◌-◌, ◌<◌, ◌≤◌, Bool, true, false, cond, List, [], ◌∷◌, ◌++◌, length, take, drop, map, filter}
use Rattle.std.proofs.Common.{get_or, refl, sym, ◌∙◌, ap, arith}
use Rattle.std.proofs.lemmas.List.{map-append, take_rest, get_or-drop}
use Rattle.std.proofs.lemmas.List.Elements.{filter-append}
use Rattle.std.specs.List.{onto_first, enumerate_from}
use Rattle.hg_text.specs.Kept.{Line, is_line_feed, is_kept, line_of, lines, without_return, fields, kept_from, field_lists}
use Rattle.hg_text.specs.Cut.{FailsBelow}

-- ---- a cut behind a line feed

onto_more : (x : ℕ) (ls ms : List (List ℕ)) → 0 < length ls → onto_first x (ls ++ ms) ≡ onto_first x ls ++ ms
onto_more x [] ms h = absurd (omega arith)
onto_more x (l ∷ ls) ms h = refl

onto_some : (x : ℕ) (ls : List (List ℕ)) → 0 < length (onto_first x ls)
onto_some x [] = omega arith
onto_some x (l ∷ ls) = omega arith

lines_some : (x : ℕ) (text : List ℕ) → 0 < length (lines (x ∷ text))
lines_some x text = by (is_line_feed x)
  where
    by : (b : Bool) → 0 < length (cond b ([] ∷ lines text) (onto_first x (lines text)))
    by true = omega arith
    by false = onto_some x (lines text)

taken_some : (text : List ℕ) (i : ℕ) → i < length text → 0 < length (lines (take (suc i) text))
taken_some [] i h = absurd (omega arith)
taken_some (x ∷ text) i h = lines_some x (take i text)

pub lines_cut : (text : List ℕ) (i : ℕ) → i < length text → is_line_feed (get_or text i 0) ≡ true → lines text ≡ lines (take (suc i) text) ++
    lines (drop (suc i) text)
lines_cut [] i h hit = absurd (omega arith)
lines_cut (x ∷ text) zero h hit =
    ap (λ (b : Bool). cond b ([] ∷ lines text) (onto_first x (lines text))) hit
    ∙ sym (ap (λ (b : Bool). cond b ([] ∷ []) (onto_first x []) ++ lines text) hit)
lines_cut (x ∷ text) (suc i) h hit = by (is_line_feed x) (lines_cut text i (omega arith) hit)
  where
    front : List (List ℕ)
    front = lines (take (suc i) text)

    back : List (List ℕ)
    back = lines (drop (suc i) text)

    by : (b : Bool) → lines text ≡ front ++ back → cond b ([] ∷ lines text) (onto_first x (lines text)) ≡ cond b ([] ∷ front) (onto_first x front) ++ back
    by true cut = ap (λ (ls : List (List ℕ)). [] ∷ ls) cut
    by false cut = ap (onto_first x) cut ∙ onto_more x front back (taken_some text i (omega arith))

-- the text from a place on, as it is read
pub read_behind : (text : List ℕ) (from k : ℕ) → get_or (take (length text - from) (drop from text)) k 0 ≡ get_or text (from + k) 0
read_behind text from k = ap (λ (xs : List ℕ). get_or xs k 0) (take_rest text from) ∙ get_or-drop from text k 0

pub fails_behind : (text : List ℕ) (from end : ℕ) → FailsBelow is_line_feed (take (length text - from) (drop from text)) end → (k : ℕ) → from ≤ k →
    k < from + end → is_line_feed (get_or text k 0) ≡ false
fails_behind text from end miss k low high =
    let same : from + (k - from) ≡ k = omega arith in
    ap is_line_feed (sym (read_behind text from (k - from) ∙ ap (λ (n : ℕ). get_or text n 0) same)) ∙ miss (k - from) (omega arith)

-- ---- fields of kept lines

-- a list of fields is that of a kept line
abbrev is_kept_list : List (List ℕ) → Bool
is_kept_list list = is_kept (record { number = 0; fields = list })

abbrev lists_of : List (List ℕ) → List (List (List ℕ))
lists_of ls = filter is_kept_list (map (λ (l : List ℕ). fields (without_return l)) ls)

abbrev fields_of : Line → List (List ℕ)
fields_of line = line.fields

kept_lists : (number : ℕ) (ls : List (List ℕ)) → map fields_of (filter is_kept (map line_of (enumerate_from number ls))) ≡ lists_of ls
kept_lists number [] = refl
kept_lists number (l ∷ ls) = by (is_kept (line_of (number, l))) (kept_lists (number + 1) ls)
  where
    more : List Line
    more = filter is_kept (map line_of (enumerate_from (number + 1) ls))

    by : (b : Bool) → map fields_of more ≡ lists_of ls →
        map fields_of (cond b (line_of (number, l) ∷ more) more) ≡ cond b (fields (without_return l) ∷ lists_of ls) (lists_of ls)
    by true e = ap (λ (fs : List (List (List ℕ))). fields (without_return l) ∷ fs) e
    by false e = e

pub lists_same : (number : ℕ) (text : List ℕ) → map (λ (line : Line). line.fields) (kept_from number text) ≡ field_lists text
lists_same number text = kept_lists number (lines text) ∙ sym (kept_lists 1 (lines text))

lists-append : (ls ms : List (List ℕ)) → lists_of (ls ++ ms) ≡ lists_of ls ++ lists_of ms
lists-append ls ms =
    let f = λ (l : List ℕ). fields (without_return l) in
    ap (filter is_kept_list) (map-append f ls ms) ∙ filter-append is_kept_list (map f ls) (map f ms)

-- a text whose lines are those of two texts has the kept lines of both
pub lists_parted : (text front back : List ℕ) → lines text ≡ lines front ++ lines back → field_lists text ≡ field_lists front ++ field_lists back
lists_parted text front back e =
    kept_lists 1 (lines text) ∙ ap lists_of e ∙ lists-append (lines front) (lines back)
    ∙ sym (ap (λ (fs : List (List (List ℕ))). fs ++ field_lists back) (kept_lists 1 (lines front))
    ∙ ap (λ (fs : List (List (List ℕ))). lists_of (lines front) ++ fs) (kept_lists 1 (lines back)))
