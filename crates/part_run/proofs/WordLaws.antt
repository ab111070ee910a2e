-- The laws over the words of settings.
use Rattle.std.proofs.Common.{◌≡◌, ℕ, ◌+◌, ◌<◌, ◌≤◌, ◌⊎◌, inl, inr, Bool, true, false, if◌then◌else◌, List, [], ◌∷◌}
use Rattle.std.proofs.Common.{length, All, Option, Some, None, refl, sym, ap, subst, ◌∙◌, arith}
use Rattle.std.specs.Prelude.{IsSome, option_map, option_and_then, codes, bytes_eq, nat_le}
use Rattle.std.specs.List.{position_or_len}
use Rattle.std.proofs.lemmas.Bool.{leb-false, lt-leb}
use Rattle.std.proofs.lemmas.Option.{option_and_then_some}
use Rattle.std.proofs.lemmas.Slice.Eq.{bytes_eq-Decides}
use Rattle.std.proofs.lemmas.List.Elements.{All-nil, All-cons, All-head, All-tail}
use Rattle.hg_defs.specs.declared.objective.Objective.{Objective}
use Rattle.std.specs.Option.{option_or}
use Rattle.part_run.specs.declared.words.Mode.{Mode}
use Rattle.part_run.specs.Wanted.{named_mode, raced_mode}
use Rattle.part_run.specs.Wanted.{Settings, no_settings, with_word, with_words, if_unset, is_equals, file_name, plain_name, objective_of}
use Rattle.part_run.specs.WordLaws.{key_of, value_of, value_for, words_with, seed_in, workers_in, mode_words, mode_spelled, IsSetting}
use Rattle.part_run.specs.WordLaws.{TakenWordsAreSettings, TakenWordsStandOnce, TakenWordsAreSpelled, SettingsAreTaken}

-- ---- one word

-- the settings that a key and a value lead to, key after key
abbrev with_cycles : List ℕ → List ℕ → Settings → Option Settings
with_cycles key value s =
    if bytes_eq key (codes "cycles") then option_map (λ m. record s { mode = Some m }) (if_unset s.mode (raced_mode value)) else None

abbrev with_mode : List ℕ → List ℕ → Settings → Option Settings
with_mode key value s =
    if bytes_eq key (codes "mode") then option_map (λ m. record s { mode = Some m }) (if_unset s.mode (named_mode value)) else with_cycles key value s

abbrev with_fix : List ℕ → List ℕ → Settings → Option Settings
with_fix key value s =
    if bytes_eq key (codes "fix") then option_map (λ n. record s { fix = Some n }) (if_unset s.fix (plain_name value)) else with_mode key value s

abbrev with_cost : List ℕ → List ℕ → Settings → Option Settings
with_cost key value s =
    if bytes_eq key (codes "cost") then option_map (λ o. record s { cost = Some o }) (if_unset s.cost (objective_of value)) else with_fix key value s

abbrev with_out : List ℕ → List ℕ → Settings → Option Settings
with_out key value s =
    if bytes_eq key (codes "out") then option_map (λ n. record s { out = Some n }) (if_unset s.out (file_name value)) else with_cost key value s

abbrev with_workers : List ℕ → List ℕ → Settings → Option Settings
with_workers key value s =
    if bytes_eq key (codes "workers") then option_map (λ n. record s { workers = Some n }) (if_unset s.workers (workers_in value)) else with_out key value s

abbrev with_seed : List ℕ → List ℕ → Settings → Option Settings
with_seed key value s =
    if bytes_eq key (codes "seed") then option_map (λ n. record s { seed = Some n }) (if_unset s.seed (seed_in value)) else with_workers key value s

abbrev with_parts : Bool → List ℕ → List ℕ → Settings → Option Settings
with_parts unsigned key value s = if unsigned then None else with_seed key value s

by_parts : (s : Settings) (word : List ℕ) → with_word s word ≡ with_parts (nat_le (length word) (position_or_len is_equals word)) (key_of word)
    (value_of word)
    s
by_parts s word = refl

-- what a word that was taken set
data Taken (s t : Settings) (word : List ℕ) : Type 0 where
  TookSeed : (n : ℕ) → key_of word ≡ codes "seed" → s.seed ≡ None → seed_in (value_of word) ≡ Some n → t ≡ record s { seed = Some n } → Taken s t word
  TookWorkers : (n : ℕ) → key_of word ≡ codes "workers" → s.workers ≡ None → workers_in (value_of word) ≡ Some n → t ≡ record s { workers = Some n } →
      Taken s t word
  TookOut : (n : List ℕ) → key_of word ≡ codes "out" → s.out ≡ None → file_name (value_of word) ≡ Some n → t ≡ record s { out = Some n } → Taken s t word
  TookCost : (o : Objective) → key_of word ≡ codes "cost" → s.cost ≡ None → objective_of (value_of word) ≡ Some o → t ≡ record s { cost = Some o } →
      Taken s t word
  TookFix : (n : List ℕ) → key_of word ≡ codes "fix" → s.fix ≡ None → plain_name (value_of word) ≡ Some n → t ≡ record s { fix = Some n } → Taken s t word
  TookMode : (m : Mode) → key_of word ≡ codes "mode" → s.mode ≡ None → named_mode (value_of word) ≡ Some m → t ≡ record s { mode = Some m } →
      Taken s t word
  TookCycles : (m : Mode) → key_of word ≡ codes "cycles" → s.mode ≡ None → raced_mode (value_of word) ≡ Some m → t ≡ record s { mode = Some m } →
      Taken s t word

branch : (b : Bool) (x y : Option Settings) (t : Settings) → (if b then x else y) ≡ Some t → ((b ≡ true) × (x ≡ Some t)) ⊎ ((b ≡ false) × (y ≡ Some t))
branch true x y t e = inl (refl, e)
branch false x y t e = inr (refl, e)

set_some : {A : Type 0} (old new : Option A) (f : A → Settings) (t : Settings) → option_map f (if_unset old new) ≡ Some t →
    (n : A) × (old ≡ None) × (new ≡ Some n) × (t ≡ f n)
set_some None None f t e = cc
set_some None (Some n) f t e = (n, refl, refl, cc)
set_some (Some o) new f t e = cc

same_key : (a b : List ℕ) → bytes_eq a b ≡ true → a ≡ b
same_key a b e = (bytes_eq-Decides a b).0 e

-- a key is a setting's own, and its value is set, or what comes after this key is so
took_by : {A P : Type 0} (key own : List ℕ) (old new : Option A) (set : A → Settings) (rest : Option Settings) (t : Settings) →
    (if bytes_eq key own then option_map set (if_unset old new) else rest) ≡ Some t →
    ((n : A) → key ≡ own → old ≡ None → new ≡ Some n → t ≡ set n → P) → (rest ≡ Some t → P) → P
took_by {A} {P} key own old new set rest t f here later = by (branch (bytes_eq key own) (option_map set (if_unset old new)) rest t f)
  where
    by : ((bytes_eq key own ≡ true) × (option_map set (if_unset old new) ≡ Some t)) ⊎ ((bytes_eq key own ≡ false) × (rest ≡ Some t)) → P
    by (inl m) = let r = set_some old new set t m.1 in here r.0 (same_key key own m.0) r.1 r.2 r.3
    by (inr m) = later m.1

took_cycles : (s t : Settings) (word : List ℕ) → with_cycles (key_of word) (value_of word) s ≡ Some t → Taken s t word
took_cycles s t word f =
    took_by (key_of word) (codes "cycles") s.mode (raced_mode (value_of word)) (λ m. record s { mode = Some m }) None t f TookCycles (λ none. cc)

took_mode : (s t : Settings) (word : List ℕ) → with_mode (key_of word) (value_of word) s ≡ Some t → Taken s t word
took_mode s t word f =
    took_by (key_of word) (codes "mode") s.mode (named_mode (value_of word)) (λ m. record s { mode = Some m })
    (with_cycles (key_of word) (value_of word) s) t f TookMode (took_cycles s t word)

took_fix : (s t : Settings) (word : List ℕ) → with_fix (key_of word) (value_of word) s ≡ Some t → Taken s t word
took_fix s t word f =
    took_by (key_of word) (codes "fix") s.fix (plain_name (value_of word)) (λ n. record s { fix = Some n })
    (with_mode (key_of word) (value_of word) s) t f TookFix (took_mode s t word)

took_cost : (s t : Settings) (word : List ℕ) → with_cost (key_of word) (value_of word) s ≡ Some t → Taken s t word
took_cost s t word f =
    took_by (key_of word) (codes "cost") s.cost (objective_of (value_of word)) (λ o. record s { cost = Some o })
    (with_fix (key_of word) (value_of word) s) t f TookCost (took_fix s t word)

took_out : (s t : Settings) (word : List ℕ) → with_out (key_of word) (value_of word) s ≡ Some t → Taken s t word
took_out s t word f =
    took_by (key_of word) (codes "out") s.out (file_name (value_of word)) (λ n. record s { out = Some n })
    (with_cost (key_of word) (value_of word) s) t f TookOut (took_cost s t word)

took_workers : (s t : Settings) (word : List ℕ) → with_workers (key_of word) (value_of word) s ≡ Some t → Taken s t word
took_workers s t word f =
    took_by (key_of word) (codes "workers") s.workers (workers_in (value_of word)) (λ n. record s { workers = Some n })
    (with_out (key_of word) (value_of word) s) t f TookWorkers (took_out s t word)

took_seed : (s t : Settings) (word : List ℕ) → with_seed (key_of word) (value_of word) s ≡ Some t → Taken s t word
took_seed s t word f =
    took_by (key_of word) (codes "seed") s.seed (seed_in (value_of word)) (λ n. record s { seed = Some n })
    (with_workers (key_of word) (value_of word) s) t f TookSeed (took_workers s t word)

took : (s t : Settings) (word : List ℕ) → with_word s word ≡ Some t → (position_or_len is_equals word < length word) × Taken s t word
took s t word f = by (branch (nat_le (length word) (position_or_len is_equals word)) None (with_seed (key_of word) (value_of word) s) t f)
  where
    by : ((nat_le (length word) (position_or_len is_equals word) ≡ true) × (None ≡ Some t)) ⊎
        ((nat_le (length word) (position_or_len is_equals word) ≡ false) × (with_seed (key_of word) (value_of word) s ≡ Some t)) →
        (position_or_len is_equals word < length word) × Taken s t word
    by (inl m) = let none = m.1 in cc
    by (inr m) = (leb-false (length word) (position_or_len is_equals word) m.0, took_seed s t word m.1)

-- ---- one setting

one_if : Bool → ℕ
one_if b = if b then 1 else 0

count_same : (key word : List ℕ) (words : List (List ℕ)) → bytes_eq (key_of word) key ≡ true → words_with key (word ∷ words) ≡ words_with key words + 1
unfolding one_if
count_same key word words e = let one : words_with key (word ∷ words) ≡ 1 + words_with key words = ap (λ b. one_if b + words_with key words) e in
    omega arith

count_other : (key word : List ℕ) (words : List (List ℕ)) → bytes_eq (key_of word) key ≡ false → words_with key (word ∷ words) ≡ words_with key words
unfolding one_if
count_other key word words e = let none : words_with key (word ∷ words) ≡ 0 + words_with key words = ap (λ b. one_if b + words_with key words) e in
    omega arith

value_same : (key word : List ℕ) (words : List (List ℕ)) → bytes_eq (key_of word) key ≡ true → value_for key (word ∷ words) ≡ Some (value_of word)
value_same key word words e = ap (λ (b : Bool). if b then Some (value_of word) else value_for key words) e

value_other : (key word : List ℕ) (words : List (List ℕ)) → bytes_eq (key_of word) key ≡ false → value_for key (word ∷ words) ≡ value_for key words
value_other key word words e = ap (λ (b : Bool). if b then Some (value_of word) else value_for key words) e

-- a key that no word has gives no value
value_none : (key : List ℕ) (words : List (List ℕ)) → words_with key words ≡ 0 → value_for key words ≡ None
value_none key [] none = refl
value_none key (word ∷ words) none = by (bytes_eq (key_of word) key) refl (value_none key words)
  where
    by : (b : Bool) → bytes_eq (key_of word) key ≡ b → (words_with key words ≡ 0 → value_for key words ≡ None) → value_for key (word ∷ words) ≡ None
    by true e later = let count = count_same key word words e in absurd (omega arith)
    by false e later = let count = count_other key word words e in value_other key word words e ∙ later (omega arith)

-- the words that set a setting, counted, and what they set it to
record Meaning (A : Type 0) : Type 0 where
  field_of : Settings → Option A
  count : List (List ℕ) → ℕ
  value : List (List ℕ) → Option A

-- a word is the first or only one that sets a setting, and to this
abbrev SetsTo : {A : Type 0} → Meaning A → List ℕ → A → Type 0
SetsTo m word n =
    (words : List (List ℕ)) → (m.count (word ∷ words) ≡ m.count words + 1) × (m.count words ≡ 0 → m.value (word ∷ words) ≡ Some n)

-- a word has nothing to do with a setting
abbrev Spares : {A : Type 0} → Meaning A → List ℕ → Type 0
Spares m word = (words : List (List ℕ)) → (m.count (word ∷ words) ≡ m.count words) × (m.value (word ∷ words) ≡ m.value words)

-- a word sets a setting that was unset, or leaves it
abbrev Sets : {A : Type 0} → Meaning A → Settings → Settings → List ℕ → Type 0
Sets {A} m s t word =
    ((n : A) × (m.field_of s ≡ None) × (m.field_of t ≡ Some n) × SetsTo m word n) ⊎ ((m.field_of t ≡ m.field_of s) × Spares m word)

module _ {A : Type 0} (m : Meaning A) (step : (s t : Settings) (word : List ℕ) → with_word s word ≡ Some t → Sets m s t word) (none : m.count [] ≡ 0)
    (unset : m.value [] ≡ None) where
  kept : (s t : Settings) (words : List (List ℕ)) (n : A) → with_words s words ≡ Some t → m.field_of s ≡ Some n →
      (m.field_of t ≡ Some n) × (m.count words ≡ 0)
  kept s t [] n e f = let same : s ≡ t = cc in (ap m.field_of (sym same) ∙ f, none)
  kept s t (word ∷ words) n e f =
      option_and_then_some (λ u. with_words u words) (with_word s word) t e (λ u is rest. by u (step s u word is) (λ g. kept u t words n rest g))
    where
      by : (u : Settings) → Sets m s u word → (m.field_of u ≡ Some n → (m.field_of t ≡ Some n) × (m.count words ≡ 0)) →
          (m.field_of t ≡ Some n) × (m.count (word ∷ words) ≡ 0)
      by u (inl c) later = let unset : m.field_of s ≡ None = c.1 in cc
      by u (inr c) later = let r = later (c.0 ∙ f) in (r.0, (c.1 words).0 ∙ r.1)

  spelled : (s t : Settings) (words : List (List ℕ)) → with_words s words ≡ Some t → m.field_of s ≡ None →
      (m.field_of t ≡ m.value words) × (m.count words ≤ 1)
  spelled s t [] e f = let same : s ≡ t = cc in (ap m.field_of (sym same) ∙ f ∙ sym unset, omega (arith, none))
  spelled s t (word ∷ words) e f =
      option_and_then_some (λ u. with_words u words) (with_word s word) t e (λ u is rest. by u (step s u word is) (λ n g. kept u t words n rest g)
      (λ g. spelled u t words rest g))
    where
      by : (u : Settings) → Sets m s u word
          → ((n : A) → m.field_of u ≡ Some n → (m.field_of t ≡ Some n) × (m.count words ≡ 0))
          → (m.field_of u ≡ None → (m.field_of t ≡ m.value words) × (m.count words ≤ 1))
          → (m.field_of t ≡ m.value (word ∷ words)) × (m.count (word ∷ words) ≤ 1)
      by u (inl c) was later =
          let r = was c.0 c.2 in
          let own = c.3 words in
          (r.0 ∙ sym (own.1 r.1), omega (arith, own.0, r.1))
      by u (inr c) was later =
          let r = later (c.0 ∙ f) in
          let other = c.1 words in
          (r.0 ∙ sym other.1, omega (arith, other.0, r.1))

-- ---- each of the six settings

-- a setting that one key sets
abbrev keyed : {A : Type 0} → (Settings → Option A) → List ℕ → (List ℕ → Option A) → Meaning A
keyed field key parse = record {
  field_of = field;
  count = λ words. words_with key words;
  value = λ words. option_and_then parse (value_for key words);
}

keyed_own : {A : Type 0} (field : Settings → Option A) (key : List ℕ) (parse : List ℕ → Option A) (word : List ℕ) (n : A) →
    bytes_eq (key_of word) key ≡ true → parse (value_of word) ≡ Some n → SetsTo (keyed field key parse) word n
keyed_own field key parse word n e is words =
    (count_same key word words e, λ none. ap (option_and_then parse) (value_same key word words e) ∙ is)

keyed_other : {A : Type 0} (field : Settings → Option A) (key : List ℕ) (parse : List ℕ → Option A) (word known : List ℕ) →
    key_of word ≡ known → bytes_eq known key ≡ false → Spares (keyed field key parse) word
keyed_other field key parse word known k differs words =
    let e = ap (λ x. bytes_eq x key) k ∙ differs in
    (count_other key word words e, ap (option_and_then parse) (value_other key word words e))

-- the mode, which two keys set
abbrev moded : Meaning Mode
moded = record { field_of = λ s. s.mode; count = λ words. mode_words words; value = λ words. mode_spelled words }

moded_named : (word : List ℕ) (m : Mode) → key_of word ≡ codes "mode" → named_mode (value_of word) ≡ Some m → SetsTo moded word m
moded_named word m k is words =
    let own = ap (λ x. bytes_eq x (codes "mode")) k in
    let other = ap (λ x. bytes_eq x (codes "cycles")) k in
    let one = count_same (codes "mode") word words own in
    let same = count_other (codes "cycles") word words other in (
      omega (arith, one, same),
      λ none. ap
          (λ o. option_or (option_and_then named_mode o) (option_and_then raced_mode (value_for (codes "cycles") (word ∷ words))))
          (value_same (codes "mode") word words own)
          ∙ ap (λ o. option_or o (option_and_then raced_mode (value_for (codes "cycles") (word ∷ words)))) is,
    )

moded_raced : (word : List ℕ) (m : Mode) → key_of word ≡ codes "cycles" → raced_mode (value_of word) ≡ Some m → SetsTo moded word m
moded_raced word m k is words =
    let own = ap (λ x. bytes_eq x (codes "cycles")) k in
    let other = ap (λ x. bytes_eq x (codes "mode")) k in
    let one = count_same (codes "cycles") word words own in
    let same = count_other (codes "mode") word words other in (
      omega (arith, one, same),
      λ none. ap
          (λ o. option_or (option_and_then named_mode o) (option_and_then raced_mode (value_for (codes "cycles") (word ∷ words))))
          (value_other (codes "mode") word words other ∙ value_none (codes "mode") words (omega (arith, none)))
          ∙ ap (option_and_then raced_mode) (value_same (codes "cycles") word words own)
          ∙ is,
    )

moded_other : (word known : List ℕ) → key_of word ≡ known → bytes_eq known (codes "mode") ≡ false → bytes_eq known (codes "cycles") ≡ false →
    Spares moded word
moded_other word known k unnamed unraced words =
    let e = ap (λ x. bytes_eq x (codes "mode")) k ∙ unnamed in
    let f = ap (λ x. bytes_eq x (codes "cycles")) k ∙ unraced in
    let named = count_other (codes "mode") word words e in
    let raced = count_other (codes "cycles") word words f in (
      omega (arith, named, raced),
      ap
          (λ o. option_or (option_and_then named_mode o) (option_and_then raced_mode (value_for (codes "cycles") (word ∷ words))))
          (value_other (codes "mode") word words e)
          ∙ ap (λ o. option_or (option_and_then named_mode (value_for (codes "mode") words)) (option_and_then raced_mode o))
          (value_other (codes "cycles") word words f),
    )

sets_seed : (s t : Settings) (word : List ℕ) → with_word s word ≡ Some t → Sets (keyed (λ x. x.seed) (codes "seed") seed_in) s t word
sets_seed s t word f = by (took s t word f).1
  where
    by : Taken s t word → Sets (keyed (λ x. x.seed) (codes "seed") seed_in) s t word
    by (TookSeed n k old new is) =
        inl (n, old, ap (λ x. x.seed) is, keyed_own (λ x. x.seed) (codes "seed") seed_in word n (ap (λ x. bytes_eq x (codes "seed")) k) new)
    by (TookWorkers n k old new is) = inr (ap (λ x. x.seed) is, keyed_other (λ x. x.seed) (codes "seed") seed_in word (codes "workers") k refl)
    by (TookOut n k old new is) = inr (ap (λ x. x.seed) is, keyed_other (λ x. x.seed) (codes "seed") seed_in word (codes "out") k refl)
    by (TookCost o k old new is) = inr (ap (λ x. x.seed) is, keyed_other (λ x. x.seed) (codes "seed") seed_in word (codes "cost") k refl)
    by (TookFix n k old new is) = inr (ap (λ x. x.seed) is, keyed_other (λ x. x.seed) (codes "seed") seed_in word (codes "fix") k refl)
    by (TookMode m k old new is) = inr (ap (λ x. x.seed) is, keyed_other (λ x. x.seed) (codes "seed") seed_in word (codes "mode") k refl)
    by (TookCycles m k old new is) = inr (ap (λ x. x.seed) is, keyed_other (λ x. x.seed) (codes "seed") seed_in word (codes "cycles") k refl)

sets_workers : (s t : Settings) (word : List ℕ) → with_word s word ≡ Some t → Sets (keyed (λ x. x.workers) (codes "workers") workers_in) s t word
sets_workers s t word f = by (took s t word f).1
  where
    by : Taken s t word → Sets (keyed (λ x. x.workers) (codes "workers") workers_in) s t word
    by (TookSeed n k old new is) = inr (ap (λ x. x.workers) is, keyed_other (λ x. x.workers) (codes "workers") workers_in word (codes "seed") k refl)
    by (TookWorkers n k old new is) =
        inl (n, old, ap (λ x. x.workers) is, keyed_own (λ x. x.workers) (codes "workers") workers_in word n (ap (λ x. bytes_eq x (codes "workers")) k) new)
    by (TookOut n k old new is) = inr (ap (λ x. x.workers) is, keyed_other (λ x. x.workers) (codes "workers") workers_in word (codes "out") k refl)
    by (TookCost o k old new is) = inr (ap (λ x. x.workers) is, keyed_other (λ x. x.workers) (codes "workers") workers_in word (codes "cost") k refl)
    by (TookFix n k old new is) = inr (ap (λ x. x.workers) is, keyed_other (λ x. x.workers) (codes "workers") workers_in word (codes "fix") k refl)
    by (TookMode m k old new is) = inr (ap (λ x. x.workers) is, keyed_other (λ x. x.workers) (codes "workers") workers_in word (codes "mode") k refl)
    by (TookCycles m k old new is) = inr (ap (λ x. x.workers) is, keyed_other (λ x. x.workers) (codes "workers") workers_in word (codes "cycles") k refl)

sets_out : (s t : Settings) (word : List ℕ) → with_word s word ≡ Some t → Sets (keyed (λ x. x.out) (codes "out") file_name) s t word
sets_out s t word f = by (took s t word f).1
  where
    by : Taken s t word → Sets (keyed (λ x. x.out) (codes "out") file_name) s t word
    by (TookSeed n k old new is) = inr (ap (λ x. x.out) is, keyed_other (λ x. x.out) (codes "out") file_name word (codes "seed") k refl)
    by (TookWorkers n k old new is) = inr (ap (λ x. x.out) is, keyed_other (λ x. x.out) (codes "out") file_name word (codes "workers") k refl)
    by (TookOut n k old new is) =
        inl (n, old, ap (λ x. x.out) is, keyed_own (λ x. x.out) (codes "out") file_name word n (ap (λ x. bytes_eq x (codes "out")) k) new)
    by (TookCost o k old new is) = inr (ap (λ x. x.out) is, keyed_other (λ x. x.out) (codes "out") file_name word (codes "cost") k refl)
    by (TookFix n k old new is) = inr (ap (λ x. x.out) is, keyed_other (λ x. x.out) (codes "out") file_name word (codes "fix") k refl)
    by (TookMode m k old new is) = inr (ap (λ x. x.out) is, keyed_other (λ x. x.out) (codes "out") file_name word (codes "mode") k refl)
    by (TookCycles m k old new is) = inr (ap (λ x. x.out) is, keyed_other (λ x. x.out) (codes "out") file_name word (codes "cycles") k refl)

sets_cost : (s t : Settings) (word : List ℕ) → with_word s word ≡ Some t → Sets (keyed (λ x. x.cost) (codes "cost") objective_of) s t word
sets_cost s t word f = by (took s t word f).1
  where
    by : Taken s t word → Sets (keyed (λ x. x.cost) (codes "cost") objective_of) s t word
    by (TookSeed n k old new is) = inr (ap (λ x. x.cost) is, keyed_other (λ x. x.cost) (codes "cost") objective_of word (codes "seed") k refl)
    by (TookWorkers n k old new is) = inr (ap (λ x. x.cost) is, keyed_other (λ x. x.cost) (codes "cost") objective_of word (codes "workers") k refl)
    by (TookOut n k old new is) = inr (ap (λ x. x.cost) is, keyed_other (λ x. x.cost) (codes "cost") objective_of word (codes "out") k refl)
    by (TookCost o k old new is) =
        inl (o, old, ap (λ x. x.cost) is, keyed_own (λ x. x.cost) (codes "cost") objective_of word o (ap (λ x. bytes_eq x (codes "cost")) k) new)
    by (TookFix n k old new is) = inr (ap (λ x. x.cost) is, keyed_other (λ x. x.cost) (codes "cost") objective_of word (codes "fix") k refl)
    by (TookMode m k old new is) = inr (ap (λ x. x.cost) is, keyed_other (λ x. x.cost) (codes "cost") objective_of word (codes "mode") k refl)
    by (TookCycles m k old new is) = inr (ap (λ x. x.cost) is, keyed_other (λ x. x.cost) (codes "cost") objective_of word (codes "cycles") k refl)

sets_fix : (s t : Settings) (word : List ℕ) → with_word s word ≡ Some t → Sets (keyed (λ x. x.fix) (codes "fix") plain_name) s t word
sets_fix s t word f = by (took s t word f).1
  where
    by : Taken s t word → Sets (keyed (λ x. x.fix) (codes "fix") plain_name) s t word
    by (TookSeed n k old new is) = inr (ap (λ x. x.fix) is, keyed_other (λ x. x.fix) (codes "fix") plain_name word (codes "seed") k refl)
    by (TookWorkers n k old new is) = inr (ap (λ x. x.fix) is, keyed_other (λ x. x.fix) (codes "fix") plain_name word (codes "workers") k refl)
    by (TookOut n k old new is) = inr (ap (λ x. x.fix) is, keyed_other (λ x. x.fix) (codes "fix") plain_name word (codes "out") k refl)
    by (TookCost o k old new is) = inr (ap (λ x. x.fix) is, keyed_other (λ x. x.fix) (codes "fix") plain_name word (codes "cost") k refl)
    by (TookFix n k old new is) =
        inl (n, old, ap (λ x. x.fix) is, keyed_own (λ x. x.fix) (codes "fix") plain_name word n (ap (λ x. bytes_eq x (codes "fix")) k) new)
    by (TookMode m k old new is) = inr (ap (λ x. x.fix) is, keyed_other (λ x. x.fix) (codes "fix") plain_name word (codes "mode") k refl)
    by (TookCycles m k old new is) = inr (ap (λ x. x.fix) is, keyed_other (λ x. x.fix) (codes "fix") plain_name word (codes "cycles") k refl)

sets_mode : (s t : Settings) (word : List ℕ) → with_word s word ≡ Some t → Sets moded s t word
sets_mode s t word f = by (took s t word f).1
  where
    by : Taken s t word → Sets moded s t word
    by (TookSeed n k old new is) = inr (ap (λ x. x.mode) is, moded_other word (codes "seed") k refl refl)
    by (TookWorkers n k old new is) = inr (ap (λ x. x.mode) is, moded_other word (codes "workers") k refl refl)
    by (TookOut n k old new is) = inr (ap (λ x. x.mode) is, moded_other word (codes "out") k refl refl)
    by (TookCost o k old new is) = inr (ap (λ x. x.mode) is, moded_other word (codes "cost") k refl refl)
    by (TookFix n k old new is) = inr (ap (λ x. x.mode) is, moded_other word (codes "fix") k refl refl)
    by (TookMode m k old new is) = inl (m, old, ap (λ x. x.mode) is, moded_named word m k new)
    by (TookCycles m k old new is) = inl (m, old, ap (λ x. x.mode) is, moded_raced word m k new)

setting_of : (s t : Settings) (word : List ℕ) → with_word s word ≡ Some t → IsSetting word
setting_of s t word f = record { sign = (took s t word f).0; key = by (took s t word f).1 }
  where
    some : {A : Type 0} (o : Option A) (n : A) → o ≡ Some n → IsSome o
    some o n e = subst IsSome (sym e) refl

    by : Taken s t word → ((key_of word ≡ codes "seed") × IsSome (seed_in (value_of word)))
        ⊎ (((key_of word ≡ codes "workers") × IsSome (workers_in (value_of word)))
        ⊎ (((key_of word ≡ codes "out") × IsSome (file_name (value_of word)))
        ⊎ (((key_of word ≡ codes "cost") × IsSome (objective_of (value_of word)))
        ⊎ (((key_of word ≡ codes "fix") × IsSome (plain_name (value_of word)))
        ⊎ (((key_of word ≡ codes "mode") × IsSome (named_mode (value_of word)))
        ⊎ ((key_of word ≡ codes "cycles") × IsSome (raced_mode (value_of word))))))))
    by (TookSeed n k old new is) = inl (k, some (seed_in (value_of word)) n new)
    by (TookWorkers n k old new is) = inr (inl (k, some (workers_in (value_of word)) n new))
    by (TookOut n k old new is) = inr (inr (inl (k, some (file_name (value_of word)) n new)))
    by (TookCost o k old new is) = inr (inr (inr (inl (k, some (objective_of (value_of word)) o new))))
    by (TookFix n k old new is) = inr (inr (inr (inr (inl (k, some (plain_name (value_of word)) n new)))))
    by (TookMode m k old new is) = inr (inr (inr (inr (inr (inl (k, some (named_mode (value_of word)) m new))))))
    by (TookCycles m k old new is) = inr (inr (inr (inr (inr (inr (k, some (raced_mode (value_of word)) m new))))))

settings_of : (s t : Settings) (words : List (List ℕ)) → with_words s words ≡ Some t → All IsSetting words
settings_of s t [] e = All-nil IsSetting
settings_of s t (word ∷ words) e =
    option_and_then_some (λ u. with_words u words) (with_word s word) t e (λ u is rest. All-cons IsSetting word words (setting_of s u word is)
    (settings_of u t words rest))

pub taken-settings : TakenWordsAreSettings
taken-settings words s e = settings_of no_settings s words e

pub taken-once : TakenWordsStandOnce
taken-once words s e = record {
  seed = (spelled (keyed (λ x. x.seed) (codes "seed") seed_in) sets_seed refl refl no_settings s words e refl).1;
  workers = (spelled (keyed (λ x. x.workers) (codes "workers") workers_in) sets_workers refl refl no_settings s words e refl).1;
  out = (spelled (keyed (λ x. x.out) (codes "out") file_name) sets_out refl refl no_settings s words e refl).1;
  cost = (spelled (keyed (λ x. x.cost) (codes "cost") objective_of) sets_cost refl refl no_settings s words e refl).1;
  fix = (spelled (keyed (λ x. x.fix) (codes "fix") plain_name) sets_fix refl refl no_settings s words e refl).1;
  mode = (spelled moded sets_mode refl refl no_settings s words e refl).1;
}

pub taken-spelled : TakenWordsAreSpelled
taken-spelled words s e = record {
  seed = (spelled (keyed (λ x. x.seed) (codes "seed") seed_in) sets_seed refl refl no_settings s words e refl).0;
  workers = (spelled (keyed (λ x. x.workers) (codes "workers") workers_in) sets_workers refl refl no_settings s words e refl).0;
  out = (spelled (keyed (λ x. x.out) (codes "out") file_name) sets_out refl refl no_settings s words e refl).0;
  cost = (spelled (keyed (λ x. x.cost) (codes "cost") objective_of) sets_cost refl refl no_settings s words e refl).0;
  fix = (spelled (keyed (λ x. x.fix) (codes "fix") plain_name) sets_fix refl refl no_settings s words e refl).0;
  mode = (spelled moded sets_mode refl refl no_settings s words e refl).0;
}

-- ---- all settings are taken

-- a setting is unset and a word at most sets it, or none does
abbrev HasRoom : {A : Type 0} → Option A → ℕ → Type 0
HasRoom o count = ((o ≡ None) × (count ≤ 1)) ⊎ (count ≡ 0)

room_own : {A : Type 0} (o : Option A) (before after : ℕ) → before ≡ after + 1 → HasRoom o before → (o ≡ None) × (after ≡ 0)
room_own o before after e (inl r) = let few = r.1 in (r.0, omega arith)
room_own o before after e (inr r) = absurd (omega arith)

room_other : {A : Type 0} (o : Option A) (before after : ℕ) → before ≡ after → HasRoom o before → HasRoom o after
room_other o before after e r = subst (HasRoom o) e r

record Room (s : Settings) (words : List (List ℕ)) : Type 0 where
  seed : HasRoom s.seed (words_with (codes "seed") words)
  workers : HasRoom s.workers (words_with (codes "workers") words)
  out : HasRoom s.out (words_with (codes "out") words)
  cost : HasRoom s.cost (words_with (codes "cost") words)
  fix : HasRoom s.fix (words_with (codes "fix") words)
  mode : HasRoom s.mode (mode_words words)

some_value : {A : Type 0} (o : Option A) → IsSome o → (n : A) × (o ≡ Some n)
some_value None h = cc
some_value (Some n) h = (n, refl)

-- what a word leads to, where its key and its value are known
taken_word : (s : Settings) (word key : List ℕ) → position_or_len is_equals word < length word → key_of word ≡ key → with_word s word ≡ with_seed key
    (value_of word) s
taken_word s word key sign k =
    ap (λ (b : Bool). with_parts b (key_of word) (value_of word) s) (lt-leb (length word) (position_or_len is_equals word) sign)
    ∙ ap (λ (x : List ℕ). with_seed x (value_of word) s) k

set_value : {A : Type 0} (old new : Option A) (n : A) (f : A → Settings) → old ≡ None → new ≡ Some n → option_map f (if_unset old new) ≡ Some (f n)
set_value old new n f o e = ap (λ x. option_map f (if_unset x new)) o ∙ ap (λ x. option_map f x) e

-- one word more is taken, where the settings that it leads to take the others
one_more : (s t : Settings) (word : List ℕ) (words : List (List ℕ)) → with_word s word ≡ Some t → IsSome (with_words t words) →
    IsSome (with_words s (word ∷ words))
one_more s t word words e some = subst (λ (o : Option Settings). IsSome (option_and_then (λ u. with_words u words) o)) (sym e) some

all_taken : (s : Settings) (words : List (List ℕ)) → All IsSetting words → Room s words → IsSome (with_words s words)
all_taken s [] all room = refl
all_taken s (word ∷ words) all room = by here.key (λ t r. all_taken t words (All-tail IsSetting word words all) r)
  where
    here : IsSetting word
    here = All-head IsSetting word words all

    other : {A : Type 0} (o : Option A) (key known : List ℕ) → key_of word ≡ known → bytes_eq known key ≡ false →
        HasRoom o (words_with key (word ∷ words)) → HasRoom o (words_with key words)
    other o key known k e r = room_other o (words_with key (word ∷ words)) (words_with key words)
        (count_other key word words (ap (λ x. bytes_eq x key) k ∙ e)) r

    own : {A : Type 0} (o : Option A) (key : List ℕ) → bytes_eq (key_of word) key ≡ true → HasRoom o (words_with key (word ∷ words)) →
        (o ≡ None) × (words_with key words ≡ 0)
    own o key e r = room_own o (words_with key (word ∷ words)) (words_with key words) (count_same key word words e) r

    unmoded : (known : List ℕ) → key_of word ≡ known → bytes_eq known (codes "mode") ≡ false → bytes_eq known (codes "cycles") ≡ false →
        HasRoom s.mode (mode_words words)
    unmoded known k e f = room_other s.mode (mode_words (word ∷ words)) (mode_words words) (moded_other word known k e f words).0 room.mode

    by : ((key_of word ≡ codes "seed") × IsSome (seed_in (value_of word)))
        ⊎ (((key_of word ≡ codes "workers") × IsSome (workers_in (value_of word)))
        ⊎ (((key_of word ≡ codes "out") × IsSome (file_name (value_of word)))
        ⊎ (((key_of word ≡ codes "cost") × IsSome (objective_of (value_of word)))
        ⊎ (((key_of word ≡ codes "fix") × IsSome (plain_name (value_of word)))
        ⊎ (((key_of word ≡ codes "mode") × IsSome (named_mode (value_of word)))
        ⊎ ((key_of word ≡ codes "cycles") × IsSome (raced_mode (value_of word))))))))
        → ((t : Settings) → Room t words → IsSome (with_words t words)) → IsSome (with_words s (word ∷ words))
    by (inl c) rest =
        let value = some_value (seed_in (value_of word)) c.1 in
        let room_here = own s.seed (codes "seed") (ap (λ x. bytes_eq x (codes "seed")) c.0) room.seed in
        one_more s (record s { seed = Some value.0 }) word words
        (taken_word s word (codes "seed") here.sign c.0
        ∙ set_value s.seed (seed_in (value_of word)) value.0 (λ n. record s { seed = Some n }) room_here.0 value.1)
        (rest (record s { seed = Some value.0 }) (record {
          seed = inr room_here.1;
          workers = other s.workers (codes "workers") (codes "seed") c.0 refl room.workers;
          out = other s.out (codes "out") (codes "seed") c.0 refl room.out;
          cost = other s.cost (codes "cost") (codes "seed") c.0 refl room.cost;
          fix = other s.fix (codes "fix") (codes "seed") c.0 refl room.fix;
          mode = unmoded (codes "seed") c.0 refl refl;
        }))
    by (inr (inl c)) rest =
        let value = some_value (workers_in (value_of word)) c.1 in
        let room_here = own s.workers (codes "workers") (ap (λ x. bytes_eq x (codes "workers")) c.0) room.workers in
        one_more s (record s { workers = Some value.0 }) word words
        (taken_word s word (codes "workers") here.sign c.0
        ∙ set_value s.workers (workers_in (value_of word)) value.0 (λ n. record s { workers = Some n }) room_here.0 value.1)
        (rest (record s { workers = Some value.0 }) (record {
          seed = other s.seed (codes "seed") (codes "workers") c.0 refl room.seed;
          workers = inr room_here.1;
          out = other s.out (codes "out") (codes "workers") c.0 refl room.out;
          cost = other s.cost (codes "cost") (codes "workers") c.0 refl room.cost;
          fix = other s.fix (codes "fix") (codes "workers") c.0 refl room.fix;
          mode = unmoded (codes "workers") c.0 refl refl;
        }))
    by (inr (inr (inl c))) rest =
        let value = some_value (file_name (value_of word)) c.1 in
        let room_here = own s.out (codes "out") (ap (λ x. bytes_eq x (codes "out")) c.0) room.out in
        one_more s (record s { out = Some value.0 }) word words
        (taken_word s word (codes "out") here.sign c.0
        ∙ set_value s.out (file_name (value_of word)) value.0 (λ n. record s { out = Some n }) room_here.0 value.1)
        (rest (record s { out = Some value.0 }) (record {
          seed = other s.seed (codes "seed") (codes "out") c.0 refl room.seed;
          workers = other s.workers (codes "workers") (codes "out") c.0 refl room.workers;
          out = inr room_here.1;
          cost = other s.cost (codes "cost") (codes "out") c.0 refl room.cost;
          fix = other s.fix (codes "fix") (codes "out") c.0 refl room.fix;
          mode = unmoded (codes "out") c.0 refl refl;
        }))
    by (inr (inr (inr (inl c)))) rest =
        let value = some_value (objective_of (value_of word)) c.1 in
        let room_here = own s.cost (codes "cost") (ap (λ x. bytes_eq x (codes "cost")) c.0) room.cost in
        one_more s (record s { cost = Some value.0 }) word words
        (taken_word s word (codes "cost") here.sign c.0
        ∙ set_value s.cost (objective_of (value_of word)) value.0 (λ o. record s { cost = Some o }) room_here.0 value.1)
        (rest (record s { cost = Some value.0 }) (record {
          seed = other s.seed (codes "seed") (codes "cost") c.0 refl room.seed;
          workers = other s.workers (codes "workers") (codes "cost") c.0 refl room.workers;
          out = other s.out (codes "out") (codes "cost") c.0 refl room.out;
          cost = inr room_here.1;
          fix = other s.fix (codes "fix") (codes "cost") c.0 refl room.fix;
          mode = unmoded (codes "cost") c.0 refl refl;
        }))
    by (inr (inr (inr (inr (inl c))))) rest =
        let value = some_value (plain_name (value_of word)) c.1 in
        let room_here = own s.fix (codes "fix") (ap (λ x. bytes_eq x (codes "fix")) c.0) room.fix in
        one_more s (record s { fix = Some value.0 }) word words
        (taken_word s word (codes "fix") here.sign c.0
        ∙ set_value s.fix (plain_name (value_of word)) value.0 (λ n. record s { fix = Some n }) room_here.0 value.1)
        (rest (record s { fix = Some value.0 }) (record {
          seed = other s.seed (codes "seed") (codes "fix") c.0 refl room.seed;
          workers = other s.workers (codes "workers") (codes "fix") c.0 refl room.workers;
          out = other s.out (codes "out") (codes "fix") c.0 refl room.out;
          cost = other s.cost (codes "cost") (codes "fix") c.0 refl room.cost;
          fix = inr room_here.1;
          mode = unmoded (codes "fix") c.0 refl refl;
        }))
    by (inr (inr (inr (inr (inr (inl c)))))) rest =
        let value = some_value (named_mode (value_of word)) c.1 in
        let room_here = room_own s.mode (mode_words (word ∷ words)) (mode_words words) (moded_named word value.0 c.0 value.1 words).0 room.mode in
        one_more s (record s { mode = Some value.0 }) word words
        (taken_word s word (codes "mode") here.sign c.0
        ∙ set_value s.mode (named_mode (value_of word)) value.0 (λ m. record s { mode = Some m }) room_here.0 value.1)
        (rest (record s { mode = Some value.0 }) (record {
          seed = other s.seed (codes "seed") (codes "mode") c.0 refl room.seed;
          workers = other s.workers (codes "workers") (codes "mode") c.0 refl room.workers;
          out = other s.out (codes "out") (codes "mode") c.0 refl room.out;
          cost = other s.cost (codes "cost") (codes "mode") c.0 refl room.cost;
          fix = other s.fix (codes "fix") (codes "mode") c.0 refl room.fix;
          mode = inr room_here.1;
        }))
    by (inr (inr (inr (inr (inr (inr c)))))) rest =
        let value = some_value (raced_mode (value_of word)) c.1 in
        let room_here = room_own s.mode (mode_words (word ∷ words)) (mode_words words) (moded_raced word value.0 c.0 value.1 words).0 room.mode in
        one_more s (record s { mode = Some value.0 }) word words
        (taken_word s word (codes "cycles") here.sign c.0
        ∙ set_value s.mode (raced_mode (value_of word)) value.0 (λ m. record s { mode = Some m }) room_here.0 value.1)
        (rest (record s { mode = Some value.0 }) (record {
          seed = other s.seed (codes "seed") (codes "cycles") c.0 refl room.seed;
          workers = other s.workers (codes "workers") (codes "cycles") c.0 refl room.workers;
          out = other s.out (codes "out") (codes "cycles") c.0 refl room.out;
          cost = other s.cost (codes "cost") (codes "cycles") c.0 refl room.cost;
          fix = other s.fix (codes "fix") (codes "cycles") c.0 refl room.fix;
          mode = inr room_here.1;
        }))

pub settings-taken : SettingsAreTaken
settings-taken words all once = all_taken no_settings words all (record {
  seed = inl (refl, once.seed);
  workers = inl (refl, once.workers);
  out = inl (refl, once.out);
  cost = inl (refl, once.cost);
  fix = inl (refl, once.fix);
  mode = inl (refl, once.mode);
})
