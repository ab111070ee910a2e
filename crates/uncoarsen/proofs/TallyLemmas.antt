-- What tallies count: the rounds of their own kind, and no others.
use Rattle.std.proofs.Common.{◌≡◌, ◌≢◌, ℕ, zero, suc, ◌+◌, ◌<◌, ◌≤◌, Bool, true, false, cond, List, [], ◌∷◌, ◌++◌, length, map, All, AllPairs}
use Rattle.std.proofs.Common.{◌⊎◌, inl, inr, true≢false, get_or, set, refl, sym, ap, subst, ◌∙◌, arith}
use Rattle.std.proofs.lemmas.List.{length-append, length-map, get_or-map}
use Rattle.std.proofs.lemmas.List.Elements.{All-nil, All-cons, All-head, All-tail, filter-append}
use Rattle.hg_defs.specs.Sums.{total}
use Rattle.hg_defs.proofs.SumLaws.{total-append}
use Rattle.hg_defs.proofs.ContractionLaws.{total-filter-le}
use Rattle.hg_defs.proofs.NumberingLaws.{filter_none}
use Rattle.round_log.specs.declared.record.Kind.{Kind}
use Rattle.round_log.specs.declared.record.Kind.TheVariants.{Label, Search, Flow, Sweep}
use Rattle.round_log.specs.declared.record.LoggedRound.{LoggedRound}
use Rattle.round_log.specs.Passes.{saved}
use Rattle.refiner.specs.declared.pass.Tally.{Tally}
use Rattle.uncoarsen.specs.Refined.{is_same_kind, rounds_of, tally_with, tallies_with}

-- ---- kinds

same_kind-self : (kind : Kind) → is_same_kind kind kind ≡ true
same_kind-self Label = refl
same_kind-self Search = refl
same_kind-self Flow = refl
same_kind-self Sweep = refl

same_kind-other : (a b : Kind) → a ≢ b → is_same_kind a b ≡ false
same_kind-other Label Label n = absurd (n refl)
same_kind-other Label Search n = refl
same_kind-other Label Flow n = refl
same_kind-other Label Sweep n = refl
same_kind-other Search Label n = refl
same_kind-other Search Search n = absurd (n refl)
same_kind-other Search Flow n = refl
same_kind-other Search Sweep n = refl
same_kind-other Flow Label n = refl
same_kind-other Flow Search n = refl
same_kind-other Flow Flow n = absurd (n refl)
same_kind-other Flow Sweep n = refl
same_kind-other Sweep Label n = refl
same_kind-other Sweep Search n = refl
same_kind-other Sweep Flow n = refl
same_kind-other Sweep Sweep n = absurd (n refl)

pub same_kind-same : (a b : Kind) → is_same_kind a b ≡ true → a ≡ b
same_kind-same Label Label e = refl
same_kind-same Label Search e = absurd (true≢false (sym e))
same_kind-same Label Flow e = absurd (true≢false (sym e))
same_kind-same Label Sweep e = absurd (true≢false (sym e))
same_kind-same Search Label e = absurd (true≢false (sym e))
same_kind-same Search Search e = refl
same_kind-same Search Flow e = absurd (true≢false (sym e))
same_kind-same Search Sweep e = absurd (true≢false (sym e))
same_kind-same Flow Label e = absurd (true≢false (sym e))
same_kind-same Flow Search e = absurd (true≢false (sym e))
same_kind-same Flow Flow e = refl
same_kind-same Flow Sweep e = absurd (true≢false (sym e))
same_kind-same Sweep Label e = absurd (true≢false (sym e))
same_kind-same Sweep Search e = absurd (true≢false (sym e))
same_kind-same Sweep Flow e = absurd (true≢false (sym e))
same_kind-same Sweep Sweep e = refl

pub kind_cases : (a b : Kind) → (a ≡ b) ⊎ (a ≢ b)
kind_cases a b = by (is_same_kind a b) refl
  where
    by : (t : Bool) → is_same_kind a b ≡ t → (a ≡ b) ⊎ (a ≢ b)
    by true e = inl (same_kind-same a b e)
    by false e = inr (λ same. true≢false (sym (same_kind-self b) ∙ ap (λ (x : Kind). is_same_kind x b) (sym same) ∙ e))

-- ---- the rounds of a kind

abbrev pub AllOf : Kind → List LoggedRound → Type 0
AllOf kind rounds = All (λ (r : LoggedRound). r.kind ≡ kind) rounds

pub rounds_of-own : (kind : Kind) (rounds : List LoggedRound) → AllOf kind rounds → rounds_of kind rounds ≡ rounds
rounds_of-own kind [] own = refl
rounds_of-own kind (r ∷ rounds) own =
    let head : is_same_kind r.kind kind ≡ true =
    subst (λ (x : Kind). is_same_kind x kind ≡ true) (sym (All-head (λ (x : LoggedRound). x.kind ≡ kind) r rounds own)) (same_kind-self kind) in
    ap (λ (b : Bool). cond b (r ∷ rounds_of kind rounds) (rounds_of kind rounds)) head
    ∙ ap (λ (xs : List LoggedRound). r ∷ xs) (rounds_of-own kind rounds (All-tail (λ (x : LoggedRound). x.kind ≡ kind) r rounds own))

pub rounds_of-other : (kind other : Kind) (rounds : List LoggedRound) → kind ≢ other → AllOf kind rounds → rounds_of other rounds ≡ []
rounds_of-other kind other rounds differ own =
    filter_none (λ (r : LoggedRound). is_same_kind r.kind other) rounds
    (λ i d low. same_kind-other (get_or rounds i d).kind other (λ same. differ (sym (own i d low) ∙ same)))

pub rounds_of-append : (kind : Kind) (xs ys : List LoggedRound) → rounds_of kind (xs ++ ys) ≡ rounds_of kind xs ++ rounds_of kind ys
rounds_of-append kind xs ys = filter-append (λ (r : LoggedRound). is_same_kind r.kind kind) xs ys

-- ---- one tally

abbrev tallied : Tally → List LoggedRound → Tally
tallied t rounds = record { rounds = t.rounds + length rounds; gain = t.gain + total saved rounds }

tallied-nil : (t : Tally) → tallied t [] ≡ t
tallied-nil t =
    let count : t.rounds + 0 ≡ t.rounds = omega arith in
    let gain : t.gain + 0 ≡ t.gain = omega arith in
    ap (λ (n : ℕ). let r : Tally = record { rounds = n; gain = t.gain + 0 } in r) count
    ∙ ap (λ (n : ℕ). let r : Tally = record { rounds = t.rounds; gain = n } in r) gain

pub tally_with-append : (xs ys : List LoggedRound) (kind : Kind) (t : Tally) → tally_with (xs ++ ys) kind t ≡ tally_with ys kind (tally_with xs kind t)
tally_with-append xs ys kind t =
    ap (tallied t) (rounds_of-append kind xs ys)
    ∙ same (rounds_of kind xs) (rounds_of kind ys)
  where
    same : (vs ws : List LoggedRound) → tallied t (vs ++ ws) ≡ tallied (tallied t vs) ws
    same vs ws =
        let long : t.rounds + length (vs ++ ws) ≡ t.rounds + length vs + length ws = let e = length-append vs ws in omega arith in
        let much : t.gain + total saved (vs ++ ws) ≡ t.gain + total saved vs + total saved ws = let e = total-append saved vs ws in omega arith in
        ap (λ (n : ℕ). let r : Tally = record { rounds = n; gain = t.gain + total saved (vs ++ ws) } in r) long
        ∙ ap (λ (n : ℕ). let r : Tally = record { rounds = t.rounds + length vs + length ws; gain = n } in r) much

pub tally_with-other : (kind other : Kind) (rounds : List LoggedRound) (t : Tally) → kind ≢ other → AllOf kind rounds → tally_with rounds other t ≡ t
tally_with-other kind other rounds t differ own = ap (tallied t) (rounds_of-other kind other rounds differ own) ∙ tallied-nil t

pub tally_with-own : (kind : Kind) (rounds : List LoggedRound) (old new : Tally) → AllOf kind rounds → new.rounds ≡ old.rounds + length rounds
    → new.gain ≡ old.gain + total saved rounds → new ≡ tally_with rounds kind old
tally_with-own kind rounds old new own count gain =
    ap (λ (n : ℕ). let r : Tally = record { rounds = n; gain = new.gain } in r) count
    ∙ ap (λ (n : ℕ). let r : Tally = record { rounds = old.rounds + length rounds; gain = n } in r) gain
    ∙ ap (tallied old) (sym (rounds_of-own kind rounds own))

-- ---- all tallies

pub tallies_with-nil : (kinds : List Kind) (ts : List Tally) → length kinds ≡ length ts → tallies_with [] kinds ts ≡ ts
tallies_with-nil [] [] e = refl
tallies_with-nil [] (t ∷ ts) e = absurd (omega arith)
tallies_with-nil (kind ∷ kinds) [] e = absurd (omega arith)
tallies_with-nil (kind ∷ kinds) (t ∷ ts) e =
    ap (λ (u : Tally). u ∷ tallies_with [] kinds ts) (tallied-nil t) ∙ ap (λ (us : List Tally). t ∷ us) (tallies_with-nil kinds ts (omega arith))

pub tallies_with-append : (xs ys : List LoggedRound) (kinds : List Kind) (ts : List Tally) → tallies_with (xs ++ ys) kinds ts ≡ tallies_with ys kinds
    (tallies_with xs kinds ts)
tallies_with-append xs ys [] ts = refl
tallies_with-append xs ys (kind ∷ kinds) [] = refl
tallies_with-append xs ys (kind ∷ kinds) (t ∷ ts) =
    ap (λ (u : Tally). u ∷ tallies_with (xs ++ ys) kinds ts) (tally_with-append xs ys kind t)
    ∙ ap (λ (us : List Tally). tally_with ys kind (tally_with xs kind t) ∷ us) (tallies_with-append xs ys kinds ts)

-- rounds of a kind that isn't among them
pub tallies_with-others : (kind : Kind) (rounds : List LoggedRound) (kinds : List Kind) (ts : List Tally) → length kinds ≡ length ts
    → All (λ (x : Kind). kind ≢ x) kinds → AllOf kind rounds → tallies_with rounds kinds ts ≡ ts
tallies_with-others kind rounds [] [] e differ own = refl
tallies_with-others kind rounds [] (t ∷ ts) e differ own = absurd (omega arith)
tallies_with-others kind rounds (x ∷ kinds) [] e differ own = absurd (omega arith)
tallies_with-others kind rounds (x ∷ kinds) (t ∷ ts) e differ own =
    ap (λ (u : Tally). u ∷ tallies_with rounds kinds ts) (tally_with-other kind x rounds t (All-head (λ (y : Kind). kind ≢ y) x kinds differ) own)
    ∙ ap (λ (us : List Tally). t ∷ us) (tallies_with-others kind rounds kinds ts (omega arith) (All-tail (λ (y : Kind). kind ≢ y) x kinds differ) own)

-- rounds of the kind of one of them
pub tallies_with-one : (kinds : List Kind) (ts : List Tally) (i : ℕ) (d : Kind) (t : Tally) (rounds : List LoggedRound) (new : Tally)
    → length kinds ≡ length ts → i < length kinds → AllPairs (λ (a b : Kind). a ≢ b) kinds → AllOf (get_or kinds i d) rounds
    → new ≡ tally_with rounds (get_or kinds i d) (get_or ts i t) → set ts i new ≡ tallies_with rounds kinds ts
tallies_with-one [] ts i d t rounds new e low differ own is = absurd (omega arith)
tallies_with-one (kind ∷ kinds) [] i d t rounds new e low differ own is = absurd (omega arith)
tallies_with-one (kind ∷ kinds) (u ∷ ts) zero d t rounds new e low differ own is =
    ap (λ (x : Tally). x ∷ ts) is
    ∙ ap (λ (us : List Tally). tally_with rounds kind u ∷ us)
    (sym (tallies_with-others kind rounds kinds ts (omega arith) (λ j x below. differ 0 (suc j) x (omega arith) (omega arith)) own))
tallies_with-one (kind ∷ kinds) (u ∷ ts) (suc i) d t rounds new e low differ own is =
    let other : get_or kinds i d ≢ kind = λ same. differ 0 (suc i) d (omega arith) low (sym same) in
    ap (λ (us : List Tally). u ∷ us)
    (tallies_with-one kinds ts i d t rounds new (omega arith) (omega arith) (λ a b x ab below. differ (suc a) (suc b) x (omega arith) (omega arith)) own is)
    ∙ ap (λ (x : Tally). x ∷ tallies_with rounds kinds ts) (sym (tally_with-other (get_or kinds i d) kind rounds u other own))

-- ---- bounds

-- tallies that are below one bound are below another one with rounds that are few enough of each kind, and saved little enough
pub tallies_within : (rounds : List LoggedRound) (bound more top : ℕ) (kinds : List Kind) (ts : List Tally) → bound + more ≤ top
    → ((kind : Kind) → length (rounds_of kind rounds) ≤ more) → total saved rounds ≤ more
    → All (λ (t : Tally). (t.rounds < bound) × (t.gain < bound)) ts
    → All (λ (t : Tally). (t.rounds < top) × (t.gain < top)) (tallies_with rounds kinds ts)
tallies_within rounds bound more top [] ts room few small low = All-nil (λ (t : Tally). (t.rounds < top) × (t.gain < top))
tallies_within rounds bound more top (kind ∷ kinds) [] room few small low = All-nil (λ (t : Tally). (t.rounds < top) × (t.gain < top))
tallies_within rounds bound more top (kind ∷ kinds) (t ∷ ts) room few small low =
    let here = All-head (λ (x : Tally). (x.rounds < bound) × (x.gain < bound)) t ts low in
    let count = few kind in
    let gain = total-filter-le saved (λ (r : LoggedRound). is_same_kind r.kind kind) rounds in
    let first = here.0 in
    let second = here.1 in
    All-cons (λ (x : Tally). (x.rounds < top) × (x.gain < top)) (tally_with rounds kind t) (tallies_with rounds kinds ts) (omega arith, omega arith)
    (tallies_within rounds bound more top kinds ts room few small (All-tail (λ (x : Tally). (x.rounds < bound) × (x.gain < bound)) t ts low))

-- what holds of all that a function gives
pub all_mapped : {A B : Type 0} (P : B → Type 0) (f : A → B) (xs : List A) → All P (map f xs) → All (λ x. P (f x)) xs
all_mapped P f xs all i d low = subst P (get_or-map f xs i d (f d) low) (all i (f d) (let e = length-map xs f in omega arith))
