-- The laws of the passes on a level, for any list of kinds.
use Rattle.std.proofs.Common.{◌≡◌, ◌≢◌, ◌⊎◌, inl, inr, ℕ, suc, ◌+◌, ◌*◌, ◌-◌, ◌≤◌, ◌^◌, true, List, [], ◌∷◌, ◌++◌, length, All, AllPairs}
use Rattle.std.proofs.Common.{refl, sym, ap, subst, ◌∙◌, arith}
use Rattle.std.proofs.lemmas.Nat.{mul-le}
use Rattle.std.proofs.lemmas.List.{length-append}
use Rattle.std.proofs.lemmas.List.Elements.{All-head, All-tail}
use Rattle.hg_defs.specs.Hypergraph.{Hyper}
use Rattle.round_log.specs.declared.record.Kind.{Kind}
use Rattle.round_log.specs.declared.record.Kind.TheVariants.{Label, Search, Flow, Sweep}
use Rattle.round_log.specs.declared.record.LoggedRound.{LoggedRound}
use Rattle.round_log.specs.Rounds.{after_round, after_rounds}
use Rattle.round_log.specs.Passes.{most_rounds}
use Rattle.round_log.proofs.PairLaws.{pairs_are_half}
use Rattle.round_log.proofs.PassLaws.{AllKeep, pass_keeps, pass-few, pass-kind}
use Rattle.round_log.proofs.DescentLaws.{keep_append, Leaves, leaves_by}
use Rattle.uncoarsen.specs.Refined.{ArePasses, IsRefinedBy, rounds_of}
use Rattle.uncoarsen.proofs.TallyLemmas.{kind_cases, rounds_of-own, rounds_of-other, rounds_of-append}

-- rounds after rounds
pub after-append : (p : List ℕ) (xs ys : List LoggedRound) → after_rounds p (xs ++ ys) ≡ after_rounds (after_rounds p xs) ys
after-append p [] ys = refl
after-append p (r ∷ xs) ys = after-append (after_round p r) xs ys

-- each round keeps what rounds keep
pub passes_keep : (kinds : List Kind) (h : Hyper) (k l workers : ℕ) (p : List ℕ) (rounds : List LoggedRound) → ArePasses kinds h k l workers p rounds
    → AllKeep h k l p rounds
passes_keep [] h k l workers p rounds none = subst (AllKeep h k l p) (sym none) tt
passes_keep (kind ∷ kinds) h k l workers p rounds s =
    subst (AllKeep h k l p) (sym s.2)
    (keep_append h k l p s.0 s.1 (pass_keeps true kind h k l workers p s.0 s.3) (passes_keep kinds h k l workers (after_rounds p s.0) s.1 s.4))

-- so a level leads from a sound partition to a sound one, which is no dearer
pub refined_by_leaves : (kinds : List Kind) (k l workers number : ℕ) (h : Hyper) (p : List ℕ) (rounds : List LoggedRound) (q : List ℕ)
    → IsRefinedBy kinds k l workers number h p rounds q → Leaves h k l p q
refined_by_leaves kinds k l workers number h p rounds q s = leaves_by h k l p rounds q (passes_keep kinds h k l workers p rounds s.passes) s.result

-- ---- how many rounds there are of a kind

-- a pass has at most so many, up to 256 blocks
few_rounds : (kind : Kind) (k : ℕ) → k ≤ 256 → most_rounds kind k ≤ 2 ^ 15
few_rounds Label k few = omega arith
few_rounds Search k few = omega arith
few_rounds Sweep k few = omega arith
few_rounds Flow k few =
    let half = pairs_are_half k in
    let most : k * (k - 1) ≤ 256 * 255 = mul-le k (k - 1) 256 255 few (omega arith) in
    omega arith

-- passes of other kinds have none
pub passes_without : (other : Kind) (kinds : List Kind) (h : Hyper) (k l workers : ℕ) (p : List ℕ) (rounds : List LoggedRound)
    → All (λ (x : Kind). other ≢ x) kinds → ArePasses kinds h k l workers p rounds → rounds_of other rounds ≡ []
passes_without other [] h k l workers p rounds differ none = ap (rounds_of other) none
passes_without other (kind ∷ kinds) h k l workers p rounds differ s =
    let head = All-head (λ (x : Kind). other ≢ x) kind kinds differ in
    let here = rounds_of-other kind other s.0 (λ same. head (sym same)) (pass-kind true kind h k l workers p s.0 s.3) in
    let later = passes_without other kinds h k l workers (after_rounds p s.0) s.1 (All-tail (λ (x : Kind). other ≢ x) kind kinds differ) s.4 in
    ap (rounds_of other) s.2 ∙ rounds_of-append other s.0 s.1 ∙ ap (λ (rs : List LoggedRound). rs ++ rounds_of other s.1) here ∙ later

-- passes of different kinds have those of one pass
pub passes_few : (other : Kind) (kinds : List Kind) (h : Hyper) (k l workers : ℕ) (p : List ℕ) (rounds : List LoggedRound) → k ≤ 256
    → AllPairs (λ (a b : Kind). a ≢ b) kinds → ArePasses kinds h k l workers p rounds → length (rounds_of other rounds) ≤ 2 ^ 15
passes_few other [] h k l workers p rounds small differ none =
    let e = ap (λ (rs : List LoggedRound). length (rounds_of other rs)) none in omega arith
passes_few other (kind ∷ kinds) h k l workers p rounds small differ s =
    by (kind_cases kind other)
    (passes_few other kinds h k l workers (after_rounds p s.0) s.1 small (λ i j d before low. differ (suc i) (suc j) d (omega arith) (omega arith)) s.4)
  where
    own : All (λ (r : LoggedRound). r.kind ≡ kind) s.0
    own = pass-kind true kind h k l workers p s.0 s.3

    parts : length (rounds_of other rounds) ≡ length (rounds_of other s.0) + length (rounds_of other s.1)
    parts = ap (λ (rs : List LoggedRound). length (rounds_of other rs)) s.2 ∙ ap length (rounds_of-append other s.0 s.1)
        ∙ length-append (rounds_of other s.0) (rounds_of other s.1)

    by : (kind ≡ other) ⊎ (kind ≢ other) → length (rounds_of other s.1) ≤ 2 ^ 15 → length (rounds_of other rounds) ≤ 2 ^ 15
    by (inl same) rest =
        let here : length (rounds_of other s.0) ≡ length s.0 =
        ap length (ap (λ (x : Kind). rounds_of x s.0) (sym same) ∙ rounds_of-own kind s.0 own) in
        let later : length (rounds_of other s.1) ≡ 0 =
        ap length (ap (λ (x : Kind). rounds_of x s.1) (sym same)
        ∙ passes_without kind kinds h k l workers (after_rounds p s.0) s.1 (λ i d low. differ 0 (suc i) d (omega arith) (omega arith)) s.4) in
        let few = pass-few true kind h k l workers p s.0 s.3 in
        let most = few_rounds kind k small in
        let sum = parts in
        omega arith
    by (inr other_kind) rest =
        let here : length (rounds_of other s.0) ≡ 0 = ap length (rounds_of-other kind other s.0 other_kind own) in
        let sum = parts in
        omega arith
