-- The laws over passes: whatever each of their rounds keeps, they keep.
use Rattle.std.proofs.Common.{◌≡◌, inl, inr, ℕ, suc, ◌+◌, ◌-◌, ◌*◌, ◌<◌, ◌≤◌, Bool, true, false, nat_lt, if◌then◌else◌, List}
use Rattle.std.proofs.Common.{[], ◌∷◌, length, All, refl, sym, ap, subst, ◌∙◌, arith, true≢false}
use Rattle.std.proofs.lemmas.Bool.{ltb-true, ltb-false, lt-ltb}
use Rattle.std.proofs.lemmas.List.Elements.{All-nil, All-cons, All-head, All-tail}
use Rattle.hg_defs.specs.declared.moves.Move.{Move}
use Rattle.hg_defs.specs.Sums.{total}
use Rattle.hg_defs.specs.Hypergraph.{Hyper, IsFree}
use Rattle.hg_defs.proofs.MoveLaws.{sweep_allowed}
use Rattle.hg_defs.specs.Replay.{replay}
use Rattle.hg_defs.specs.Partition.{IsPartition, Fits, Obeys}
use Rattle.hg_defs.specs.Cost.{cost}
use Rattle.round_log.specs.declared.record.Kind.{Kind}
use Rattle.round_log.specs.declared.record.Kind.TheVariants.{Label, Search, Flow, Sweep}
use Rattle.round_log.specs.declared.record.LoggedRound.{LoggedRound}
use Rattle.round_log.specs.Rounds.{after_round, after_rounds, IsSwept, IsRaced, IsFlowRound}
use Rattle.round_log.specs.Passes.{IsLabelRound, AreLabelRounds, IsSearchRound, AreSearchRounds, AreFlowRounds, ArePassRounds, block_pairs, is_lower, saved}
use Rattle.round_log.specs.RoundLaws.{PassLeavesPartition, PassLeavesFixes, PassStaysWithinLimit, PassRaisesNoCost, PassSavesInItsRounds}
use Rattle.round_log.specs.RoundLaws.{PassHasFewRounds, PassIsOfItsKind, PassIsPartOfPass, MovesFree, PassMovesFreeVertices}
use Rattle.round_log.proofs.RoundLaws.{swept_to, swept_partition, swept_obeys, swept_fits, swept_less}
use Rattle.round_log.proofs.RoundLaws.{raced-partition, raced-obeys, raced-fits, raced-no_dearer}
use Rattle.round_log.proofs.PairLaws.{pairs_within}
use Rattle.round_log.proofs.FlowLaws.{flow-partition, flow-obeys, flow-no_dearer, flow-free, flow-region_free}

-- ---- what a round keeps

pub record Keeps (h : Hyper) (k l : ℕ) (p : List ℕ) (r : LoggedRound) : Type 0 where
  pub partition : IsPartition h k p → IsPartition h k (after_round p r)
  pub fixes : Obeys h p → Obeys h (after_round p r)
  pub within : IsPartition h k p → Fits h k l p → Fits h k l (after_round p r)
  pub no_dearer : Fits h k l p → cost h (after_round p r) ≤ cost h p
  pub before : r.before ≡ cost h p
  pub after : r.after ≡ cost h (after_round p r)
  pub free : MovesFree h r

module _ (h : Hyper) (k l : ℕ) (p : List ℕ) (r : LoggedRound) where
  pub raced_keeps : IsRaced h k l p r → Keeps h k l p r
  raced_keeps s = record {
    partition = λ w. raced-partition h k l p r w s;
    fixes = λ o. raced-obeys h k l p r o s;
    within = λ w f. raced-fits h k l p r f s;
    no_dearer = λ f. let a = raced-no_dearer h k l p r f s in let b = s.before in let c = s.after in omega arith;
    before = s.before;
    after = s.after;
    free = ((λ i d m. (s.moves.each i d m).free), subst (All (IsFree h)) (sym s.no_pair.region) (All-nil (IsFree h)));
  }

  swept_keeps : IsSwept h k l p r → Keeps h k l p r
  swept_keeps s = record {
    partition = swept_partition h k l p r s;
    fixes = swept_obeys h k l p r s;
    within = swept_fits h k l p r s;
    no_dearer = λ f. let a = swept_less h k l p r s in omega arith;
    before = s.before;
    after = s.after ∙ s.made ∙ ap (λ (moves : List Move). cost h (replay p moves)) s.moves ∙ ap (cost h) (sym (swept_to h k l p r s));
    free = (
      subst (All (λ (m : Move). IsFree h m.vertex)) (sym s.moves) (λ i d m. (sweep_allowed h k l p i d m).free),
      subst (All (IsFree h)) (sym s.no_pair.region) (All-nil (IsFree h)),
    );
  }

  flow_keeps : r.first < k → r.second < k → IsFlowRound h k l p r → Keeps h k l p r
  flow_keeps first second s = record {
    partition = λ w. flow-partition h k l p r first second w s;
    fixes = λ o. flow-obeys h k l p r o s;
    within = λ w f. s.fits;
    no_dearer = λ f. let a = flow-no_dearer h k l p r s in let b = s.before in let c = s.after in let d = s.made in omega arith;
    before = s.before;
    after = s.after ∙ s.made;
    free = (flow-free h k l p r s, flow-region_free h k l p r s);
  }

-- ---- what rounds keep, one after the other

abbrev pub AllKeep : Hyper → ℕ → ℕ → List ℕ → List LoggedRound → Type 0
AllKeep h k l p [] = Unit {0}
AllKeep h k l p (r ∷ rounds) = Keeps h k l p r × AllKeep h k l (after_round p r) rounds

module _ (h : Hyper) (k l : ℕ) where
  pub rounds-partition : (p : List ℕ) (rounds : List LoggedRound) → IsPartition h k p → AllKeep h k l p rounds → IsPartition h k (after_rounds p rounds)
  rounds-partition p [] w keep = w
  rounds-partition p (r ∷ rounds) w keep = rounds-partition (after_round p r) rounds (keep.0.partition w) keep.1

  pub rounds-obeys : (p : List ℕ) (rounds : List LoggedRound) → Obeys h p → AllKeep h k l p rounds → Obeys h (after_rounds p rounds)
  rounds-obeys p [] o keep = o
  rounds-obeys p (r ∷ rounds) o keep = rounds-obeys (after_round p r) rounds (keep.0.fixes o) keep.1

  pub rounds-fits : (p : List ℕ) (rounds : List LoggedRound) → IsPartition h k p → Fits h k l p → AllKeep h k l p rounds →
      Fits h k l (after_rounds p rounds)
  rounds-fits p [] w f keep = f
  rounds-fits p (r ∷ rounds) w f keep = rounds-fits (after_round p r) rounds (keep.0.partition w) (keep.0.within w f) keep.1

  pub rounds-no_dearer : (p : List ℕ) (rounds : List LoggedRound) → IsPartition h k p → Fits h k l p → AllKeep h k l p rounds →
      cost h (after_rounds p rounds) ≤ cost h p
  rounds-no_dearer p [] w f keep = omega arith
  rounds-no_dearer p (r ∷ rounds) w f keep =
      let one = keep.0.no_dearer f in
      let others = rounds-no_dearer (after_round p r) rounds (keep.0.partition w) (keep.0.within w f) keep.1 in
      omega arith

  pub rounds-save : (p : List ℕ) (rounds : List LoggedRound) → IsPartition h k p → Fits h k l p → AllKeep h k l p rounds → total saved rounds + cost h
      (after_rounds p rounds) ≡ cost h p
  rounds-save p [] w f keep = omega arith
  rounds-save p (r ∷ rounds) w f keep =
      let one = keep.0.no_dearer f in
      let before = keep.0.before in
      let after = keep.0.after in
      let others = rounds-save (after_round p r) rounds (keep.0.partition w) (keep.0.within w f) keep.1 in
      omega arith

-- ---- the rounds of each pass

module _ (whole : Bool) (h : Hyper) (k l workers : ℕ) where
  label_round : (raced : Bool) (p : List ℕ) (r : LoggedRound) → IsLabelRound raced h k l workers p r → Keeps h k l p r
  label_round true p r s = raced_keeps h k l p r s.0.raced
  label_round false p r s = swept_keeps h k l p r s.0

  label_rounds : (lowered : ℕ) (raced : Bool) (p : List ℕ) (rounds : List LoggedRound) → AreLabelRounds whole h k l workers lowered raced p rounds →
      AllKeep h k l p rounds
  label_rounds lowered raced p [] s = tt
  label_rounds lowered raced p (r ∷ rounds) s = (
    label_round raced p r s.3,
    label_rounds (if is_lower r then lowered + 1 else lowered) (is_lower r)
        (after_round p r) rounds s.4,
  )

  -- a sweep lowers the cost, so the round after it is raced
  sweep_lower : (p : List ℕ) (r : LoggedRound) → IsSwept h k l p r → is_lower r ≡ true
  sweep_lower p r s =
      lt-ltb r.after r.before
      (let keep = swept_keeps h k l p r s in let less = swept_less h k l p r s in let a = keep.before in let b = keep.after in omega arith)

  -- two rounds at most for each that lowers the cost
  label_few : (lowered : ℕ) (raced : Bool) (p : List ℕ) (rounds : List LoggedRound) → AreLabelRounds whole h k l workers lowered raced p rounds
      → length rounds + (if raced then 0 else 1) ≤ 2 * (8 - lowered) + (if raced then 0 else (if nat_lt lowered 8 then 0 else 1))
  label_few lowered true p [] s = omega arith
  label_few lowered false p [] s = by (nat_lt lowered 8) refl
    where
      by : (t : Bool) → nat_lt lowered 8 ≡ t → 0 + 1 ≤ 2 * (8 - lowered) + (if t then 0 else 1)
      by true e = let low = ltb-true lowered 8 e in omega arith
      by false e = omega arith
  label_few lowered true p (r ∷ rounds) s = by (is_lower r) (label_few (if is_lower r then lowered + 1 else lowered) (is_lower r) (after_round p r) rounds
      s.4)
    where
      low : lowered < 8
      low = s.1

      by : (t : Bool) → length rounds + (if t then 0 else 1) ≤ 2 * (8 - (if t then lowered + 1 else lowered)) +
          (if t then 0 else (if nat_lt (if t then lowered + 1 else lowered) 8 then 0 else 1))
          → suc (length rounds) + 0 ≤ 2 * (8 - lowered) + 0
      by true rest = let m = low in omega arith
      by false rest = two (nat_lt lowered 8) refl rest
        where
          two : (t : Bool) → nat_lt lowered 8 ≡ t → length rounds + 1 ≤ 2 * (8 - lowered) + (if t then 0 else 1) → suc (length rounds) + 0 ≤ 2 *
              (8 - lowered) + 0
          two true e rest = omega arith
          two false e rest = absurd (let m = low in let n = ltb-false lowered 8 e in omega arith)
  label_few lowered false p (r ∷ rounds) s = by (nat_lt lowered 8) refl (is_lower r) (sweep_lower p r s.3.0)
      (label_few (if is_lower r then lowered + 1 else lowered) (is_lower r) (after_round p r) rounds s.4)
    where
      low : lowered < 8
      low = s.1

      by : (b : Bool) → nat_lt lowered 8 ≡ b → (t : Bool) → t ≡ true → length rounds + (if t then 0 else 1) ≤ 2 *
          (8 - (if t then lowered + 1 else lowered)) +
          (if t then 0 else (if nat_lt (if t then lowered + 1 else lowered) 8 then 0 else 1))
          → suc (length rounds) + 1 ≤ 2 * (8 - lowered) + (if b then 0 else 1)
      by true f true e rest = let m = low in omega arith
      by false f true e rest = absurd (let m = low in let n = ltb-false lowered 8 f in omega arith)
      by b f false e rest = absurd (true≢false (sym e))

  label_kind : (lowered : ℕ) (raced : Bool) (p : List ℕ) (rounds : List LoggedRound) → AreLabelRounds whole h k l workers lowered raced p rounds →
      All (λ r. r.kind ≡ Label) rounds
  label_kind lowered raced p [] s = All-nil (λ (r : LoggedRound). r.kind ≡ Label)
  label_kind lowered raced p (r ∷ rounds) s = All-cons (λ (r : LoggedRound). r.kind ≡ Label) r rounds s.2
      (label_kind (if is_lower r then lowered + 1 else lowered) (is_lower r) (after_round p r) rounds s.4)

  search_round : (p : List ℕ) (r : LoggedRound) → IsSearchRound h k l workers p r → Keeps h k l p r
  search_round p r (inl s) = raced_keeps h k l p r s.0.raced
  search_round p r (inr s) = raced_keeps h k l p r s.plain.raced

  search_rounds : (made : ℕ) (going : Bool) (p : List ℕ) (rounds : List LoggedRound) → AreSearchRounds whole h k l workers made going p rounds →
      AllKeep h k l p rounds
  search_rounds made going p [] s = tt
  search_rounds made going p (r ∷ rounds) s = (search_round p r s.4, search_rounds (made + 1) (nat_lt 0 r.kept) (after_round p r) rounds s.5)

  search_few : (made : ℕ) (going : Bool) (p : List ℕ) (rounds : List LoggedRound) → AreSearchRounds whole h k l workers made going p rounds →
      length rounds ≤ 4 - made
  search_few made going p [] s = omega arith
  search_few made going p (r ∷ rounds) s = let low : made < 4 = s.0 in let rest = search_few (made + 1) (nat_lt 0 r.kept) (after_round p r) rounds s.5 in
      omega arith

  search_kind : (made : ℕ) (going : Bool) (p : List ℕ) (rounds : List LoggedRound) → AreSearchRounds whole h k l workers made going p rounds →
      All (λ r. r.kind ≡ Search) rounds
  search_kind made going p [] s = All-nil (λ (r : LoggedRound). r.kind ≡ Search)
  search_kind made going p (r ∷ rounds) s = All-cons (λ (r : LoggedRound). r.kind ≡ Search) r rounds s.3
      (search_kind (made + 1) (nat_lt 0 r.kept) (after_round p r) rounds s.5)

-- two blocks below k
abbrev IsPair : ℕ → ℕ × ℕ → Type 0
IsPair k pair = (pair.0 < k) × (pair.1 < k)

module _ (whole : Bool) (h : Hyper) (k l : ℕ) where
  flow_rounds : (pairs : List (ℕ × ℕ)) (p : List ℕ) (rounds : List LoggedRound) → All (IsPair k) pairs → AreFlowRounds whole h k l pairs p rounds →
      AllKeep h k l p rounds
  flow_rounds [] p [] low s = tt
  flow_rounds [] p (r ∷ rounds) low s = absurd s
  flow_rounds (pair ∷ pairs) p [] low s = tt
  flow_rounds (pair ∷ pairs) p (r ∷ rounds) low (inl s) = flow_rounds pairs p (r ∷ rounds) (All-tail (IsPair k) pair pairs low) s.1
  flow_rounds (pair ∷ pairs) p (r ∷ rounds) low (inr s) =
      let here = All-head (IsPair k) pair pairs low in (
        flow_keeps h k l p r (subst (λ a. a < k) (sym s.2) here.0) (subst (λ b. b < k) (sym s.3) here.1) s.5,
        flow_rounds pairs (after_round p r) rounds (All-tail (IsPair k) pair pairs low) s.6,
      )

  flow_few : (pairs : List (ℕ × ℕ)) (p : List ℕ) (rounds : List LoggedRound) → AreFlowRounds whole h k l pairs p rounds → length rounds ≤ length pairs
  flow_few [] p [] s = omega arith
  flow_few [] p (r ∷ rounds) s = absurd s
  flow_few (pair ∷ pairs) p [] s = omega arith
  flow_few (pair ∷ pairs) p (r ∷ rounds) (inl s) = let rest = flow_few pairs p (r ∷ rounds) s.1 in omega arith
  flow_few (pair ∷ pairs) p (r ∷ rounds) (inr s) = let rest = flow_few pairs (after_round p r) rounds s.6 in omega arith

  flow_kind : (pairs : List (ℕ × ℕ)) (p : List ℕ) (rounds : List LoggedRound) → AreFlowRounds whole h k l pairs p rounds → All (λ r. r.kind ≡ Flow) rounds
  flow_kind [] p [] s = All-nil (λ (r : LoggedRound). r.kind ≡ Flow)
  flow_kind [] p (r ∷ rounds) s = absurd s
  flow_kind (pair ∷ pairs) p [] s = All-nil (λ (r : LoggedRound). r.kind ≡ Flow)
  flow_kind (pair ∷ pairs) p (r ∷ rounds) (inl s) = flow_kind pairs p (r ∷ rounds) s.1
  flow_kind (pair ∷ pairs) p (r ∷ rounds) (inr s) = All-cons (λ (r : LoggedRound). r.kind ≡ Flow) r rounds s.1
      (flow_kind pairs (after_round p r) rounds s.6)

pub pass_keeps : (whole : Bool) (kind : Kind) (h : Hyper) (k l workers : ℕ) (p : List ℕ) (rounds : List LoggedRound) → ArePassRounds whole kind h k l
    workers p
    rounds → AllKeep h k l p rounds
pass_keeps whole Label h k l workers p rounds s = label_rounds whole h k l workers 0 true p rounds s
pass_keeps whole Search h k l workers p rounds s = search_rounds whole h k l workers 0 true p rounds s
pass_keeps whole Flow h k l workers p rounds s = flow_rounds whole h k l (block_pairs k) p rounds (pairs_within k) s
pass_keeps whole Sweep h k l workers p rounds s = absurd s

pub pass-partition : PassLeavesPartition
pass-partition whole kind h k l workers p rounds w s = rounds-partition h k l p rounds w (pass_keeps whole kind h k l workers p rounds s)

pub pass-obeys : PassLeavesFixes
pass-obeys whole kind h k l workers p rounds o s = rounds-obeys h k l p rounds o (pass_keeps whole kind h k l workers p rounds s)

pub pass-fits : PassStaysWithinLimit
pass-fits whole kind h k l workers p rounds w f s = rounds-fits h k l p rounds w f (pass_keeps whole kind h k l workers p rounds s)

pub pass-no_dearer : PassRaisesNoCost
pass-no_dearer whole kind h k l workers p rounds w f s = rounds-no_dearer h k l p rounds w f (pass_keeps whole kind h k l workers p rounds s)

pub pass-saves : PassSavesInItsRounds
pass-saves whole kind h k l workers p rounds w f s = rounds-save h k l p rounds w f (pass_keeps whole kind h k l workers p rounds s)

pub pass-few : PassHasFewRounds
pass-few whole Label h k l workers p rounds s = let few = label_few whole h k l workers 0 true p rounds s in omega arith
pass-few whole Search h k l workers p rounds s = search_few whole h k l workers 0 true p rounds s
pass-few whole Flow h k l workers p rounds s = flow_few whole h k l (block_pairs k) p rounds s
pass-few whole Sweep h k l workers p rounds s = absurd s

pub pass-kind : PassIsOfItsKind
pass-kind whole Label h k l workers p rounds s = label_kind whole h k l workers 0 true p rounds s
pass-kind whole Search h k l workers p rounds s = search_kind whole h k l workers 0 true p rounds s
pass-kind whole Flow h k l workers p rounds s = flow_kind whole h k l (block_pairs k) p rounds s
pass-kind whole Sweep h k l workers p rounds s = absurd s

-- ---- a whole pass, without its end

module _ (h : Hyper) (k l workers : ℕ) where
  label_part : (lowered : ℕ) (raced : Bool) (p : List ℕ) (rounds : List LoggedRound) → AreLabelRounds true h k l workers lowered raced p rounds →
      AreLabelRounds false h k l workers lowered raced p rounds
  label_part lowered raced p [] s = tt
  label_part lowered raced p (r ∷ rounds) s = (
    s.0,
    s.1,
    s.2,
    s.3,
    label_part (if is_lower r then lowered + 1 else lowered) (is_lower r) (after_round p r)
        rounds s.4,
  )

  search_part : (made : ℕ) (going : Bool) (p : List ℕ) (rounds : List LoggedRound) → AreSearchRounds true h k l workers made going p rounds →
      AreSearchRounds false h k l workers made going p rounds
  search_part made going p [] s = tt
  search_part made going p (r ∷ rounds) s = (s.0, s.1, s.2, s.3, s.4, search_part (made + 1) (nat_lt 0 r.kept) (after_round p r) rounds s.5)

  flow_part : (pairs : List (ℕ × ℕ)) (p : List ℕ) (rounds : List LoggedRound) → AreFlowRounds true h k l pairs p rounds → AreFlowRounds false h k l pairs p
      rounds
  flow_part [] p [] s = tt
  flow_part [] p (r ∷ rounds) s = absurd s
  flow_part (pair ∷ pairs) p [] s = tt
  flow_part (pair ∷ pairs) p (r ∷ rounds) (inl s) = inl (s.0, flow_part pairs p (r ∷ rounds) s.1)
  flow_part (pair ∷ pairs) p (r ∷ rounds) (inr s) = inr (s.0, s.1, s.2, s.3, s.4, s.5, flow_part pairs (after_round p r) rounds s.6)

pub pass-part : PassIsPartOfPass
pass-part Label h k l workers p rounds s = label_part h k l workers 0 true p rounds s
pass-part Search h k l workers p rounds s = search_part h k l workers 0 true p rounds s
pass-part Flow h k l workers p rounds s = flow_part h k l workers (block_pairs k) p rounds s
pass-part Sweep h k l workers p rounds s = absurd s

-- ---- free vertices

all_free : (h : Hyper) (k l : ℕ) (p : List ℕ) (rounds : List LoggedRound) → AllKeep h k l p rounds → All (MovesFree h) rounds
all_free h k l p [] keep = All-nil (MovesFree h)
all_free h k l p (r ∷ rounds) keep = All-cons (MovesFree h) r rounds keep.0.free (all_free h k l (after_round p r) rounds keep.1)

pub pass-free : PassMovesFreeVertices
pass-free whole kind h k l workers p rounds s = all_free h k l p rounds (pass_keeps whole kind h k l workers p rounds s)
