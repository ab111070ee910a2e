-- No step runs over: what is subtracted stands in its word, a count has room for one pin more, and what is booked fits.
use Rattle.std.proofs.Common.{◌≡◌, ◌≢◌, ℕ, ◌+◌, ◌-◌, ◌<◌, ◌≤◌, inl, inr, Bool, true, false, ◌&&◌, List, length, get_or}
use Rattle.std.proofs.Common.{slice_index, nat_eq, if◌then◌else◌, refl, sym, ap, ◌∙◌, subst, arith}
use Rattle.std.proofs.lemmas.Bool.{eqb-true}
use Rattle.hg_defs.specs.Sums.{total}
use Rattle.hg_defs.specs.Hypergraph.{vertex_count, net_count, net_of, weight_of}
use Rattle.hg_defs.specs.Partition.{block_of}
use Rattle.hg_defs.specs.Incidence.{nets_of}
use Rattle.hg_defs.proofs.SumLaws.{weight_if, weight_if-same}
use Rattle.move_core.specs.declared.account.Account.{Account}
use Rattle.move_core.specs.declared.account.Owed.{Owed}
use Rattle.move_core.specs.declared.account.Owed.TheVariants.{Nothing, Up, Down}
use Rattle.move_core.specs.declared.account.Stage.{Stage}
use Rattle.move_core.specs.declared.account.Stage.TheVariants.{Idle, Refused, Granted, Moving}
use Rattle.move_core.specs.declared.events.Event.TheVariants.{Raise, Lower}
use Rattle.move_core.specs.declared.events.Word.{Word}
use Rattle.move_core.specs.declared.events.Word.TheVariants as word
use Rattle.move_core.specs.State.{Setup, Readings, read, blank}
use Rattle.move_core.specs.Stages.{vertex_at, from_at, to_at, lowered_at, is_reserved, is_moving, owes_nothing, owes_down}
use Rattle.move_core.specs.Events.{may_step, stage_net, is_enabled_for, word_for, found_for, accounts_after_for, WritesWord, is_word}
use Rattle.move_core.specs.Balance.{InBalance, IsSetup, IsStageMove, IsInStep, owed_down, reserved_weight, stage_vertices}
use Rattle.move_core.proofs.StageCases.{no}
use Rattle.move_core.proofs.StageEvents.{staged}
use Rattle.move_core.proofs.TimesLaws.{all_at, pick_two}
use Rattle.move_core.proofs.LoadLaws.{load_reserved, load_leaving}
use Rattle.move_core.proofs.CountLaws.{count_within}
use Rattle.move_core.proofs.CountEvents.{lower_found}
use Rattle.move_core.proofs.SpreadLaws.{spread_positive}
use Rattle.move_core.proofs.EventLaw.{staged_at, event_balance}

module _ (g : Setup) (ok : IsSetup g) (r : Readings) (accounts : List Account) (b : InBalance g r accounts) (i : ℕ) (a : Account) (l : i < length accounts)
    (at : get_or accounts i (blank false) ≡ a) where
  wide : vertex_count g.graph ≤ length g.opening
  wide = let e = ok.opening.vertices in omega arith

  stage_move : IsStageMove g a.stage
  stage_move = all_at accounts i a a l at (λ x. IsStageMove g x.stage) b.moves.stages

  -- the weight that is taken back
  pub taken_weight : is_reserved a.stage ≡ true → weight_of g.graph (vertex_at a.stage) ≤ r.load (to_at a.stage)
  taken_weight h = go a.stage refl h
    where
      go : (stage : Stage) → stage ≡ a.stage → is_reserved stage ≡ true → weight_of g.graph (vertex_at stage) ≤ r.load (to_at stage)
      go Idle e q = no q
      go (Refused v to seen) e q =
          let m = subst (IsStageMove g) (sym e) stage_move in
          let w = load_reserved g r accounts b.claims b.moves b.loads wide i a l at to m.block in
          let s = ap (reserved_weight g.graph to) (sym e) in
          let o = weight_if-same to to (weight_of g.graph v) refl in
          omega arith
      go (Granted v from to seen) e q =
          let m = subst (IsStageMove g) (sym e) stage_move in
          let w = load_reserved g r accounts b.claims b.moves b.loads wide i a l at to m.block in
          let s = ap (reserved_weight g.graph to) (sym e) in
          let o = weight_if-same to to (weight_of g.graph v) refl in
          omega arith
      go (Moving v from to number named raised lowered owed booked) e q = no q

  -- the weight that leaves its block
  pub left_weight : (test : Bool → ℕ → ℕ → Owed → Bool) → is_moving test a.stage ≡ true → from_at a.stage < g.blocks →
      weight_of g.graph (vertex_at a.stage) ≤
      r.load (from_at a.stage)
  left_weight test h = go a.stage refl h
    where
      go : (stage : Stage) → stage ≡ a.stage → is_moving test stage ≡ true → from_at stage < g.blocks → weight_of g.graph (vertex_at stage) ≤ r.load
          (from_at stage)
      go Idle e q k = no q
      go (Refused v to seen) e q k = no q
      go (Granted v from to seen) e q k = no q
      go (Moving v from to number named raised lowered owed booked) e q k =
          let m = subst (IsStageMove g) (sym e) stage_move in
          let f : ℕ → ℕ = λ u. weight_if (block_of g.opening u) from (weight_of g.graph u) in
          let w = load_leaving g r accounts b.claims b.moves b.loads wide i a l at from k in
          let s = ap (λ z. total f (stage_vertices z)) (sym e) in
          let o = weight_if-same (block_of g.opening v) from (weight_of g.graph v) (sym m.origin) in
          omega arith

  -- no Lower finds 0
  pub lower_positive : a.live ≡ true → may_step g (Lower i) a ≡ true → 1 ≤ r.count (stage_net g a.stage (lowered_at a.stage)) (from_at a.stage)
  lower_positive on h = go a.stage refl h
    where
      go : (stage : Stage) → stage ≡ a.stage → is_moving (λ named raised lowered owed. owes_nothing owed && nat_eq raised (lowered + 1)) stage ≡ true →
          1 ≤ r.count (slice_index (nets_of g.graph (vertex_at stage)) (lowered_at stage)) (from_at stage)
      go Idle e q = no q
      go (Refused v to seen) e q = no q
      go (Granted v from to seen) e q = no q
      go (Moving v from to number named raised lowered Up booked) e q = no q
      go (Moving v from to number named raised lowered Down booked) e q = no q
      go (Moving v from to number false raised lowered Nothing booked) e q =
          let odd = eqb-true raised (lowered + 1) q in
          let step = subst (IsInStep g.graph) (sym e) (all_at accounts i a a l at (λ x. IsInStep g.graph x.stage) b.counts.steps) in
          let none = step.3 refl in
          absurd (omega arith)
      go (Moving v from to number true raised lowered Nothing booked) e q =
          let odd = eqb-true raised (lowered + 1) q in
          let step = subst (IsInStep g.graph) (sym e) (all_at accounts i a a l at (λ x. IsInStep g.graph x.stage) b.counts.steps) in
          let most = step.2 in
          lower_found g ok r r accounts i l b a.held a.moves a.numbers a.seeds a.gain v from to number raised lowered booked
          (at ∙ staged_at a on ∙ ap (staged a.held a.moves a.numbers a.seeds a.gain) (sym e)) (omega arith)

  -- no Narrow finds 0
  pub narrow_positive : is_moving (λ named raised lowered owed. owes_down owed) a.stage ≡ true → stage_net g a.stage (lowered_at a.stage - 1) < net_count
      g.graph → 1 ≤ r.spread (stage_net g a.stage (lowered_at a.stage - 1))
  narrow_positive h k =
      spread_positive g r r accounts i a a l at b.spreads (stage_net g a.stage (lowered_at a.stage - 1)) k b.rest.made
      (let o = owed a.stage h in omega arith)
    where
      owed : (stage : Stage) → is_moving (λ named raised lowered owed. owes_down owed) stage ≡ true →
          owed_down g.graph (slice_index (nets_of g.graph (vertex_at stage)) (lowered_at stage - 1)) stage ≡ 1
      owed Idle q = no q
      owed (Refused v to seen) q = no q
      owed (Granted v from to seen) q = no q
      owed (Moving v from to number named raised lowered Nothing booked) q = no q
      owed (Moving v from to number named raised lowered Up booked) q = no q
      owed (Moving v from to number named raised lowered Down booked) q = weight_if-same (slice_index (nets_of g.graph v) (lowered - 1))
          (slice_index (nets_of g.graph v) (lowered - 1)) 1 refl

-- a count changed alone
module _ (g : Setup) (r : Readings) (e c x : ℕ) where
  abbrev with_count : Readings
  with_count = record r { count = λ f d. if nat_eq e f && nat_eq c d then x else r.count f d }

  with_count-writes : WritesWord g (word.Count e c) x r with_count
  with_count-writes = record {
    here =
        elim (pick_two e e c c x (r.count e c)) [
          | inl p ↦ p.2
          | inr q ↦ absurd (q.0 (refl, refl))
        ];
    others = others;
  }
    where
      others : (u : Word) → is_word g u ≡ true → u ≢ word.Count e c → read with_count u ≡ read r u
      others (word.Claim v) h n = refl
      others (word.Name v) h n = refl
      others (word.Load d) h n = refl
      others (word.Count f d) h n =
          elim (pick_two e f c d x (r.count f d)) [
            | inl p ↦ absurd (n (ap (λ z. word.Count z d) (sym p.0) ∙ ap (word.Count e) (sym p.1)))
            | inr q ↦ q.1
          ]
      others (word.Spread f) h n = refl
      others word.Next h n = refl
      others word.Cursor h n = refl

-- a count has room for the pin of a Raise
pub count_room : (g : Setup) (ok : IsSetup g) (r : Readings) (accounts : List Account) (b : InBalance g r accounts) (i : ℕ) → is_enabled_for g accounts
    (Raise i) ≡ true → (e c : ℕ) → word_for g accounts (Raise i) ≡ word.Count e c → e < net_count g.graph → c < g.blocks →
    r.count e c + 1 ≤ length (net_of g.graph e).pins
count_room g ok r accounts b i on e c here k q =
    let x : ℕ = found_for g r accounts (Raise i) + 1 in
    let same : found_for g r accounts (Raise i) ≡ r.count e c = ap (read r) here in
    let p = event_balance g ok r accounts b (with_count g r e c x) (Raise i) on (subst (λ w. WritesWord g w x r (with_count g r e c x)) (sym here)
    (with_count-writes g r e c x)) in
    let most = count_within g (with_count g r e c x) (accounts_after_for g accounts (Raise i) (found_for g r accounts (Raise i))) ok.graph p.claims p.moves
    p.counts e c k q in
    let now : read (with_count g r e c x) (word.Count e c) ≡ x = (with_count-writes g r e c x).here in
    omega arith
