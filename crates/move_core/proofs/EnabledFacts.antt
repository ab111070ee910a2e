-- Whether an event is enabled, by what the machine can look up.
use Rattle.std.proofs.Common.{◌≡◌, ◌≢◌, ℕ, ◌<◌, ◌≤◌, inl, inr, true, false, ◌&&◌, List, [], ◌∷◌, map, length}
use Rattle.std.proofs.Common.{slice_index, nat_eq, All, refl, sym, ap, ◌∙◌, arith}
use Rattle.std.proofs.lemmas.Bool.{eq-eqb, ne_eqb, cases_lt, lt-ltb}
use Rattle.std.proofs.lemmas.List.{get_or_past}
use Rattle.std.proofs.lemmas.List.Elements.{All-nil, All-cons, All-head, All-tail}
use Rattle.hg_defs.specs.declared.moves.Move.{Move}
use Rattle.hg_defs.specs.Hypergraph.{vertex_count}
use Rattle.hg_defs.specs.Partition.{block_of}
use Rattle.hg_defs.proofs.SumLaws.{weight_if, total-append}
use Rattle.move_core.specs.declared.account.Account.{Account}
use Rattle.move_core.specs.declared.events.Event.{Event}
use Rattle.move_core.specs.State.{State, readings, account, blank, times}
use Rattle.move_core.specs.Stages.{is_idle}
use Rattle.move_core.specs.Events.{moved_vertices, holds_unmoved, is_enabled, may_step, others_agree, pass_of}
use Rattle.move_core.specs.Balance.{IsBooks, IsMoveFromOpening, named_at}
use Rattle.move_core.proofs.TimesLaws.{All_at_times, all_at}
use Rattle.move_core.proofs.StageCases.{on_idle}
use Rattle.move_core.proofs.ReadBack.{unmoved_back}

to-map : (P : ℕ → Type 0) (ms : List Move) → All (λ m. P m.vertex) ms → All P (map (λ m. m.vertex) ms)
to-map P [] h = All-nil P
to-map P (m ∷ ms) h = All-cons P m.vertex (map (λ (z : Move). z.vertex) ms) (All-head (λ (z : Move). P z.vertex) m ms h)
    (to-map P ms (All-tail (λ (z : Move). P z.vertex) m ms h))

module _ (s : State) (k : IsBooks s) (i v : ℕ) (l : i < length s.accounts) (m : v < vertex_count s.setup.graph) (idle : is_idle (account s i).stage ≡ true)
    (has : 0 < times v (account s i).held) where
  named_as_before : times v (moved_vertices (account s i)) ≡ 0 → (readings s).name v ≡ block_of s.setup.opening v
  named_as_before z =
      let w = total-append (λ x. weight_if x v 1) (moved_vertices (account s i)) (named_at (account s i).stage) in
      let e = ap (times v) (on_idle (λ stage. named_at stage ≡ []) refl (account s i).stage idle) in
      unmoved_back s.setup (readings s) s.accounts k.balance i v (lt-ltb 0 (times v (account s i).held) has) (omega arith)

  named_anew : 0 < times v (moved_vertices (account s i)) → (readings s).name v ≢ block_of s.setup.opening v
  named_anew p =
      let a = account s i in
      let done = all_at s.accounts i a a l refl (λ (x : Account). All (λ z. (readings s).name z.vertex ≡ z.to) x.moves) k.balance.names.done in
      let moves = all_at s.accounts i a a l refl (λ (x : Account). All (λ z. IsMoveFromOpening s.setup z.vertex z.from z.to) x.moves)
      k.balance.moves.done in
      let P : ℕ → Type 0 = λ u. (readings s).name u ≢ block_of s.setup.opening u in
      All_at_times P (moved_vertices a) v (to-map P a.moves (λ j d o e. (moves j d o).other (sym (done j d o) ∙ e))) p

  -- a vertex that an idle pass holds is unmoved exactly where its name is its block at the opening
  pub unmoved_test : nat_eq (slice_index s.names v) (slice_index s.setup.opening v) ≡ holds_unmoved (account s i) v
  unmoved_test =
      elim (cases_lt 0 (times v (moved_vertices (account s i)))) [
        | inl p ↦
            ne_eqb (slice_index s.names v) (slice_index s.setup.opening v) (named_anew p)
            ∙ sym (ap (λ b. b && nat_eq (times v (moved_vertices (account s i))) 0) (lt-ltb 0 (times v (account s i).held) has)
            ∙ ne_eqb (times v (moved_vertices (account s i))) 0 (λ e. absurd (omega arith)))
        | inr q ↦
            let z : times v (moved_vertices (account s i)) ≡ 0 = omega arith in
            eq-eqb (slice_index s.names v) (slice_index s.setup.opening v) (named_as_before z)
            ∙ sym (ap (λ b. b && nat_eq (times v (moved_vertices (account s i))) 0) (lt-ltb 0 (times v (account s i).held) has)
            ∙ eq-eqb (times v (moved_vertices (account s i))) 0 z)
      ]

-- a pass that was never made makes no event
pub past_disabled : (s : State) (x : Event) → length s.accounts ≤ pass_of x → is_enabled s x ≡ false
past_disabled s x l = ap (λ (a : Account). a.live && (may_step s.setup x a && others_agree s x)) (get_or_past s.accounts (pass_of x) (blank false) l)
