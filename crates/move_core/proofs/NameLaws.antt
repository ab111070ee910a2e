-- The clause on names, after a Name, and after all other events.
use Rattle.std.proofs.Common.{◌≡◌, ℕ, ◌+◌, ◌<◌, ◌≤◌, ◌≢◌, inl, inr, Bool, true, false, List, [], ◌∷◌, map, length, length-set, get_or}
use Rattle.std.proofs.Common.{get_or-set_same, set, nat_eq, if◌then◌else◌, All, refl, sym, ap, ◌∙◌, subst, arith}
use Rattle.std.proofs.lemmas.List.Elements.{All-nil, All-head, All-tail, All-cons}
use Rattle.hg_defs.specs.declared.moves.Move.{Move}
use Rattle.hg_defs.specs.Hypergraph.{vertex_count}
use Rattle.hg_defs.proofs.SumLaws.{weight_if, weight_if-same, weight_if-other, total-append}
use Rattle.move_core.specs.declared.account.Account.{Account}
use Rattle.move_core.specs.declared.account.Stage.{Stage}
use Rattle.move_core.specs.declared.account.Stage.TheVariants.{Idle, Refused, Granted, Moving}
use Rattle.move_core.specs.State.{Setup, Readings, times, blank}
use Rattle.move_core.specs.Events.{moved_vertices}
use Rattle.move_core.specs.Balance.{Claims, Moves, Names, IsNamed, carried, renamed, named_at, stage_vertices}
use Rattle.move_core.proofs.TimesLaws.{All_at_times, All_from_times, total_unchanged, total_at, all_at, all_changed, all_changed_others, pick}
use Rattle.move_core.proofs.HeldLaws.{carried_below, moved_below, held_alone}

-- names that are the same at each vertex of some moves
pub names-same : (name name' : ℕ → ℕ) (ms : List Move) → All (λ m. name' m.vertex ≡ name m.vertex) ms → All (λ m. name m.vertex ≡ m.to) ms
    → All (λ m. name' m.vertex ≡ m.to) ms
names-same name name' ms e h k d l = e k d l ∙ h k d l

pub stage-same : (name name' : ℕ → ℕ) (stage : Stage) → All (λ v. name' v ≡ name v) (named_at stage) → IsNamed name stage → IsNamed name' stage
stage-same name name' Idle e h = tt
stage-same name name' (Refused v to seen) e h = tt
stage-same name name' (Granted v from to seen) e h = tt
stage-same name name' (Moving v from to number named raised lowered owed booked) e h =
    λ q. let f = subst (λ b. All (λ u. name' u ≡ name u) (if b then v ∷ [] else [])) q e in All-head (λ u. name' u ≡ name u) v [] f ∙ h q

-- a list in which a number doesn't stand
apart : (v : ℕ) (xs : List ℕ) → times v xs ≡ 0 → All (λ u. v ≢ u) xs
apart v [] h = All-nil (λ u. v ≢ u)
apart v (x ∷ xs) h =
    All-cons (λ u. v ≢ u) x xs
    (λ e. let s = weight_if-same x v 1 (sym e) in absurd (omega arith))
    (apart v xs (omega arith))

pub from-map : (P : ℕ → Type 0) (ms : List Move) → All P (map (λ m. m.vertex) ms) → All (λ m. P m.vertex) ms
from-map P [] h = All-nil (λ (m : Move). P m.vertex)
from-map P (m ∷ ms) h =
    All-cons (λ (m : Move). P m.vertex) m ms
    (All-head P m.vertex (map (λ (m : Move). m.vertex) ms) h)
    (from-map P ms (All-tail P m.vertex (map (λ (m : Move). m.vertex) ms) h))

pub times-named_at : (v : ℕ) (stage : Stage) → times v (named_at stage) ≤ times v (stage_vertices stage)
times-named_at v Idle = omega arith
times-named_at v (Refused u to seen) = omega arith
times-named_at v (Granted u from to seen) = omega arith
times-named_at v (Moving u from to number named raised lowered owed booked) = by named
  where
    by : (b : Bool) → times v (if b then u ∷ [] else []) ≤ times v (u ∷ [])
    by true = omega arith
    by false = omega arith

module _ (s : Setup) (r r' : Readings) (accounts : List Account) (c : Claims s.graph r accounts) (m : Moves s accounts) (n : Names s r accounts) where
  pub named_below : (k : ℕ) (d : Account) → k < length accounts → All (λ v. v < vertex_count s.graph) (named_at (get_or accounts k d).stage)
  named_below k d l =
      let a = get_or accounts k d in
      All_from_times (λ v. v < vertex_count s.graph) (named_at a.stage) (λ v p.
      All_at_times (λ u. u < vertex_count s.graph) (carried a) v (carried_below s r accounts c m k d l)
      (let e = times-named_at v a.stage in let f = total-append (λ x. weight_if x v 1) (moved_vertices a) (stage_vertices a.stage) in omega arith))

  module _ (i : ℕ) (a a' : Account) (l : i < length accounts) (at : get_or accounts i (blank false) ≡ a) where
    -- the names stay, and the vertices renamed too
    pub names_kept : ((v : ℕ) → v < vertex_count s.graph → r'.name v ≡ r.name v) → ((v : ℕ) → times v (renamed a') ≡ times v (renamed a))
        → (All (λ z. r.name z.vertex ≡ z.to) a.moves → IsNamed r.name a.stage → All (λ z. r.name z.vertex ≡ z.to) a'.moves × IsNamed r.name a'.stage)
        → Names s r' (set accounts i a')
    names_kept same e own = record {
      done =
          all_changed accounts i a a' l at (λ (x : Account). All (λ z. r'.name z.vertex ≡ z.to) x.moves)
          (λ k d q. names-same r.name r'.name (get_or accounts k d).moves
          (λ j y p. same (get_or (get_or accounts k d).moves j y).vertex (moved_below s r accounts c m k d q j y p)) (n.done k d q))
          (names-same r.name r'.name a'.moves (from-map (λ u. r'.name u ≡ r.name u) a'.moves
          (All_from_times (λ u. r'.name u ≡ r.name u) (moved_vertices a') (λ u p. same u (below u (let f = parts u in omega arith))))) ours.0);
      stages =
          all_changed accounts i a a' l at (λ (x : Account). IsNamed r'.name x.stage)
          (λ k d q. stage-same r.name r'.name (get_or accounts k d).stage
          (λ j y p. same (get_or (named_at (get_or accounts k d).stage) j y) (named_below k d q j y p)) (n.stages k d q))
          (stage-same r.name r'.name a'.stage (All_from_times (λ u. r'.name u ≡ r.name u) (named_at a'.stage)
          (λ u p. same u (below u (let f = parts u in omega arith)))) ours.1);
      others = λ v q z. same v q ∙ n.others v q (sym (total_unchanged accounts i a a' l at (λ x. times v (renamed x)) (e v)) ∙ z);
    }
      where
        ours : All (λ z. r.name z.vertex ≡ z.to) a'.moves × IsNamed r.name a'.stage
        ours = own (all_at accounts i a a' l at (λ (x : Account). All (λ z. r.name z.vertex ≡ z.to) x.moves) n.done)
            (all_at accounts i a a' l at (λ (x : Account). IsNamed r.name x.stage) n.stages)

        parts : (u : ℕ) → times u (renamed a') ≡ times u (moved_vertices a') + times u (named_at a'.stage)
        parts u = total-append (λ x. weight_if x u 1) (moved_vertices a') (named_at a'.stage)

        below : (u : ℕ) → 0 < times u (renamed a') → u < vertex_count s.graph
        below u p =
            All_at_times (λ x. x < vertex_count s.graph) (carried a) u (all_at accounts i a a' l at
            (λ (x : Account). All (λ y. y < vertex_count s.graph) (carried x)) (carried_below s r accounts c m))
            (let f = total-append (λ x. weight_if x u 1) (moved_vertices a) (named_at a.stage) in
            let g = total-append (λ x. weight_if x u 1) (moved_vertices a) (stage_vertices a.stage) in
            let h = times-named_at u a.stage in
            let j = e u in
            omega arith)

    -- Name: the vertex of a stage gets its new block
    pub names_written : (v to : ℕ) → v < vertex_count s.graph → ((u : ℕ) → u < vertex_count s.graph → r'.name u ≡ (if nat_eq v u then to else r.name u))
        → 0 < times v a.held → times v (moved_vertices a) ≡ 0 → a'.moves ≡ a.moves
        → ((u : ℕ) → times u (named_at a'.stage) ≡ times u (named_at a.stage) + weight_if v u 1) → (r'.name v ≡ to → IsNamed r'.name a'.stage)
        → Names s r' (set accounts i a')
    names_written v to lv w p z e q t = record {
      done =
          all_changed_others accounts i a a' l at (λ (x : Account). All (λ y. r'.name y.vertex ≡ y.to) x.moves)
          (λ k d o j. names-same r.name r'.name (get_or accounts k d).moves
          (still (get_or accounts k d).moves (moved_below s r accounts c m k d o) (others_none k d o j).0) (n.done k d o))
          (subst (All (λ y. r'.name y.vertex ≡ y.to)) (sym e) (names-same r.name r'.name a.moves
          (still a.moves (all_at accounts i a a' l at (λ (x : Account). All (λ y. y.vertex < vertex_count s.graph) x.moves) (moved_below s r accounts c m))
          z) (all_at accounts i a a' l at (λ (x : Account). All (λ y. r.name y.vertex ≡ y.to) x.moves) n.done)));
      stages =
          all_changed_others accounts i a a' l at (λ (x : Account). IsNamed r'.name x.stage)
          (λ k d o j. stage-same r.name r'.name (get_or accounts k d).stage
          (λ g y f. other_name (get_or (named_at (get_or accounts k d).stage) g y) (named_below k d o g y f)
          (apart v (named_at (get_or accounts k d).stage) (others_none k d o j).1 g y f)) (n.stages k d o))
          (t (elim (pick v v to (r.name v)) [ inl x ↦ w v lv ∙ x.1 | inr x ↦ absurd (x.0 refl) ]));
      others = λ u o y. elim (pick v u to (r.name u)) [
        | inl x ↦
            let f = total_at (set accounts i a') i a' a' (omega (arith, length-set accounts i a')) (get_or-set_same accounts i a' (blank false) l)
            (λ b. times u (renamed b)) in
            let g = total-append (λ b. weight_if b u 1) (moved_vertices a') (named_at a'.stage) in
            let h = q u in
            let j = weight_if-same v u 1 x.0 in
            absurd (omega arith)
        | inr x ↦
            let f = total_unchanged accounts i a a' l at (λ b. times u (renamed b)) (same_times u x.0) in
            w u o ∙ x.1 ∙ n.others u o (sym f ∙ y)
      ];
    }
      where
        other_name : (u : ℕ) → u < vertex_count s.graph → v ≢ u → r'.name u ≡ r.name u
        other_name u o x = elim (pick v u to (r.name u)) [ inl y ↦ absurd (x y.0) | inr y ↦ w u o ∙ y.1 ]

        still : (ms : List Move) → All (λ y. y.vertex < vertex_count s.graph) ms → times v (map (λ y. y.vertex) ms) ≡ 0
            → All (λ y. r'.name y.vertex ≡ r.name y.vertex) ms
        still ms b x k d o = other_name (get_or ms k d).vertex (b k d o) (from-map (λ u. v ≢ u) ms (apart v (map (λ y. y.vertex) ms) x) k d o)

        others_none : (k : ℕ) (d : Account) → k < length accounts → (k ≡ i → ⊥)
            → (times v (moved_vertices (get_or accounts k d)) ≡ 0) × (times v (named_at (get_or accounts k d).stage) ≡ 0)
        others_none k d o j =
            let b = get_or accounts k d in
            let x = held_alone s r accounts c m v i k d lv l o j (subst (λ (y : Account). 0 < times v y.held) (sym at) p) in
            let f = total-append (λ y. weight_if y v 1) (moved_vertices b) (stage_vertices b.stage) in
            let g = times-named_at v b.stage in
            (omega arith, omega arith)

        same_times : (u : ℕ) → (v ≡ u → ⊥) → times u (renamed a') ≡ times u (renamed a)
        same_times u x =
            let g = total-append (λ b. weight_if b u 1) (moved_vertices a') (named_at a'.stage) in
            let f = total-append (λ b. weight_if b u 1) (moved_vertices a) (named_at a.stage) in
            let h = q u in
            let j = weight_if-other v u 1 x in
            let k = ap (λ (b : List Move). times u (map (λ y. y.vertex) b)) e in
            omega arith
