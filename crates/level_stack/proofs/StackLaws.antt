-- Laws of one more level.
use Rattle.std.proofs.Common.{◌≡◌, ℕ, suc, ◌+◌, ◌-◌, ◌^◌, ◌<◌, ◌≤◌, ◌⊎◌, inl, inr, List, [], ◌∷◌, ◌++◌, length, get_or, refl, sym, ap, ◌∙◌, subst, arith}
use Rattle.std.proofs.lemmas.Bool.{cases_lt}
use Rattle.std.proofs.lemmas.List.{length_push, get_or_push, get_or_append_left}
use Rattle.hg_defs.specs.Hypergraph.{Hyper}
use Rattle.hg_defs.specs.Contraction.{contract}
use Rattle.hg_defs.specs.Clustering.{cluster_count}
use Rattle.hg_defs.specs.Levels.{level, coarsest, map_of}
use Rattle.hg_defs.proofs.LevelLaws.{levels_stay, level_is_added}
use Rattle.contract_nets.specs.declared.ledger.Merged.{Merged}
use Rattle.level_stack.specs.Stack.{Stack, ledger_of, LeadsUp, IsStacked, first_of}

-- the first level stays where one is put behind the last
pub first_pushed : (below : List Hyper) (last more : Hyper) → first_of (below ++ last ∷ []) more ≡ first_of below last
first_pushed [] last more = refl
first_pushed (h ∷ below) last more = refl

leads_same : (f g c d : Hyper) (m n : List ℕ) (l k : List Merged) → f ≡ g → m ≡ n → c ≡ d → l ≡ k → LeadsUp g n d k → LeadsUp f m c l
leads_same f g c d m n l k a b e h u =
    subst (λ (x : Hyper). LeadsUp x m c l) (sym a)
    (subst (λ (x : List ℕ). LeadsUp g x c l) (sym b)
    (subst (λ (x : Hyper). LeadsUp g n x l) (sym e)
    (subst (LeadsUp g n d) (sym h) u)))

module _ (base : Hyper) (maps : List (List ℕ)) (ledgers : List (List Merged)) (kept : List Hyper) (clusters : List ℕ) (coarse : Hyper)
    (ledger : List Merged)
    (old : IsStacked (record { base = base; maps = maps; ledgers = ledgers }) kept) (room : length maps + 1 < 2 ^ 32 - 1)
    (made : coarse ≡ contract (coarsest base maps) clusters (cluster_count clusters)) (leads : LeadsUp (coarsest base maps) clusters coarse ledger) where
  long : length (maps ++ clusters ∷ []) ≡ suc (length maps)
  long = let n = length_push maps clusters in omega arith

  top : coarse ≡ level base (maps ++ clusters ∷ []) (suc (length maps))
  top = made ∙ sym (level_is_added base maps clusters) ∙ ap (level base (maps ++ clusters ∷ [])) long

  pub IsStacked_push : IsStacked (record { base = base; maps = maps ++ clusters ∷ []; ledgers = ledgers ++ ledger ∷ [] }) (kept ++ coarse ∷ [])
  IsStacked_push = record {
    levels = (let a = length_push kept coarse in let n = long in let o = old.levels in omega arith);
    ledgers = (let a = length_push ledgers ledger in let n = long in let o = old.ledgers in omega arith);
    few = (let n = long in omega arith);
    at = λ i h l. at i h (cases_lt i (length kept)) l;
    leads = λ i l. leads_at i (cases_lt i (length maps)) l;
  }
    where
      at : (i : ℕ) (h : Hyper) → (i < length kept) ⊎ (length kept ≤ i) → i < length (kept ++ coarse ∷ []) → get_or (kept ++ coarse ∷ []) i h ≡ level base
          (maps ++ clusters ∷ []) i
      at i h (inl k) l =
          let o = old.levels in
          get_or_append_left kept (coarse ∷ []) h i k ∙ old.at i h k ∙ sym (levels_stay base maps clusters i (omega arith))
      at i h (inr k) l =
          let o = old.levels in
          let n = length_push kept coarse in
          get_or_push kept coarse h i (omega arith) ∙ top ∙ ap (level base (maps ++ clusters ∷ [])) (let e : suc (length maps) ≡ i = omega arith in e)

      no_ledger : List Merged
      no_ledger = []

      leads_at : (i : ℕ) → (i < length maps) ⊎ (length maps ≤ i) → i < length (maps ++ clusters ∷ [])
          → LeadsUp (level base (maps ++ clusters ∷ []) i) (map_of (maps ++ clusters ∷ []) i) (level base (maps ++ clusters ∷ []) (suc i))
          (get_or (ledgers ++ ledger ∷ []) i [])
      leads_at i (inl k) l =
          let o = old.ledgers in
          leads_same _ _ _ _ _ _ _ _
          (levels_stay base maps clusters i (omega arith))
          (get_or_append_left maps (clusters ∷ []) [] i k)
          (levels_stay base maps clusters (suc i) (omega arith))
          (get_or_append_left ledgers (ledger ∷ []) [] i (omega arith))
          (old.leads i k)
      leads_at i (inr k) l =
          let n = long in
          let e : length maps ≡ i = omega arith in
          leads_same _ _ _ _ _ _ _ _
          (levels_stay base maps clusters i (omega arith) ∙ ap (level base maps) (sym e))
          (get_or_push maps clusters [] i e)
          (sym (top ∙ ap (λ (j : ℕ). level base (maps ++ clusters ∷ []) (suc j)) e))
          (get_or_push ledgers ledger [] i (old.ledgers ∙ e))
          leads
