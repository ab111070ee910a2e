-- Laws of the best moves of listed vertices: where they tell that a partition is settled or not.
use Rattle.std.proofs.Common.{◌≡◌, ℕ, zero, suc, ◌+◌, ◌*◌, ◌/◌, ◌<◌, ◌≤◌, Bool, true, false, nat_le, Option, Some, None, List, [], ◌∷◌, ◌++◌, All, option_map, option_to_list}
use Rattle.std.proofs.Common.{refl, sym, ap, subst, ◌∙◌, arith}
use Rattle.std.proofs.Math.Nat.{mul-div_cancel}
use Rattle.std.proofs.lemmas.Bool.{leb-true, leb-false}
use Rattle.std.proofs.lemmas.List.Elements.{All-head, All-tail}
use Rattle.hg_defs.specs.Hypergraph.{Hyper, vertex_count}
use Rattle.hg_defs.specs.Cost.{cost}
use Rattle.hg_defs.specs.Moves.{IsSettled, moved, best_block}
use Rattle.pin_plain.specs.Settling.{IsSettledWithin}
use Rattle.pin_plain.specs.BestMoves.{ranked, best_moves}
use Rattle.pin_plain.proofs.BestLaws.{unsettled_from}
use Rattle.label_prop.specs.Runs.{IsSettledRun}

module _ (h : Hyper) (k l : ℕ) (p : List ℕ) where
  none_best : (v : ℕ) → v < vertex_count h → IsSettled h k l p → best_block h l p v k ≡ None
  none_best v vertex settled = by (best_block h l p v k) refl
    where
      by : (o : Option ℕ) → best_block h l p v k ≡ o → best_block h l p v k ≡ None
      by None e = e
      by (Some b) e = absurd (unsettled_from h k l p v b vertex e settled)

  -- in a settled partition no vertex has a best move
  pub settled_none : (vs : List ℕ) → All (λ v. v < vertex_count h) vs → IsSettled h k l p → best_moves h k l p vs ≡ []
  settled_none [] vertices settled = refl
  settled_none (v ∷ vs) vertices settled =
      ap (λ (o : Option ℕ). option_to_list (option_map (ranked h p v) o) ++ best_moves h k l p vs)
      (none_best v (All-head (λ v. v < vertex_count h) v vs vertices) settled)
      ∙ settled_none vs (All-tail (λ v. v < vertex_count h) v vs vertices) settled

module _ (h : Hyper) (k l : ℕ) (p : List ℕ) (runs : ℕ) (some : 0 < runs) where
  -- the first runs together
  first_runs : (j : ℕ) → ((i : ℕ) → i < j → IsSettledRun h k l p runs i) → IsSettledWithin h k l p 0 (vertex_count h * j / runs)
  first_runs zero each v b low high a = absurd (none (subst (λ (n : ℕ). v < n) (nothing (vertex_count h)) high))
    where
      nothing : (n : ℕ) → n * 0 / runs ≡ 0
      nothing n = ap (λ (m : ℕ). m / runs) (let x : n * 0 ≡ 0 * runs = omega arith in x) ∙ mul-div_cancel 0 some

      none : v < 0 → ⊥
      none m = omega arith
  first_runs (suc j) each v b low high a = by (nat_le (vertex_count h * j / runs) v) refl (λ m. first_runs j (λ i n. each i (omega (arith, n))) v b low m a)
    where
      by : (t : Bool) → nat_le (vertex_count h * j / runs) v ≡ t → (v < vertex_count h * j / runs → cost h p ≤ cost h (moved p v b)) →
          cost h p ≤ cost h (moved p v b)
      by true e lower =
          let next : suc j ≡ j + 1 = omega arith in
          each j (omega arith) v b (leb-true (vertex_count h * j / runs) v e) (subst (λ (n : ℕ). v < vertex_count h * n / runs) next high) a
      by false e lower = lower (leb-false (vertex_count h * j / runs) v e)

  -- a partition is settled exactly where each run is
  pub runs_settled : ((i : ℕ) → i < runs → IsSettledRun h k l p runs i) → IsSettled h k l p
  runs_settled each v b a =
      first_runs runs each v b (omega arith) (subst (λ (n : ℕ). v < n) (sym (mul-div_cancel (vertex_count h) some)) a.vertex) a
