-- Laws of the marks of single vertices.
use Rattle.std.proofs.Common.{◌≡◌, ◌≢◌, ◌⊎◌, inl, inr, ⊎_elim, ◌↔◌, ℕ, ◌+◌, ◌<◌, ◌≤◌, Bool, true, false, true≢false, nat_eq, List, length, get_or, set}
use Rattle.std.proofs.Common.{slice_index, refl, sym, ap, ◌∙◌, subst, arith, length-set, get_or-set_same, get_or-set_other}
use Rattle.std.proofs.lemmas.Bool.{cases_eq, cases_lt, eqb-true, eq-eqb}
use Rattle.std.proofs.lemmas.List.{get_or_past}
use Rattle.hg_defs.specs.declared.objective.TheConstants.{FREE}
use Rattle.hg_defs.specs.Hypergraph.{Hyper, vertex_count, fix_of, is_free, IsFree}
use Rattle.hg_defs.specs.Clustering.{IsSingleton, is_single}
use Rattle.hg_defs.proofs.JoinLaws.{single_is, is_single_from}
use Rattle.coarsen.specs.Numbers.{AreRoots}
use Rattle.coarsen.specs.Marks.{AreMarked, AreFewer}

-- none of the first vertices follows u, or is u and follows another
abbrev pub IsUntouched : List ℕ → ℕ → ℕ → Type 0
IsUntouched roots i u = (w : ℕ) → w < i → slice_index roots w ≢ w → (u ≢ w) × (u ≢ slice_index roots w)

-- the marks after the first vertices were looked at
pub record AreMarkedUpto (h : Hyper) (roots : List ℕ) (i : ℕ) (single : List Bool) : Type 0 where
  pub free : (u : ℕ) → u < vertex_count h → get_or single u false ≡ true → IsFree h u
  pub untouched : (u : ℕ) → u < vertex_count h → get_or single u false ≡ true → IsUntouched roots i u
  pub marked : (u : ℕ) → u < vertex_count h → IsFree h u → IsUntouched roots i u → get_or single u false ≡ true

pub marked_none : (h : Hyper) (roots : List ℕ) (single : List Bool) → ((u : ℕ) → u < vertex_count h → get_or single u false ≡ is_free h u) →
    AreMarkedUpto h roots 0 single
marked_none h roots single each = record {
  free = λ u l e. eqb-true (fix_of h u) FREE (sym (each u l) ∙ e);
  untouched = λ u l e w m. absurd (omega arith);
  marked = λ u l f t. each u l ∙ eq-eqb (fix_of h u) FREE f;
}

module _ (h : Hyper) (roots : List ℕ) (i : ℕ) (single : List Bool) (m : AreMarkedUpto h roots i single) where
  untouched_more : (u : ℕ) → IsUntouched roots i u → (slice_index roots i ≢ i → (u ≢ i) × (u ≢ slice_index roots i)) → IsUntouched roots (i + 1) u
  untouched_more u old here w l other = by (cases_eq w i)
    where
      by : (w ≡ i) ⊎ (w ≢ i) → (u ≢ w) × (u ≢ slice_index roots w)
      by (inl e) = subst (λ (x : ℕ). (u ≢ x) × (u ≢ slice_index roots x)) (sym e) (here (subst (λ (x : ℕ). slice_index roots x ≢ x) e other))
      by (inr n) = old w (omega arith) other

  untouched_less : (u : ℕ) → IsUntouched roots (i + 1) u → IsUntouched roots i u
  untouched_less u t w l other = t w (omega arith) other

  pub marked_same : slice_index roots i ≡ i → AreMarkedUpto h roots (i + 1) single
  marked_same own = record {
    free = m.free;
    untouched = λ u l e. untouched_more u (m.untouched u l e) (λ other. absurd (other own));
    marked = λ u l f t. m.marked u l f (untouched_less u t);
  }

  pub marked_more : slice_index roots i ≢ i → i < length single → slice_index roots i < length single → AreMarkedUpto h roots (i + 1)
      (set (set single i false) (slice_index roots i) false)
  marked_more other low below = record {
    free = λ u l e. m.free u l (was u e);
    untouched = λ u l e. untouched_more u (m.untouched u l (was u e)) (λ o. (not_i u e, not_root u e));
    marked = λ u l f t. let n = t i (omega arith) other in kept u n.1 n.0 ∙ m.marked u l f (untouched_less u t);
  }
    where
      r : ℕ
      r = slice_index roots i

      at_root : get_or (set (set single i false) (slice_index roots i) false) (slice_index roots i) false ≡ false
      at_root = get_or-set_same (set single i false) (slice_index roots i) false false (let n = length-set single i false in omega arith)

      kept : (u : ℕ) → u ≢ slice_index roots i → u ≢ i → get_or (set (set single i false) (slice_index roots i) false) u false ≡ get_or single u false
      kept u n o = get_or-set_other (set single i false) (slice_index roots i) u false false n ∙ get_or-set_other single i u false false o

      not_root : (u : ℕ) → get_or (set (set single i false) (slice_index roots i) false) u false ≡ true → u ≢ slice_index roots i
      not_root u e same = true≢false (sym e ∙ ap (λ (x : ℕ). get_or (set (set single i false) (slice_index roots i) false) x false) same ∙ at_root)

      not_i : (u : ℕ) → get_or (set (set single i false) (slice_index roots i) false) u false ≡ true → u ≢ i
      not_i u e same =
          true≢false
          (sym e
          ∙ get_or-set_other (set single i false) (slice_index roots i) u false false (not_root u e)
          ∙ ap (λ (x : ℕ). get_or (set single i false) x false) same
          ∙ get_or-set_same single i false false low)

      was : (u : ℕ) → get_or (set (set single i false) (slice_index roots i) false) u false ≡ true → get_or single u false ≡ true
      was u e = sym (kept u (not_root u e) (not_i u e)) ∙ e

pub same_tests : (a b : Bool) → (a ≡ true → b ≡ true) → (b ≡ true → a ≡ true) → a ≡ b
same_tests true b f g = sym (f refl)
same_tests false true f g = g refl
same_tests false false f g = refl

-- in the end they tell the single vertices
pub marked_all : (h : Hyper) (roots : List ℕ) (single : List Bool) → AreRoots (vertex_count h) roots → length single ≡ vertex_count h →
    AreMarkedUpto h roots (vertex_count h) single → AreMarked h roots single
marked_all h roots single are long m = record {
  vertices = long;
  each = λ u l. same_tests (get_or single u false) (is_single h roots u) (λ e. is_single_from h roots u (to u l e))
      (λ e. from u l (single_is h roots u l e));
}
  where
    to : (u : ℕ) → u < vertex_count h → get_or single u false ≡ true → IsSingleton h roots u
    to u l e = record { vertex = l; free = m.free u l e; alone = alone }
      where
        t : IsUntouched roots (vertex_count h) u
        t = m.untouched u l e

        own : slice_index roots u ≡ u
        own = by (cases_eq (slice_index roots u) u)
          where
            by : (slice_index roots u ≡ u) ⊎ (slice_index roots u ≢ u) → slice_index roots u ≡ u
            by (inl s) = s
            by (inr n) = absurd ((t u l n).0 refl)

        alone : (w : ℕ) → w < vertex_count h → slice_index roots w ≡ slice_index roots u → w ≡ u
        alone w k s = by (cases_eq (slice_index roots w) w)
          where
            by : (slice_index roots w ≡ w) ⊎ (slice_index roots w ≢ w) → w ≡ u
            by (inl f) = sym f ∙ s ∙ own
            by (inr n) = absurd ((t w k n).1 (sym (s ∙ own)))

    from : (u : ℕ) → u < vertex_count h → IsSingleton h roots u → get_or single u false ≡ true
    from u l s = m.marked u l s.free (λ w k other. (not_self w k other, not_root w k other))
      where
        own : slice_index roots u ≡ u
        own = s.alone (slice_index roots u) (are.below u l) (are.own u l)

        not_self : (w : ℕ) → w < vertex_count h → slice_index roots w ≢ w → u ≢ w
        not_self w k other e = other (ap (slice_index roots) (sym e) ∙ own ∙ e)

        not_root : (w : ℕ) → w < vertex_count h → slice_index roots w ≢ w → u ≢ slice_index roots w
        not_root w k other e =
            let same : w ≡ u = s.alone w k (sym (are.own w k) ∙ ap (slice_index roots) (sym e)) in
            other (sym e ∙ sym same)

-- a mark that was taken away
pub fewer_marks : (marks : List Bool) (i : ℕ) → AreFewer marks (set marks i false)
fewer_marks marks i v e = by (cases_eq v i)
  where
    cleared : (i < length marks) ⊎ (length marks ≤ i) → get_or (set marks i false) i false ≡ false
    cleared (inl l) = get_or-set_same marks i false false l
    cleared (inr l) = get_or_past (set marks i false) i false (let n = length-set marks i false in omega arith)

    by : (v ≡ i) ⊎ (v ≢ i) → get_or marks v false ≡ true
    by (inl s) = absurd (true≢false (sym e ∙ ap (λ (x : ℕ). get_or (set marks i false) x false) s ∙ cleared (cases_lt i (length marks))))
    by (inr n) = sym (get_or-set_other marks i v false false n) ∙ e
