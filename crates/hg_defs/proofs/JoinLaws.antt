-- Laws of two single vertices that are joined in a clustering by roots.
use Rattle.std.proofs.Common.{◌≡◌, ◌≢◌, ◌⊎◌, inl, inr, ℕ, suc, ◌+◌, ◌<◌, ◌≤◌, Bool, true, false, ◌||◌, not, nat_eq, List, length, get_or, set, All}
use Rattle.std.proofs.Common.{refl, sym, ap, subst, ◌∙◌, arith, true≢false, length-set, get_or-set_same, get_or-set_other}
use Rattle.std.specs.List.{list_all}
use Rattle.std.proofs.lemmas.Bool.{and_parts, and_from, eqb-true, eq-eqb, cases_eq}
use Rattle.std.proofs.lemmas.List.{get_or_default}
use Rattle.hg_defs.specs.declared.objective.TheConstants.{FREE}
use Rattle.hg_defs.specs.Hypergraph.{Hyper, vertex_count, vertices, weight_of, fix_of, is_free, IsFree}
use Rattle.hg_defs.specs.Partition.{weight_in}
use Rattle.hg_defs.specs.Clustering.{AreTogether, IsSingleton, is_single}
use Rattle.hg_defs.specs.Numbering.{IsRooted}
use Rattle.hg_defs.proofs.SumLaws.{weight_in-set_new, weight_in-set_old, weight_in-set_other, weight_in-none}
use Rattle.hg_defs.proofs.ReplayLaws.{all_below, from_all_below}

-- ---- the test for a single vertex

or_alike : (a b : Bool) → (a || not b) ≡ true → b ≡ true → a ≡ true
or_alike true b e f = refl
or_alike false true e f = absurd (true≢false (sym e))
or_alike false false e f = absurd (true≢false (sym f))

from_alike : (a b : Bool) → (b ≡ true → a ≡ true) → (a || not b) ≡ true
from_alike true b f = refl
from_alike false true f = f refl
from_alike false false f = refl

module _ (h : Hyper) (roots : List ℕ) (v : ℕ) where
  abbrev test : ℕ → Bool
  test u = nat_eq u v || not (nat_eq (get_or roots u 0) (get_or roots v 0))

  pub single_is : v < vertex_count h → is_single h roots v ≡ true → IsSingleton h roots v
  single_is low e =
      let both = and_parts (is_free h v) (list_all test (vertices h)) e in
      record {
        vertex = low;
        free = eqb-true (fix_of h v) FREE both.0;
        alone = λ u m f. eqb-true u v (or_alike (nat_eq u v) (nat_eq (get_or roots u 0) (get_or roots v 0)) (all_below test (vertex_count h) both.1 u m)
            (eq-eqb (get_or roots u 0) (get_or roots v 0) f));
      }

  pub is_single_from : IsSingleton h roots v → is_single h roots v ≡ true
  is_single_from s =
      and_from (is_free h v) (list_all test (vertices h)) (eq-eqb (fix_of h v) FREE s.free)
      (from_all_below test (vertex_count h) (λ u m. from_alike (nat_eq u v) (nat_eq (get_or roots u 0) (get_or roots v 0))
      (λ e. eq-eqb u v (s.alone u m (eqb-true (get_or roots u 0) (get_or roots v 0) e)))))

-- ---- the weight of a cluster

-- a cluster of one weighs what its vertex weighs
single_weight : (h : Hyper) (roots : List ℕ) (v : ℕ) → length roots ≡ vertex_count h → IsSingleton h roots v → weight_in h.weights roots
    (get_or roots v 0) ≡
    weight_of h v
single_weight h roots v long s =
    let low = s.vertex in
    let old = weight_in-set_old h.weights roots v (suc (get_or roots v 0)) (get_or roots v 0) low (omega arith) refl (λ e. absurd (omega arith)) in
    let none = weight_in-none h.weights (set roots v (suc (get_or roots v 0))) (get_or roots v 0) each in
    omega arith
  where
    each : All (λ x. x ≢ get_or roots v 0) (set roots v (suc (get_or roots v 0)))
    each i d m e = by (cases_eq i v)
      where
        inside : i < length roots
        inside = let n = length-set roots v (suc (get_or roots v 0)) in omega arith

        at : get_or (set roots v (suc (get_or roots v 0))) i 0 ≡ get_or roots v 0
        at = get_or_default (set roots v (suc (get_or roots v 0))) i 0 d m ∙ e

        by : (i ≡ v) ⊎ (i ≢ v) → ⊥
        by (inl f) = let g = get_or-set_same roots v (suc (get_or roots v 0)) 0 (subst (λ j. j < length roots) f inside) in
            let q = subst (λ j. get_or (set roots v (suc (get_or roots v 0))) j 0 ≡ get_or roots v 0) f at in omega arith
        by (inr n) = n (s.alone i (let a = long in let b = inside in omega arith) (sym (get_or-set_other roots v i (suc (get_or roots v 0)) 0 n) ∙ at))

-- ---- two single vertices, of which b becomes the root of a

module _ (h : Hyper) (cap : ℕ) (roots : List ℕ) (r : IsRooted h cap roots) (a b : ℕ) (sa : IsSingleton h roots a) (sb : IsSingleton h roots b)
    (differ : a ≢ b)
  where
    abbrev pub joined_roots : List ℕ
    joined_roots = set roots a b

    inside : (v : ℕ) → v < vertex_count h → v < length roots
    inside v low = let n = r.vertices in omega arith

    own_root : (v : ℕ) → IsSingleton h roots v → get_or roots v 0 ≡ v
    own_root v s = s.alone (get_or roots v 0) (r.below v s.vertex) (r.own v s.vertex)

    at_a : get_or joined_roots a 0 ≡ b
    at_a = get_or-set_same roots a b 0 (inside a sa.vertex)

    at_other : (x : ℕ) → x ≢ a → get_or joined_roots x 0 ≡ get_or roots x 0
    at_other x n = get_or-set_other roots a x b 0 n

    at_b : get_or joined_roots b 0 ≡ b
    at_b = at_other b (λ e. differ (sym e)) ∙ own_root b sb

    only_a : (x : ℕ) → x < vertex_count h → get_or roots x 0 ≡ a → x ≡ a
    only_a x low e = sa.alone x low (e ∙ sym (own_root a sa))

    only_b : (x : ℕ) → x < vertex_count h → get_or roots x 0 ≡ b → x ≡ b
    only_b x low e = sb.alone x low (e ∙ sym (own_root b sb))

    joined-below : (v : ℕ) → v < vertex_count h → get_or joined_roots v 0 < vertex_count h
    joined-below v low = by (cases_eq v a)
      where
        by : (v ≡ a) ⊎ (v ≢ a) → get_or joined_roots v 0 < vertex_count h
        by (inl e) = subst (λ x. x < vertex_count h) (sym (ap (λ w. get_or joined_roots w 0) e ∙ at_a)) sb.vertex
        by (inr n) = subst (λ x. x < vertex_count h) (sym (at_other v n)) (r.below v low)

    joined-own : (v : ℕ) → v < vertex_count h → get_or joined_roots (get_or joined_roots v 0) 0 ≡ get_or joined_roots v 0
    joined-own v low = by (cases_eq v a)
      where
        by : (v ≡ a) ⊎ (v ≢ a) → get_or joined_roots (get_or joined_roots v 0) 0 ≡ get_or joined_roots v 0
        by (inl e) = let is : get_or joined_roots v 0 ≡ b = ap (λ w. get_or joined_roots w 0) e ∙ at_a in ap (λ w. get_or joined_roots w 0) is ∙ at_b ∙
            sym is
        by (inr n) =
            let is : get_or joined_roots v 0 ≡ get_or roots v 0 = at_other v n in
            ap (λ w. get_or joined_roots w 0) is ∙ at_other (get_or roots v 0) (λ e. n (only_a v low e)) ∙ r.own v low ∙ sym is

    -- two vertices that are together then were so before, or are a and b
    pub joined-together : (x y : ℕ) → AreTogether h joined_roots x y → AreTogether h roots x y ⊎ (((x ≡ a) × (y ≡ b)) ⊎ ((x ≡ b) × (y ≡ a)))
    joined-together x y t = by (cases_eq x a) (cases_eq y a)
      where
        by : (x ≡ a) ⊎ (x ≢ a) → (y ≡ a) ⊎ (y ≢ a) → AreTogether h roots x y ⊎ (((x ≡ a) × (y ≡ b)) ⊎ ((x ≡ b) × (y ≡ a)))
        by (inl e) (inl f) = absurd (t.different (e ∙ sym f))
        by (inl e) (inr n) = inr (inl (e, only_b y t.second (sym (at_other y n) ∙ sym t.cluster ∙ ap (λ w. get_or joined_roots w 0) e ∙ at_a)))
        by (inr n) (inl f) = inr (inr (only_b x t.first (sym (at_other x n) ∙ t.cluster ∙ ap (λ w. get_or joined_roots w 0) f ∙ at_a), f))
        by (inr n) (inr m) = inl (record {
          first = t.first;
          second = t.second;
          different = t.different;
          cluster = sym (at_other x n) ∙ t.cluster ∙
              at_other y m;
        })

    -- a vertex that is together with another isn't single
    not_single : (v x y : ℕ) → IsSingleton h roots v → AreTogether h roots x y → x ≢ v
    not_single v x y s t e = t.different (e ∙ sym (s.alone y t.second (sym t.cluster ∙ ap (λ w. get_or roots w 0) e)))

    turned : (x y : ℕ) → AreTogether h roots x y → AreTogether h roots y x
    turned x y t = record { first = t.second; second = t.first; different = λ e. t.different (sym e); cluster = sym t.cluster }

    pub joined-kept : (x y : ℕ) → AreTogether h roots x y → AreTogether h joined_roots x y
    joined-kept x y t = record {
      first = t.first;
      second = t.second;
      different = t.different;
      cluster = at_other x (not_single a x y sa t) ∙ t.cluster ∙ sym (at_other y (not_single a y x sa (turned x y t)));
    }

    pub joined-fewer : (x : ℕ) → IsSingleton h joined_roots x → IsSingleton h roots x × (x ≢ a) × (x ≢ b)
    joined-fewer x s = (record { vertex = s.vertex; free = s.free; alone = alone }, not_a, not_b)
      where
        not_a : x ≢ a
        not_a e = differ (sym (s.alone b sb.vertex (at_b ∙ sym at_a ∙ ap (λ w. get_or joined_roots w 0) (sym e)) ∙ e))

        not_b : x ≢ b
        not_b e = differ (s.alone a sa.vertex (at_a ∙ sym at_b ∙ ap (λ w. get_or joined_roots w 0) (sym e)) ∙ e)

        alone : (u : ℕ) → u < vertex_count h → get_or roots u 0 ≡ get_or roots x 0 → u ≡ x
        alone u low e = by (cases_eq u a)
          where
            by : (u ≡ a) ⊎ (u ≢ a) → u ≡ x
            by (inl f) = absurd (not_a (sa.alone x s.vertex (sym e ∙ ap (λ w. get_or roots w 0) f)))
            by (inr n) = s.alone u low (at_other u n ∙ e ∙ sym (at_other x not_a))

    pub joined-stays : (x : ℕ) → IsSingleton h roots x → x ≢ a → x ≢ b → IsSingleton h joined_roots x
    joined-stays x s n m = record { vertex = s.vertex; free = s.free; alone = alone }
      where
        alone : (u : ℕ) → u < vertex_count h → get_or joined_roots u 0 ≡ get_or joined_roots x 0 → u ≡ x
        alone u low e = by (cases_eq u a)
          where
            by : (u ≡ a) ⊎ (u ≢ a) → u ≡ x
            by (inl f) = absurd (m (only_b x s.vertex (sym (at_other x n) ∙ sym e ∙ ap (λ w. get_or joined_roots w 0) f ∙ at_a)))
            by (inr q) = s.alone u low (sym (at_other u q) ∙ e ∙ at_other x n)

    pub joined-rooted : weight_of h a + weight_of h b ≤ cap → IsRooted h cap joined_roots
    joined-rooted light = record {
      vertices = length-set roots a b ∙ r.vertices;
      below = joined-below;
      own = joined-own;
      capped = λ x y t. weighs x y t (joined-together x y t);
      free = λ x y t. frees x y t (joined-together x y t);
    }
      where
        pair_weight : weight_in h.weights joined_roots b ≤ cap
        pair_weight =
            let new = weight_in-set_new h.weights roots a b sa.vertex (inside a sa.vertex) (λ e. differ (sym (e ∙ own_root a sa))) in
            let one = single_weight h roots b r.vertices sb in
            let own = ap (weight_in h.weights roots) (own_root b sb) in
            omega arith

        weighs : (x y : ℕ) → AreTogether h joined_roots x y → AreTogether h roots x y ⊎ (((x ≡ a) × (y ≡ b)) ⊎ ((x ≡ b) × (y ≡ a))) →
            weight_in h.weights joined_roots (get_or joined_roots x 0) ≤ cap
        weighs x y t (inl u) =
            let n = not_single a x y sa u in
            let m = not_single b x y sb u in
            let same = at_other x n in
            let others = weight_in-set_other h.weights roots a b (get_or roots x 0) sa.vertex (inside a sa.vertex) (λ e. n (sa.alone x u.first e))
            (λ e. m (only_b x u.first e)) in
            subst (λ c. weight_in h.weights joined_roots c ≤ cap) (sym same) (let w = r.capped x y u in omega arith)
        weighs x y t (inr (inl e)) = subst (λ c. weight_in h.weights joined_roots c ≤ cap) (sym (ap (λ w. get_or joined_roots w 0) e.0 ∙ at_a)) pair_weight
        weighs x y t (inr (inr e)) = subst (λ c. weight_in h.weights joined_roots c ≤ cap) (sym (ap (λ w. get_or joined_roots w 0) e.0 ∙ at_b)) pair_weight

        frees : (x y : ℕ) → AreTogether h joined_roots x y → AreTogether h roots x y ⊎ (((x ≡ a) × (y ≡ b)) ⊎ ((x ≡ b) × (y ≡ a))) → IsFree h x
        frees x y t (inl u) = r.free x y u
        frees x y t (inr (inl e)) = subst (IsFree h) (sym e.0) sa.free
        frees x y t (inr (inr e)) = subst (IsFree h) (sym e.0) sb.free
