-- The clusters that marks in balance tell are within the cap.
use Rattle.std.proofs.Common.{◌≡◌, ℕ, ◌+◌, ◌-◌, ◌<◌, ◌≤◌, ◌⊎◌, inl, inr, Bool, true, false, List, length, map}
use Rattle.std.proofs.Common.{slice_index, nat_le, if◌then◌else◌, refl, sym, ap, ◌∙◌, arith}
use Rattle.std.specs.List.{range_with_len}
use Rattle.std.proofs.lemmas.List.FromFn.{get_or-map-range_with_len, length-map-range_with_len}
use Rattle.std.proofs.lemmas.Bool.{eqb-true, leb-true, leb-false, cases_eq}
use Rattle.hg_defs.specs.declared.objective.TheConstants.{FREE}
use Rattle.hg_defs.specs.Hypergraph.{Hyper, vertex_count, weight_of, fix_of, is_free, IsFree}
use Rattle.hg_defs.specs.Partition.{weight_in}
use Rattle.hg_defs.specs.Clustering.{AreTogether, cluster_weight}
use Rattle.hg_defs.proofs.SumLaws.{weight_if, weight_if-other, weight_in-by_index, sum_below-le}
use Rattle.cluster_core.specs.declared.account.Account.{Account}
use Rattle.cluster_core.specs.State.{Setup, Readings}
use Rattle.cluster_core.specs.Balance.{InBalance, IsRoot, clustered, share}
use Rattle.hg_defs.specs.Numbering.{IsRooted}
use Rattle.cluster_core.specs.Roots.{root_in}
use Rattle.cluster_core.proofs.MassLaws.{shifted}

module _ (g : Setup) (r : Readings) (accounts : List Account) (b : InBalance g r accounts) where
  abbrev h : Hyper
  h = g.graph

  abbrev n : ℕ
  n = vertex_count h

  abbrev roots : List ℕ
  roots = map (λ v. root_in (r.mark v) v) (range_with_len 0 n)

  root_at : (v : ℕ) → v < n → slice_index roots v ≡ root_in (r.mark v) v
  root_at v l = get_or-map-range_with_len (λ v. root_in (r.mark v) v) 0 n v v 0 l (omega arith)

  -- a decided vertex has the root that its mark tells, and another one itself
  record IsDecided (v q : ℕ) : Type 0 where
    pub mark : r.mark v ≡ q + 2
    pub root : slice_index roots v ≡ q
    pub own : IsRoot h r q

  record IsAlone (v : ℕ) : Type 0 where
    pub mark : r.mark v < 2
    pub root : slice_index roots v ≡ v

  cases : (v : ℕ) → v < n → ((q : ℕ) × IsDecided v q) ⊎ IsAlone v
  cases v l = by (nat_le 2 (r.mark v)) refl
    where
      by : (z : Bool) → nat_le 2 (r.mark v) ≡ z → ((q : ℕ) × IsDecided v q) ⊎ IsAlone v
      by true e =
          let t = leb-true 2 (r.mark v) e in
          let m : r.mark v ≡ (r.mark v - 2) + 2 = omega arith in
          inl (r.mark v - 2, record { mark = m; root = root_at v l ∙ ap (λ z. if z then r.mark v - 2 else v) e; own = b.marks.roots v (r.mark v - 2) l m })
      by false e =
          let t = leb-false 2 (r.mark v) e in
          inr (record { mark = omega arith; root = root_at v l ∙ ap (λ z. if z then r.mark v - 2 else v) e })

  -- a root is its own root
  own_root : (q : ℕ) → IsRoot h r q → slice_index roots q ≡ q
  own_root q k =
      let m = k.mark in
      elim (cases q k.vertex) [ inl p ↦ let d = p.1 in let x = d.mark in let y = d.root in omega arith | inr p ↦ let x = p.mark in absurd (omega arith) ]

  -- two vertices of one cluster are decided, with one root
  record AreDecided (u v q : ℕ) : Type 0 where
    pub first : IsDecided u q
    pub second : r.mark v ≡ q + 2

  together : (u v : ℕ) → AreTogether h roots u v → (q : ℕ) × AreDecided u v q
  together u v t =
      let e = t.cluster in
      elim (cases u t.first) [
        | inl p ↦
            let d = p.1 in
            let dr = d.root in
            elim (cases v t.second) [
              | inl s ↦ let f = s.1 in let fr = f.root in let fm = f.mark in (p.0, record { first = d; second = omega arith })
              | inr s ↦
                  let sr = s.root in
                  let sm = s.mark in
                  let o = d.own.mark in
                  let x : p.0 ≡ v = omega arith in
                  let y = ap r.mark x in
                  absurd (omega arith)
            ]
        | inr p ↦
            let pr = p.root in
            let pm = p.mark in
            elim (cases v t.second) [
              | inl s ↦
                  let f = s.1 in
                  let fr = f.root in
                  let o = f.own.mark in
                  let x : s.0 ≡ u = omega arith in
                  let y = ap r.mark x in
                  absurd (omega arith)
              | inr s ↦ let sr = s.root in absurd (t.different (omega arith))
            ]
      ]

  weighs : (q : ℕ) → IsRoot h r q → weight_in h.weights roots q ≤ clustered h r q
  weighs q k =
      let long : length roots ≡ n = length-map-range_with_len (λ v. root_in (r.mark v) v) 0 n in
      let e = weight_in-by_index h.weights roots q (omega arith) in
      let s = sum_below-le (λ v. weight_if (slice_index roots v) q (weight_of h v)) (share h r q) n each in
      omega arith
    where
      each : (v : ℕ) → v < n → weight_if (slice_index roots v) q (weight_of h v) ≤ share h r q v
      each v l =
          elim (cases v l) [
            | inl p ↦
                let d = p.1 in
                let x = ap (λ z. weight_if z q (weight_of h v)) d.root in
                let y = ap (λ z. weight_if z (q + 2) (weight_of h v)) d.mark in
                let z = shifted p.0 q (weight_of h v) in
                omega arith
            | inr p ↦
                let x = ap (λ z. weight_if z q (weight_of h v)) p.root in
                let m = p.mark in
                let y = weight_if-other v q (weight_of h v) (λ s. let o = k.mark in let f = ap r.mark s in omega arith) in
                omega arith
          ]

  free_at : (v q : ℕ) → v < n → r.mark v ≡ q + 2 → IsFree h v
  free_at v q l m = by (is_free h v) refl
    where
      by : (z : Bool) → is_free h v ≡ z → IsFree h v
      by true e = eqb-true (fix_of h v) FREE e
      by false e = let z = b.marks.fixed v l e in absurd (omega arith)

  pub roots_are : IsRooted h g.cap roots
  roots_are = record {
    vertices = length-map-range_with_len (λ v. root_in (r.mark v) v) 0 n;
    below = λ v l. elim (cases v l) [
      | inl p ↦ let d = p.1 in let x = d.root in let o = d.own.vertex in omega arith
      | inr p ↦ let x = p.root in
          omega arith
    ];
    own = λ v l.
        elim (cases v l) [
          | inl p ↦ let d = p.1 in ap (slice_index roots) d.root ∙ own_root p.0 d.own ∙ sym d.root
          | inr p ↦ ap (slice_index roots) p.root
        ];
    capped = λ u v t.
        let p = together u v t in
        let q : ℕ = p.0 in
        let a = p.1 in
        let d = a.first in
        let w = weighs q d.own in
        let same : cluster_weight h roots u ≡ weight_in h.weights roots q = ap (weight_in h.weights roots) d.root in
        elim (cases_eq u q) [
          | inl e ↦ let f = b.masses.followed q v t.second (λ s. t.different (omega arith)) a.second in omega arith
          | inr e ↦ let f = b.masses.followed q u t.first e d.mark in omega arith
        ];
    free = λ u v t. let p = together u v t in let a = p.1 in free_at u p.0 t.first a.first.mark;
  }
