-- A flow that no half raises fills the cut between the nodes that more could flow from and the others.
use Rattle.std.proofs.Common.{◌≡◌, ◌≢◌, ℕ, ◌+◌, ◌*◌, ◌/◌, ◌%◌, ◌^◌, ◌<◌, ◌≤◌, List, length, slice_index, nat_eq, refl, sym, ap}
use Rattle.std.proofs.Common.{◌∙◌, subst, arith, ◌⊎◌, inl, inr, Bool, true, false, not, ◌&&◌, if◌then◌else◌}
use Rattle.std.proofs.lemmas.Bool.{cases_eq, eqb-true, eqb-false}
use Rattle.hg_defs.specs.Sums.{sum_below}
use Rattle.hg_defs.proofs.SumLaws.{sum_below-change, sum_below-same, sum_below-le, sum_below-add, sum_below-zero, sum_below-only}
use Rattle.hg_defs.proofs.SumLaws.{sum_below-swap, weight_if, weight_if-same, weight_if-other, weight_if-le}
use Rattle.flow_net.specs.declared.network.Arc.{Arc}
use Rattle.flow_net.specs.Flow.{arc_at, leaving, entering, is_in, cut_capacity, IsFlow, IsFilledCut}
use Rattle.flow_net.specs.Laws.{FlowsAreWithinCuts}
use Rattle.flow_net.specs.Residual.{mate, head, tail, out_of, into, AreLaid, AreJoined, IsRaised, IsClosed, IsShut, IsLinked}
use Rattle.flow_net.proofs.LevelLaws.{mate-within}

module _ (m n : ℕ) (flow : ℕ → ℕ) (S : ℕ → Bool) where
  chosen : (t : Bool) (f : ℕ → ℕ) → (if t then sum_below f m else 0) ≡ sum_below (λ i. if t then f i else 0) m
  chosen true f = refl
  chosen false f = sym (sum_below-zero (λ i. 0) m (λ i l. refl))

  -- the flow at the nodes of a side is the flow of the arcs that end there
  pub side_sum : (ends : ℕ → ℕ) → ((i : ℕ) → i < m → ends i < n)
      → sum_below (λ v. if S v then sum_below (λ i. weight_if (ends i) v (flow i)) m else 0) n ≡ sum_below (λ i. if S (ends i) then flow i else 0) m
  side_sum ends inside =
      sum_below-same (λ v. if S v then sum_below (λ i. weight_if (ends i) v (flow i)) m else 0)
      (λ v. sum_below (λ i. if S v then weight_if (ends i) v (flow i) else 0) m) n
      (λ v l. chosen (S v) (λ i. weight_if (ends i) v (flow i)))
      ∙ sum_below-swap (λ v i. if S v then weight_if (ends i) v (flow i) else 0) n m
      ∙ sum_below-same (λ i. sum_below (λ v. if S v then weight_if (ends i) v (flow i) else 0) n) (λ i. if S (ends i) then flow i else 0) m
      (λ i l.
      sum_below-only (λ v. if S v then weight_if (ends i) v (flow i) else 0) n (ends i) (inside i l) (λ v k q. none (S v) (weight_if (ends i) v (flow i))
      (weight_if-other (ends i) v (flow i) (λ e. q (sym e))))
      ∙ ap (λ w. if S (ends i) then w else 0) (weight_if-same (ends i) (ends i) (flow i) refl))
    where
      none : (t : Bool) (w : ℕ) → w ≡ 0 → (if t then w else 0) ≡ 0
      none true w e = e
      none false w e = refl

module _ (m n source sink : ℕ) (from to flow cap : ℕ → ℕ) (S : ℕ → Bool) where
  per_arc : (a b : Bool) (f c : ℕ) → (a ≡ true → b ≡ false → f ≡ c) → (a ≡ false → b ≡ true → f ≡ 0)
      → (if a then f else 0) ≡ (if b then f else 0) + (if a && not b then c else 0)
  per_arc true true f c p q = omega arith
  per_arc true false f c p q = let e = p refl refl in omega arith
  per_arc false true f c p q = let e = q refl refl in omega arith
  per_arc false false f c p q = refl

  by_side : (t : Bool) (a b : ℕ) → (t ≡ true → a ≡ b) → (if t then a else 0) ≡ (if t then b else 0)
  by_side true a b e = e refl
  by_side false a b e = refl

  -- what leaves the source, but for what enters it, leaves the side
  pub filled : source < n → source ≢ sink → S source ≡ true → S sink ≡ false → ((i : ℕ) → i < m → from i < n) → ((i : ℕ) → i < m → to i < n)
      → ((v : ℕ) → v < n → v ≢ source → v ≢ sink → sum_below (λ i. weight_if (from i) v (flow i)) m ≡ sum_below (λ i. weight_if (to i) v (flow i)) m)
      → ((i : ℕ) → i < m → S (from i) ≡ true → S (to i) ≡ false → flow i ≡ cap i)
      → ((i : ℕ) → i < m → S (from i) ≡ false → S (to i) ≡ true → flow i ≡ 0)
      → sum_below (λ i. weight_if (from i) source (flow i)) m
      ≡ sum_below (λ i. weight_if (to i) source (flow i)) m + sum_below (λ i. if S (from i) && not (S (to i)) then cap i else 0) m
  filled inside apart s t from_in to_in balanced full empty =
      let out : ℕ → ℕ = λ v. sum_below (λ i. weight_if (from i) v (flow i)) m in
      let in_ : ℕ → ℕ = λ v. sum_below (λ i. weight_if (to i) v (flow i)) m in
      let f : ℕ → ℕ = λ v. if S v then out v else 0 in
      let g : ℕ → ℕ = λ v. if S v then in_ v else 0 in
      let change : sum_below f n + g source ≡ sum_below g n + f source =
      sum_below-change f g n source inside
      (λ v l q. by_side (S v) (out v) (in_ v) (λ e. balanced v l q (λ z. different (S v) (ap S z ∙ t) e))) in
      let f_source : f source ≡ out source = ap (λ b. if b then out source else 0) s in
      let g_source : g source ≡ in_ source = ap (λ b. if b then in_ source else 0) s in
      let leave : sum_below f n ≡ sum_below (λ i. if S (from i) then flow i else 0) m = side_sum m n flow S from from_in in
      let enter : sum_below g n ≡ sum_below (λ i. if S (to i) then flow i else 0) m = side_sum m n flow S to to_in in
      let arcs : sum_below (λ i. if S (from i) then flow i else 0) m ≡ sum_below
      (λ i. (if S (to i) then flow i else 0) + (if S (from i) && not (S (to i)) then cap i else 0)) m =
      sum_below-same (λ i. if S (from i) then flow i else 0) (λ i. (if S (to i) then flow i else 0) + (if S (from i) && not (S (to i)) then cap i else 0)) m
      (λ i l. per_arc (S (from i)) (S (to i)) (flow i) (cap i) (full i l) (empty i l)) in
      let split : sum_below (λ i. (if S (to i) then flow i else 0) + (if S (from i) && not (S (to i)) then cap i else 0)) m ≡ sum_below
      (λ i. if S (to i) then flow i else 0) m + sum_below (λ i. if S (from i) && not (S (to i)) then cap i else 0) m =
      sum_below-add (λ i. if S (to i) then flow i else 0) (λ i. if S (from i) && not (S (to i)) then cap i else 0) m in
      omega arith
    where
      different : (b : Bool) → b ≡ false → b ≡ true → ⊥
      different true e f = cc
      different false e f = cc

-- ---- of a network

unreached : (level : ℕ) → nat_eq level 0 ≡ true → level ≡ 0
unreached level e = eqb-true level 0 e

reached : (level : ℕ) → nat_eq level 0 ≡ false → 0 < level
reached level e = by (cases_eq level 0)
  where
    by : (level ≡ 0) ⊎ (level ≢ 0) → 0 < level
    by (inl q) = absurd (eqb-false level 0 e q)
    by (inr q) = omega arith

-- the nodes without a level are on a side that no half with a rest leaves
pub unreached_shut : (heads nexts firsts rests levels : List ℕ) (side : List Bool) → IsLinked heads nexts firsts → length side ≡ length firsts
    → IsClosed heads rests levels → ((v : ℕ) → v < length side → is_in side v ≡ nat_eq (slice_index levels v) 0) → IsShut heads rests side
unreached_shut heads nexts firsts rests levels side linked long closed sides h l p q =
    let tail_in = linked.nodes (mate h) (mate-within (length heads) h linked.pairs l) in
    let head_in = linked.nodes h l in
    closed h l (reached (slice_index levels (head heads h)) (sym (sides (head heads h) (omega arith)) ∙ q))
    (unreached (slice_index levels (tail heads h)) (sym (sides (tail heads h) (omega arith)) ∙ p))

module _ (nodes source sink : ℕ) (arcs : List Arc) (flows heads before rests : List ℕ)
    (joined : AreJoined nodes arcs) (source_in : source < nodes) (sink_in : sink < nodes) (apart : source ≢ sink)
    (long_heads : length heads ≡ 2 * length arcs) (long_before : length before ≡ 2 * length arcs) (long_flows : length flows ≡ length arcs)
    (laid : AreLaid arcs heads before (length arcs)) (raised : IsRaised heads source sink 0 before rests)
    (written : (i : ℕ) → i < length flows → slice_index flows i ≡ slice_index rests (2 * i + 1)) where
  half_count : length heads / 2 ≡ length arcs
  half_count = omega arith

  leaving_is : (v : ℕ) → leaving arcs flows v ≡ out_of heads rests v
  leaving_is v =
      sum_below-same (λ i. weight_if (arc_at arcs i).from v (slice_index flows i)) (λ i. weight_if (slice_index heads (2 * i + 1)) v
      (slice_index rests (2 * i + 1))) (length arcs)
      (λ i l. ap (λ u. weight_if u v (slice_index flows i)) (sym (laid.from i l)) ∙ ap (weight_if (slice_index heads (2 * i + 1)) v)
      (written i (omega arith)))
      ∙ ap (sum_below (λ i. weight_if (slice_index heads (2 * i + 1)) v (slice_index rests (2 * i + 1)))) (sym half_count)

  entering_is : (v : ℕ) → entering arcs flows v ≡ into heads rests v
  entering_is v =
      sum_below-same (λ i. weight_if (arc_at arcs i).to v (slice_index flows i))
      (λ i. weight_if (slice_index heads (2 * i)) v (slice_index rests (2 * i + 1)))
      (length arcs)
      (λ i l. ap (λ u. weight_if u v (slice_index flows i)) (sym (laid.to i l)) ∙ ap (weight_if (slice_index heads (2 * i)) v) (written i (omega arith)))
      ∙ ap (sum_below (λ i. weight_if (slice_index heads (2 * i)) v (slice_index rests (2 * i + 1)))) (sym half_count)

  weight_if-none : (x v w : ℕ) → w ≡ 0 → weight_if x v w ≡ 0
  weight_if-none x v w e = let a = weight_if-le x v w in omega arith

  out_before : (v : ℕ) → out_of heads before v ≡ 0
  out_before v =
      sum_below-zero (λ i. weight_if (slice_index heads (2 * i + 1)) v (slice_index before (2 * i + 1))) (length heads / 2)
      (λ i l. weight_if-none (slice_index heads (2 * i + 1)) v (slice_index before (2 * i + 1)) (laid.against i (omega arith)))

  into_before : (v : ℕ) → into heads before v ≡ 0
  into_before v =
      sum_below-zero (λ i. weight_if (slice_index heads (2 * i)) v (slice_index before (2 * i + 1))) (length heads / 2)
      (λ i l. weight_if-none (slice_index heads (2 * i)) v (slice_index before (2 * i + 1)) (laid.against i (omega arith)))

  pair_is : (i : ℕ) → i < length arcs → slice_index rests (2 * i) + slice_index rests (2 * i + 1) ≡ (arc_at arcs i).cap
  pair_is i l =
      let other : mate (2 * i) ≡ 2 * i + 1 = omega arith in
      let a : slice_index rests (2 * i) + slice_index rests (mate (2 * i)) ≡ slice_index before (2 * i) + slice_index before (mate (2 * i)) = raised.pairs
      (2 * i) (omega arith) in
      let b : slice_index rests (mate (2 * i)) ≡ slice_index rests (2 * i + 1) = ap (slice_index rests) other in
      let c : slice_index before (mate (2 * i)) ≡ slice_index before (2 * i + 1) = ap (slice_index before) other in
      let d = laid.along i l in
      let e = laid.against i l in
      omega arith

  balanced_at : (v : ℕ) → v ≢ source → v ≢ sink → leaving arcs flows v ≡ entering arcs flows v
  balanced_at v p q =
      let a = raised.kept v p q in
      let b = out_before v in
      let c = into_before v in
      let d = leaving_is v in
      let e = entering_is v in
      omega arith

  from_in : (i : ℕ) → i < length arcs → (arc_at arcs i).from < nodes
  from_in i l = (joined i (record { from = 0; to = 0; cap = 0 }) l).0

  to_in : (i : ℕ) → i < length arcs → (arc_at arcs i).to < nodes
  to_in i l = (joined i (record { from = 0; to = 0; cap = 0 }) l).1

  pub flow_holds : IsFlow (record { nodes = nodes; arcs = arcs; flows = flows }) source sink
  flow_holds = record {
    within = λ i l. let a = pair_is i l in let b = written i (omega arith) in omega arith;
    balanced = λ v l p q. balanced_at v p q;
  }

  module _ (side : List Bool) (long_side : length side ≡ nodes) (holds : is_in side source ≡ true) (lacks : is_in side sink ≡ false)
      (shut : IsShut heads rests side) where
    full_at : (i : ℕ) → i < length arcs → is_in side (arc_at arcs i).from ≡ true → is_in side (arc_at arcs i).to ≡ false →
        slice_index flows i ≡ (arc_at arcs i).cap
    full_at i l p q =
        let other : mate (2 * i) ≡ 2 * i + 1 = omega arith in
        let none : slice_index rests (2 * i) ≡ 0 =
        shut (2 * i) (omega arith) (ap (is_in side) (ap (slice_index heads) other ∙ laid.from i l) ∙ p) (ap (is_in side) (laid.to i l) ∙ q) in
        let a = pair_is i l in
        let b = written i (omega arith) in
        omega arith

    empty_at : (i : ℕ) → i < length arcs → is_in side (arc_at arcs i).from ≡ false → is_in side (arc_at arcs i).to ≡ true → slice_index flows i ≡ 0
    empty_at i l p q =
        let other : mate (2 * i + 1) ≡ 2 * i = omega arith in
        let none : slice_index rests (2 * i + 1) ≡ 0 =
        shut (2 * i + 1) (omega arith) (ap (is_in side) (ap (slice_index heads) other ∙ laid.to i l) ∙ q) (ap (is_in side) (laid.from i l) ∙ p) in
        written i (omega arith) ∙ none

    -- a side that no half with a rest leaves is one of a cut that the flow fills
    pub cut_holds : IsFilledCut (record { nodes = nodes; arcs = arcs; flows = flows }) source sink (cut_capacity arcs side) side
    cut_holds = record {
      long = long_side;
      holds_source = holds;
      lacks_sink = lacks;
      flow =
          filled (length arcs) nodes source sink (λ i. (arc_at arcs i).from) (λ i. (arc_at arcs i).to) (slice_index flows) (λ i. (arc_at arcs i).cap)
          (is_in side)
          source_in apart holds lacks from_in to_in (λ v l p q. balanced_at v p q) full_at empty_at;
      capacity = refl;
    }

-- ---- the halves of arcs

module _ (nodes : ℕ) (arcs : List Arc) (heads rests : List ℕ) (joined : AreJoined nodes arcs) (laid : AreLaid arcs heads rests (length arcs)) where
  pub laid_nodes : (h : ℕ) → h < 2 * length arcs → slice_index heads h < nodes
  laid_nodes h l = by (cases_eq (h % 2) 0)
    where
      by : (h % 2 ≡ 0) ⊎ (h % 2 ≢ 0) → slice_index heads h < nodes
      by (inl e) =
          let here : 2 * (h / 2) ≡ h = omega arith in
          let inside : h / 2 < length arcs = omega arith in
          subst (λ v. v < nodes) (sym (ap (slice_index heads) (sym here) ∙ laid.to (h / 2) inside)) (joined (h / 2) (record { from = 0; to = 0; cap = 0 })
          inside).1
      by (inr e) =
          let here : 2 * (h / 2) + 1 ≡ h = omega arith in
          let inside : h / 2 < length arcs = omega arith in
          subst (λ v. v < nodes) (sym (ap (slice_index heads) (sym here) ∙ laid.from (h / 2) inside)) (joined (h / 2) (record { from = 0; to = 0; cap = 0 })
          inside).0

  pub laid_bounded : (h : ℕ) → h < 2 * length arcs → slice_index rests h + slice_index rests (mate h) < 2 ^ 63
  laid_bounded h l = by (cases_eq (h % 2) 0)
    where
      by : (h % 2 ≡ 0) ⊎ (h % 2 ≢ 0) → slice_index rests h + slice_index rests (mate h) < 2 ^ 63
      by (inl e) =
          let i = h / 2 in
          let here : h ≡ 2 * i = omega arith in
          let other : mate h ≡ 2 * i + 1 = omega arith in
          let inside : i < length arcs = omega arith in
          let a : slice_index rests h ≡ (arc_at arcs i).cap = ap (slice_index rests) here ∙ laid.along i inside in
          let b : slice_index rests (mate h) ≡ 0 = ap (slice_index rests) other ∙ laid.against i inside in
          let c = (joined i (record { from = 0; to = 0; cap = 0 }) inside).2 in
          omega arith
      by (inr e) =
          let i = h / 2 in
          let here : h ≡ 2 * i + 1 = omega arith in
          let other : mate h ≡ 2 * i = omega arith in
          let inside : i < length arcs = omega arith in
          let a : slice_index rests h ≡ 0 = ap (slice_index rests) here ∙ laid.against i inside in
          let b : slice_index rests (mate h) ≡ (arc_at arcs i).cap = ap (slice_index rests) other ∙ laid.along i inside in
          let c = (joined i (record { from = 0; to = 0; cap = 0 }) inside).2 in
          omega arith

-- ---- any flow and any cut

module _ (m n source sink : ℕ) (from to flow cap : ℕ → ℕ) (S : ℕ → Bool) where
  arc_within : (a b : Bool) (f c : ℕ) → f ≤ c → (if a then f else 0) ≤ (if b then f else 0) + (if a && not b then c else 0)
  arc_within true true f c l = omega arith
  arc_within true false f c l = omega arith
  arc_within false b f c l = omega arith

  at_side : (t : Bool) (a b : ℕ) → (t ≡ true → a ≡ b) → (if t then a else 0) ≡ (if t then b else 0)
  at_side true a b e = e refl
  at_side false a b e = refl

  apart_of : (b : Bool) → b ≡ false → b ≡ true → ⊥
  apart_of true e f = cc
  apart_of false e f = cc

  within_cut : source < n → S source ≡ true → S sink ≡ false → ((i : ℕ) → i < m → from i < n) → ((i : ℕ) → i < m → to i < n)
      → ((v : ℕ) → v < n → v ≢ source → v ≢ sink → sum_below (λ i. weight_if (from i) v (flow i)) m ≡ sum_below (λ i. weight_if (to i) v (flow i)) m)
      → ((i : ℕ) → i < m → flow i ≤ cap i)
      → sum_below (λ i. weight_if (from i) source (flow i)) m
      ≤ sum_below (λ i. weight_if (to i) source (flow i)) m + sum_below (λ i. if S (from i) && not (S (to i)) then cap i else 0) m
  within_cut inside s t from_in to_in balanced small =
      let out : ℕ → ℕ = λ v. sum_below (λ i. weight_if (from i) v (flow i)) m in
      let in_ : ℕ → ℕ = λ v. sum_below (λ i. weight_if (to i) v (flow i)) m in
      let f : ℕ → ℕ = λ v. if S v then out v else 0 in
      let g : ℕ → ℕ = λ v. if S v then in_ v else 0 in
      let change : sum_below f n + g source ≡ sum_below g n + f source =
      sum_below-change f g n source inside
      (λ v l q. at_side (S v) (out v) (in_ v) (λ e. balanced v l q (λ z. apart_of (S v) (ap S z ∙ t) e))) in
      let f_source : f source ≡ out source = ap (λ b. if b then out source else 0) s in
      let g_source : g source ≡ in_ source = ap (λ b. if b then in_ source else 0) s in
      let leave : sum_below f n ≡ sum_below (λ i. if S (from i) then flow i else 0) m = side_sum m n flow S from from_in in
      let enter : sum_below g n ≡ sum_below (λ i. if S (to i) then flow i else 0) m = side_sum m n flow S to to_in in
      let arcs : sum_below (λ i. if S (from i) then flow i else 0) m ≤ sum_below
      (λ i. (if S (to i) then flow i else 0) + (if S (from i) && not (S (to i)) then cap i else 0)) m =
      sum_below-le (λ i. if S (from i) then flow i else 0) (λ i. (if S (to i) then flow i else 0) + (if S (from i) && not (S (to i)) then cap i else 0)) m
      (λ i l. arc_within (S (from i)) (S (to i)) (flow i) (cap i) (small i l)) in
      let split : sum_below (λ i. (if S (to i) then flow i else 0) + (if S (from i) && not (S (to i)) then cap i else 0)) m ≡ sum_below
      (λ i. if S (to i) then flow i else 0) m + sum_below (λ i. if S (from i) && not (S (to i)) then cap i else 0) m =
      sum_below-add (λ i. if S (to i) then flow i else 0) (λ i. if S (from i) && not (S (to i)) then cap i else 0) m in
      omega arith

pub flow_within_cut : FlowsAreWithinCuts
flow_within_cut network source sink side sound inside flow s t =
    let none : Arc = record { from = 0; to = 0; cap = 0 } in
    within_cut (length network.arcs) network.nodes source sink (λ i. (arc_at network.arcs i).from) (λ i. (arc_at network.arcs i).to)
    (slice_index network.flows)
    (λ i. (arc_at network.arcs i).cap) (is_in side) inside s t
    (λ i l. (sound.joined i none l).0) (λ i l. (sound.joined i none l).1) flow.balanced flow.within
