-- The breadth-first search: how its state begins, how it goes on, and what it says at the end.
use Rattle.std.proofs.Common.{◌≡◌, ◌≢◌, ℕ, ◌+◌, ◌-◌, ◌%◌, ◌<◌, ◌≤◌, List, length, set, slice_index, nat_eq, refl, sym, ap, ◌∙◌, subst, arith}
use Rattle.std.proofs.Common.{length-set, get_or-set_same, get_or-set_other, ◌⊎◌, inl, inr, Bool, true, false, if◌then◌else◌}
use Rattle.std.proofs.lemmas.Bool.{cases_eq, eq-eqb, ne_eqb}
use Rattle.hg_defs.specs.Sums.{sum_below}
use Rattle.hg_defs.proofs.SumLaws.{sum_below-change, sum_below-constant, sum_below-le, sum_below-zero}
use Rattle.flow_net.specs.Residual.{mate, head, tail, mark, reached_count, IsLinked, IsStep, IsTree, IsOpen}
use Rattle.flow_net.specs.Residual.{IsClosed, IsDone, IsAbsent, IsLined, IsSpread, IsSearched, IsScanned}

-- ---- halves

pub mate-mate : (h : ℕ) → mate (mate h) ≡ h
mate-mate h = omega arith

pub mate-within : (n h : ℕ) → n % 2 ≡ 0 → h < n → mate h < n
mate-within n h e l = omega arith

pub tail-mate : (heads : List ℕ) (h : ℕ) → tail heads (mate h) ≡ head heads h
tail-mate heads h = ap (slice_index heads) (mate-mate h)

-- ---- how many nodes were reached

pub mark-zero : (x : ℕ) → x ≡ 0 → mark x ≡ 0
mark-zero x e = ap (λ t. if t then 0 else 1) (eq-eqb x 0 e)

pub mark-pos : (x : ℕ) → 0 < x → mark x ≡ 1
mark-pos x l = ap (λ t. if t then 0 else 1) (ne_eqb x 0 (λ e. absurd (omega arith)))

pub mark-le : (x : ℕ) → mark x ≤ 1
mark-le x = by (nat_eq x 0)
  where
    by : (t : Bool) → (if t then 0 else 1) ≤ 1
    by true = omega arith
    by false = omega arith

pub reached-le : (levels : List ℕ) → reached_count levels ≤ length levels
reached-le levels =
    let a = sum_below-le (λ v. mark (slice_index levels v)) (λ v. 1) (length levels) (λ i l. mark-le (slice_index levels i)) in
    let b = sum_below-constant 1 (length levels) in
    omega arith

pub reached-set : (levels : List ℕ) (u x : ℕ) → u < length levels → slice_index levels u ≡ 0 → 0 < x → reached_count (set levels u x) ≡ reached_count
    levels + 1
reached-set levels u x l e p =
    let n = length levels in
    let f : ℕ → ℕ = λ v. mark (slice_index levels v) in
    let g : ℕ → ℕ = λ v. mark (slice_index (set levels u x) v) in
    let long : reached_count (set levels u x) ≡ sum_below g n = ap (λ m. sum_below g m) (length-set levels u x) in
    let change : sum_below f n + g u ≡ sum_below g n + f u =
    sum_below-change f g n u l (λ j k q. sym (ap mark (get_or-set_other levels u j x 0 q))) in
    let new : g u ≡ 1 = ap mark (get_or-set_same levels u x 0 l) ∙ mark-pos x p in
    let old : f u ≡ 0 = mark-zero (slice_index levels u) e in
    omega arith

-- where a node has no level, the queue has room
pub reached-lt : (levels : List ℕ) (u : ℕ) → u < length levels → slice_index levels u ≡ 0 → reached_count levels < length levels
reached-lt levels u l e =
    let a = reached-set levels u 1 l e (omega arith) in
    let b = reached-le (set levels u 1) in
    let c = length-set levels u 1 in
    omega arith

-- a node more with a level stands in the queue
pub lined_set : (levels queue : List ℕ) (end u x : ℕ) → IsLined levels queue end → length queue ≡ length levels → u < length levels
    → slice_index levels u ≡ 0 → 0 < x → IsLined (set levels u x) (set queue end u) (end + 1)
lined_set levels queue end u x s long l e p = record {
  count = reached-set levels u x l e p ∙ ap (λ n. n + 1) s.count;
  within = λ j k. by j k (cases_eq j end);
}
  where
    size : length (set levels u x) ≡ length levels
    size = length-set levels u x

    by : (j : ℕ) → j < end + 1 → (j ≡ end) ⊎ (j ≢ end) → slice_index (set queue end u) j < length (set levels u x)
    by j k (inl q) =
        let room = reached-lt levels u l e in
        let count = s.count in
        let new : slice_index (set queue end u) j ≡ u = ap (slice_index (set queue end u)) q ∙ get_or-set_same queue end u 0 (omega arith) in
        let same = size in
        omega arith
    by j k (inr q) =
        let old = get_or-set_other queue end j u 0 q in
        let within = s.within j (omega arith) in
        let same = size in
        omega arith

-- a node alone
pub lined_begin : (zeros queue : List ℕ) (u x : ℕ) → ((v : ℕ) → v < length zeros → slice_index zeros v ≡ 0) → u < length zeros
    → length queue ≡ length zeros → 0 < x → IsLined (set zeros u x) (set queue 0 u) 1
lined_begin zeros queue u x none l long p =
    lined_set zeros queue 0 u x
    (record {
      count = sum_below-zero (λ v. mark (slice_index zeros v)) (length zeros) (λ i k. mark-zero (slice_index zeros i) (none i k));
      within = λ j k. absurd (omega arith);
    })
    long l (none u l) p

-- ---- a node more with a level

module _ (heads levels ways : List ℕ) (sink u x back : ℕ) where
  pub level_kept : (w : ℕ) → slice_index levels u ≡ 0 → 0 < slice_index levels w → slice_index (set levels u x) w ≡ slice_index levels w
  level_kept w e p = get_or-set_other levels u w x 0 (λ q. absurd (omega (arith, ap (slice_index levels) q)))

  pub unreached_before : (w : ℕ) → u < length levels → 0 < x → slice_index (set levels u x) w ≡ 0 → slice_index levels w ≡ 0
  unreached_before w l p e = by (cases_eq w u)
    where
      by : (w ≡ u) ⊎ (w ≢ u) → slice_index levels w ≡ 0
      by (inl q) = absurd (let a = get_or-set_same levels u x 0 l in let b = ap (slice_index (set levels u x)) q in omega arith)
      by (inr q) = let a = get_or-set_other levels u w x 0 q in omega arith

  -- the node steps by a half to a node with a level
  pub tree-set : u < length levels → length ways ≡ length levels → slice_index levels u ≡ 0 → IsTree heads levels ways sink
      → back < length heads → tail heads back ≡ u → slice_index levels (head heads back) + 1 ≡ x → 0 < slice_index levels (head heads back)
      → IsTree heads (set levels u x) (set ways u back) sink
  tree-set l long e t half leaves lower reached = record {
    root = level_kept sink e (omega (arith, t.root)) ∙ t.root;
    steps = λ v k ne p. by v (cases_eq v u) (subst (λ n. v < n) (length-set levels u x) k) ne p;
  }
    where
      by : (v : ℕ) → (v ≡ u) ⊎ (v ≢ u) → v < length levels → v ≢ sink → 0 < slice_index (set levels u x) v → IsStep heads (set levels u x) v
          (slice_index (set ways u back) v)
      by v (inl q) k ne p =
          let way : slice_index (set ways u back) v ≡ back = ap (slice_index (set ways u back)) q ∙ get_or-set_same ways u back 0 (omega arith) in
          let kept = level_kept (head heads back) e reached in
          let new : slice_index (set levels u x) v ≡ x = ap (slice_index (set levels u x)) q ∙ get_or-set_same levels u x 0 l in
          subst (λ h. IsStep heads (set levels u x) v h) (sym way)
          (record { half = half; leaves = leaves ∙ sym q; lower = omega arith; reached = omega arith })
      by v (inr q) k ne p =
          let way : slice_index (set ways u back) v ≡ slice_index ways v = get_or-set_other ways u v back 0 q in
          let same : slice_index (set levels u x) v ≡ slice_index levels v = get_or-set_other levels u v x 0 q in
          let s = t.steps v k ne (omega arith) in
          let kept = level_kept (head heads (slice_index ways v)) e s.reached in
          subst (λ h. IsStep heads (set levels u x) v h) (sym way)
          (record { half = s.half; leaves = s.leaves; lower = let low = s.lower in omega arith; reached = let r = s.reached in omega arith })

  pub open-set : (rests : List ℕ) → u < length levels → length ways ≡ length levels → IsOpen rests levels ways sink → 0 < slice_index rests back
      → IsOpen rests (set levels u x) (set ways u back) sink
  open-set rests l long o r v k ne p = by (cases_eq v u)
    where
      by : (v ≡ u) ⊎ (v ≢ u) → 0 < slice_index rests (slice_index (set ways u back) v)
      by (inl q) =
          let way : slice_index (set ways u back) v ≡ back = ap (slice_index (set ways u back)) q ∙ get_or-set_same ways u back 0 (omega arith) in
          subst (λ h. 0 < slice_index rests h) (sym way) r
      by (inr q) =
          let way : slice_index (set ways u back) v ≡ slice_index ways v = get_or-set_other ways u v back 0 q in
          let same : slice_index (set levels u x) v ≡ slice_index levels v = get_or-set_other levels u v x 0 q in
          subst (λ h. 0 < slice_index rests h) (sym way) (o v (subst (λ n. v < n) (length-set levels u x) k) ne (omega arith))

  pub done-set : (rests : List ℕ) (at v : ℕ) → u < length levels → 0 < x → IsDone heads rests levels at v → IsDone heads rests (set levels u x) at v
  done-set rests at v l p d h a b t e = d h a b t (unreached_before (head heads h) l p e)

-- ---- the search goes on

module _ (heads nexts firsts rests : List ℕ) (linked : IsLinked heads nexts firsts) where
  -- the half at the place is done, and so are those up to the next one in the list
  pub part-next : (levels : List ℕ) (node at : ℕ) → 0 < at → at ≤ length heads → tail heads (at - 1) ≡ node → IsDone heads rests levels at node
      → (slice_index levels (head heads (at - 1)) ≡ 0 → slice_index rests (mate (at - 1)) ≡ 0)
      → IsDone heads rests levels (slice_index nexts (at - 1)) node
  part-next levels node at p l t d here h a b leaves e = by (cases_eq h (at - 1))
    where
      above : h ≢ at - 1 → (at - h ≡ 0) ⊎ (at - h ≢ 0) → slice_index rests (mate h) ≡ 0
      above q (inl z) = d h (omega arith) b leaves e
      above q (inr z) = absurd ((linked.next (at - 1) (omega arith)).none h a (omega arith) (leaves ∙ sym t))

      by : (h ≡ at - 1) ⊎ (h ≢ at - 1) → slice_index rests (mate h) ≡ 0
      by (inl q) = ap (λ i. slice_index rests (mate i)) q ∙ here (ap (λ i. slice_index levels (head heads i)) (sym q) ∙ e)
      by (inr q) = above q (cases_eq (at - h) 0)

  pub scan_skip : (levels ways queue : List ℕ) (sink start end node at : ℕ)
      → IsScanned heads rests levels ways queue sink start end node at → 0 < at
      → (slice_index levels (head heads (at - 1)) ≡ 0 → slice_index rests (mate (at - 1)) ≡ 0)
      → IsScanned heads rests levels ways queue sink start end node (slice_index nexts (at - 1))
  scan_skip levels ways queue sink start end node at s p here =
      let next = linked.next (at - 1) (let a = s.last in omega arith) in
      record {
        spread = s.spread;
        order = s.order;
        here = s.here;
        last = let a = next.within in let b = s.last in omega arith;
        leaves = λ q. next.leaves q ∙ s.leaves p;
        part = part-next levels node at p s.last (s.leaves p) s.part here;
        done = s.done;
      }

  pub node_level : (levels ways queue : List ℕ) (sink start end node at : ℕ) → IsScanned heads rests levels ways queue sink start end node at →
      0 < slice_index levels node
  node_level levels ways queue sink start end node at s = subst (λ v. 0 < slice_index levels v) s.here (s.spread.reached start s.order)

  module _ (levels ways queue : List ℕ) (sink start end node at u x : ℕ)
      (long_levels : length levels ≡ length firsts) (long_ways : length ways ≡ length levels) (long_queue : length queue ≡ length levels)
      (s : IsSpread heads rests levels ways queue sink end) (order : start < end) (here : slice_index queue start ≡ node)
      (p : 0 < at) (last : at ≤ length heads) (leaves : tail heads (at - 1) ≡ node)
      (u_is : head heads (at - 1) ≡ u) (x_is : x ≡ slice_index levels node + 1) (e : slice_index levels u ≡ 0) (r : 0 < slice_index rests (mate (at - 1)))
    where
      taken_in : u < length levels
      taken_in = let a = linked.nodes (at - 1) (omega arith) in omega arith

      taken_room : end < length queue
      taken_room = let a = reached-lt levels u taken_in e in let b = s.lined.count in omega arith

      old_place : (j : ℕ) → j < end → slice_index (set queue end u) j ≡ slice_index queue j
      old_place j k = get_or-set_other queue end j u 0 (λ q. absurd (omega arith))

      new_place : slice_index (set queue end u) end ≡ u
      new_place = get_or-set_same queue end u 0 taken_room

      each_place : (P : ℕ → Type 0) → ((j : ℕ) → j < end → P (slice_index queue j)) → P u → (j : ℕ) → j < end + 1 → P (slice_index (set queue end u) j)
      each_place P before here j k = by (cases_eq j end)
        where
          by : (j ≡ end) ⊎ (j ≢ end) → P (slice_index (set queue end u) j)
          by (inl q) = subst P (sym (ap (slice_index (set queue end u)) q ∙ new_place)) here
          by (inr q) = let l : j < end = omega arith in subst P (sym (old_place j l)) (before j l)

      taken_level : slice_index (set levels u x) u ≡ x
      taken_level = get_or-set_same levels u x 0 taken_in

      kept_level : (w : ℕ) → 0 < slice_index levels w → slice_index (set levels u x) w ≡ slice_index levels w
      kept_level w l = level_kept heads levels ways sink u x (mate (at - 1)) w e l

      node_low : slice_index levels node ≤ start + 1
      node_low = subst (λ v. slice_index levels v ≤ start + 1) here (s.low start order)

      taken_low : (j : ℕ) → j < end + 1 → slice_index (set levels u x) (slice_index (set queue end u) j) ≤ j + 1
      taken_low j k = by (cases_eq j end)
        where
          by : (j ≡ end) ⊎ (j ≢ end) → slice_index (set levels u x) (slice_index (set queue end u) j) ≤ j + 1
          by (inl q) =
              let low = node_low in
              let level : slice_index (set levels u x) (slice_index (set queue end u) j) ≡ x =
              ap (slice_index (set levels u x)) (ap (slice_index (set queue end u)) q ∙ new_place) ∙ taken_level in
              omega arith
          by (inr q) =
              let before : j < end = omega arith in
              let level : slice_index (set levels u x) (slice_index (set queue end u) j) ≡ slice_index levels (slice_index queue j) =
              ap (slice_index (set levels u x)) (old_place j before) ∙ kept_level (slice_index queue j) (s.reached j before) in
              let low = s.low j before in
              omega arith

      node_level_pos : 0 < slice_index levels node
      node_level_pos = subst (λ v. 0 < slice_index levels v) here (s.reached start order)

      pub spread_take : IsSpread heads rests (set levels u x) (set ways u (mate (at - 1))) (set queue end u) sink (end + 1)
      spread_take =
          let back = mate (at - 1) in
          let l : at - 1 < length heads = omega arith in
          let to_node : head heads back ≡ node = leaves in
          record {
            tree =
                tree-set heads levels ways sink u x back taken_in long_ways e s.tree (mate-within (length heads) (at - 1) linked.pairs l)
                (tail-mate heads (at - 1) ∙ u_is)
                (ap (λ v. slice_index levels v + 1) to_node ∙ sym x_is) (subst (λ v. 0 < slice_index levels v) (sym to_node) node_level_pos);
            opens = open-set heads levels ways sink u x back rests taken_in long_ways s.opens r;
            lined = lined_set levels queue end u x s.lined long_queue taken_in e (omega arith);
            reached = each_place (λ v. 0 < slice_index (set levels u x) v)
                (λ i m. subst (λ n. 0 < n) (sym (kept_level (slice_index queue i) (s.reached i m))) (s.reached i m))
                (subst (λ n. 0 < n) (sym taken_level) (omega arith));
            low = taken_low;
          }

      taken_done : IsScanned heads rests levels ways queue sink start end node at → (v : ℕ) → v < length (set levels u x) → v ≢ node → 0 < slice_index (set levels u x) v → IsAbsent (set queue end u) (start + 1) (end + 1)
          v
          → IsDone heads rests (set levels u x) 0 v
      taken_done scanned v k ne q absent = by (cases_eq v u)
        where
          by : (v ≡ u) ⊎ (v ≢ u) → IsDone heads rests (set levels u x) 0 v
          by (inl same) = absurd (absent end (omega arith) (omega arith) (new_place ∙ sym same))
          by (inr other) =
              done-set heads levels ways sink u x (mate (at - 1)) rests 0 v taken_in (omega arith)
              (scanned.done v (subst (λ n. v < n) (length-set levels u x) k) ne (let a = get_or-set_other levels u v x 0 other in omega arith)
              (λ j a b z. absent j a (omega arith) (old_place j b ∙ z)))

      pub scan_take : IsScanned heads rests levels ways queue sink start end node at
          → IsScanned heads rests (set levels u x) (set ways u (mate (at - 1))) (set queue end u) sink start (end + 1) node (slice_index nexts (at - 1))
      scan_take scanned =
          let back = mate (at - 1) in
          let next = linked.next (at - 1) (omega arith) in
          record {
            spread = spread_take;
            order = omega arith;
            here = old_place start order ∙ here;
            last = let a = next.within in omega arith;
            leaves = λ q. next.leaves q ∙ leaves;
            part =
                part-next (set levels u x) node at p last leaves (done-set heads levels ways sink u x back rests at node taken_in (omega arith) scanned.part)
                (λ z. absurd (let a : slice_index (set levels u x) u ≡ 0 = ap (slice_index (set levels u x)) (sym u_is) ∙ z in let b = taken_level in
                omega arith));
            done = taken_done scanned;
          }

  pub scan_begin : (levels ways queue : List ℕ) (sink start end : ℕ) → length levels ≡ length firsts → start < end → IsSearched heads rests levels ways
      queue
      sink start end
      → IsScanned heads rests levels ways queue sink start end (slice_index queue start) (slice_index firsts (slice_index queue start))
  scan_begin levels ways queue sink start end long order s =
      let node = slice_index queue start in
      let node_in = s.spread.lined.within start order in
      let first = linked.first node (omega arith) in
      record {
        spread = s.spread;
        order = order;
        here = refl;
        last = first.within;
        leaves = first.leaves;
        part = λ h a b t e. absurd (first.none h a b t);
        done = λ v k ne p absent. s.done v k p (λ j a b q. by v j (cases_eq j start) ne a b absent q);
      }
    where
      by : (v j : ℕ) → (j ≡ start) ⊎ (j ≢ start) → v ≢ slice_index queue start → start ≤ j → j < end → IsAbsent queue (start + 1) end v →
          slice_index queue j ≡ v → ⊥
      by v j (inl z) ne a b absent q = ne (sym q ∙ ap (slice_index queue) z)
      by v j (inr z) ne a b absent q = absent j (omega arith) b q

  pub scan_end : (levels ways queue : List ℕ) (sink start end node at : ℕ) → at ≡ 0 → IsScanned heads rests levels ways queue sink start end node at
      → IsSearched heads rests levels ways queue sink (start + 1) end
  scan_end levels ways queue sink start end node at z s = record {
    spread = s.spread;
    done = λ v k p absent. by v k p absent (cases_eq v node);
  }
    where
      by : (v : ℕ) → v < length levels → 0 < slice_index levels v → IsAbsent queue (start + 1) end v → (v ≡ node) ⊎ (v ≢ node) → IsDone heads rests levels
          0 v
      by v k p absent (inl q) = λ h a b t e. s.part h (omega arith) b (t ∙ q) e
      by v k p absent (inr q) = s.done v k q p absent

  pub search_begin : (zeros ways queue : List ℕ) (sink : ℕ) → ((v : ℕ) → v < length zeros → slice_index zeros v ≡ 0) → sink < length zeros →
      length queue ≡ length zeros
      → IsSearched heads rests (set zeros sink 1) ways (set queue 0 sink) sink 0 1
  search_begin zeros ways queue sink none l long =
      let first : slice_index (set queue 0 sink) 0 ≡ sink = get_or-set_same queue 0 sink 0 (omega arith) in
      let root : slice_index (set zeros sink 1) sink ≡ 1 = get_or-set_same zeros sink 1 0 l in
      let at : (j : ℕ) → j < 1 → slice_index (set queue 0 sink) j ≡ sink = λ j k. ap (slice_index (set queue 0 sink)) (let z : j ≡ 0 = omega arith in z) ∙
      first in
      record {
        spread = record {
          tree = record { root = root; steps = λ v k ne p. absurd (zero_at v k ne p) };
          opens = λ v k ne p. absurd (zero_at v k ne p);
          lined = lined_begin zeros queue sink 1 none l long (omega arith);
          reached = λ j k. subst (λ v. 0 < slice_index (set zeros sink 1) v) (sym (at j k)) (omega arith);
          low = λ j k. subst (λ v. slice_index (set zeros sink 1) v ≤ j + 1) (sym (at j k)) (omega arith);
        };
        done = λ v k p absent. absurd (by v k p absent (cases_eq v sink));
      }
    where
      zero_at : (v : ℕ) → v < length (set zeros sink 1) → v ≢ sink → 0 < slice_index (set zeros sink 1) v → ⊥
      zero_at v k ne p =
          let a = get_or-set_other zeros sink v 1 0 ne in
          let b = none v (subst (λ n. v < n) (length-set zeros sink 1) k) in
          omega arith

      by : (v : ℕ) → v < length (set zeros sink 1) → 0 < slice_index (set zeros sink 1) v → IsAbsent (set queue 0 sink) 0 1 v → (v ≡ sink) ⊎ (v ≢ sink) → ⊥
      by v k p absent (inl q) = absent 0 (omega arith) (omega arith) (get_or-set_same queue 0 sink 0 (omega arith) ∙ sym q)
      by v k p absent (inr q) = zero_at v k q p

  -- once the queue is empty, the nodes with a level are cut off from the others
  pub search_closed : (levels ways queue : List ℕ) (sink start end : ℕ) → length levels ≡ length firsts → end ≤ start → IsSearched heads rests levels ways
      queue sink start end
      → IsClosed heads rests levels
  search_closed levels ways queue sink start end long order s h l p e =
      let back_in = mate-within (length heads) h linked.pairs l in
      let to_in = linked.nodes h l in
      subst (λ i. slice_index rests i ≡ 0) (mate-mate h)
      (s.done (head heads h) (omega arith) p (λ j a b. absurd (omega arith)) (mate h) (omega arith) back_in (tail-mate heads h) e)

-- the queue is not longer than there are nodes
pub queue_room : (levels : List ℕ) (end : ℕ) → reached_count levels ≡ end → end ≤ length levels
queue_room levels end e = let a = reached-le levels in omega arith

pub queue_more : (levels : List ℕ) (end u : ℕ) → reached_count levels ≡ end → u < length levels → slice_index levels u ≡ 0 → end < length levels
queue_more levels end u e l z = let a = reached-lt levels u l z in omega arith
