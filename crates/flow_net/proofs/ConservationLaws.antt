-- Raising the flow along one half, and along a way from the source to the sink.
use Rattle.std.proofs.Common.{◌≡◌, ◌≢◌, ℕ, suc, ◌+◌, ◌-◌, ◌*◌, ◌/◌, ◌%◌, ◌^◌, ◌<◌, ◌≤◌, List, length, set, slice_index, nat_eq, refl, sym, ap, ◌∙◌, subst}
use Rattle.std.proofs.Common.{arith, length-set, get_or-set_same, get_or-set_other, ◌⊎◌, inl, inr, Bool, true, false, if◌then◌else◌}
use Rattle.std.proofs.lemmas.Bool.{cases_eq}
use Rattle.hg_defs.specs.Sums.{sum_below}
use Rattle.hg_defs.proofs.SumLaws.{sum_below-change, sum_below-same, sum_below-le, weight_if, weight_if-same, weight_if-other, weight_if-le}
use Rattle.flow_net.specs.Residual.{mate, head, tail, out_of, into, pairs_total, gap, KeepsPairs, IsBounded, IsRaised}
use Rattle.flow_net.specs.Residual.{IsPushed, IsStep, IsTree, Carries, IsLinked, IsMarked}
use Rattle.flow_net.proofs.LevelLaws.{mate-mate, mate-within}

weight_if-add : (x v p q : ℕ) → weight_if x v (p + q) ≡ weight_if x v p + weight_if x v q
weight_if-add x v p q = by (nat_eq x v)
  where
    by : (t : Bool) → (if t then p + q else 0) ≡ (if t then p else 0) + (if t then q else 0)
    by true = refl
    by false = refl

-- one more amount at one arc
sum_raised : (ends flow flow' : ℕ → ℕ) (n i v amount : ℕ) → i < n → ((j : ℕ) → j < n → j ≢ i → flow' j ≡ flow j) → flow' i ≡ flow i + amount
    → sum_below (λ j. weight_if (ends j) v (flow' j)) n ≡ sum_below (λ j. weight_if (ends j) v (flow j)) n + weight_if (ends i) v amount
sum_raised ends flow flow' n i v amount l others here =
    let f : ℕ → ℕ = λ j. weight_if (ends j) v (flow j) in
    let g : ℕ → ℕ = λ j. weight_if (ends j) v (flow' j) in
    let change : sum_below f n + g i ≡ sum_below g n + f i = sum_below-change f g n i l (λ j k q. ap (weight_if (ends j) v) (sym (others j k q))) in
    let new : g i ≡ f i + weight_if (ends i) v amount = ap (weight_if (ends i) v) here ∙ weight_if-add (ends i) v (flow i) amount in
    omega arith

module _ (heads rests : List ℕ) (h amount : ℕ) (even : length heads % 2 ≡ 0) (long : length rests ≡ length heads) (l : h < length heads)
    (enough : amount ≤ slice_index rests h) where
  abbrev pub pushed : List ℕ
  pushed = set (set rests h (slice_index rests h - amount)) (mate h) (slice_index (set rests h (slice_index rests h - amount)) (mate h) + amount)

  mate_other : mate h ≢ h
  mate_other e = omega arith

  pushed_here : slice_index pushed h ≡ slice_index rests h - amount
  pushed_here =
      get_or-set_other (set rests h (slice_index rests h - amount)) (mate h) h _ 0 (λ e. mate_other (sym e)) ∙
      get_or-set_same rests h (slice_index rests h - amount) 0 (omega arith)

  pushed_mate : slice_index pushed (mate h) ≡ slice_index rests (mate h) + amount
  pushed_mate =
      let b = mate-within (length heads) h even l in
      let c = length-set rests h (slice_index rests h - amount) in
      get_or-set_same (set rests h (slice_index rests h - amount)) (mate h) _ 0 (omega arith)
      ∙ ap (λ n. n + amount) (get_or-set_other rests h (mate h) (slice_index rests h - amount) 0 mate_other)

  pub pushed_other : (k : ℕ) → k ≢ h → k ≢ mate h → slice_index pushed k ≡ slice_index rests k
  pushed_other k p q = get_or-set_other (set rests h (slice_index rests h - amount)) (mate h) k _ 0 q ∙ get_or-set_other rests h k
      (slice_index rests h - amount) 0 p

  pub pushed_pairs : KeepsPairs rests pushed
  pushed_pairs k b = by (cases_eq k h) (cases_eq k (mate h))
    where
      by : (k ≡ h) ⊎ (k ≢ h) → (k ≡ mate h) ⊎ (k ≢ mate h) → slice_index pushed k + slice_index pushed (mate k) ≡ slice_index rests k + slice_index rests
          (mate k)
      by (inl e) r =
          let a = pushed_here in
          let c = pushed_mate in
          subst (λ i. slice_index pushed i + slice_index pushed (mate i) ≡ slice_index rests i + slice_index rests (mate i)) (sym e) (omega arith)
      by (inr p) (inl e) =
          let a = pushed_here in
          let c = pushed_mate in
          let m = mate-mate h in
          let x : slice_index pushed (mate (mate h)) ≡ slice_index pushed h = ap (slice_index pushed) m in
          let y : slice_index rests (mate (mate h)) ≡ slice_index rests h = ap (slice_index rests) m in
          subst (λ i. slice_index pushed i + slice_index pushed (mate i) ≡ slice_index rests i + slice_index rests (mate i)) (sym e) (omega arith)
      by (inr p) (inr q) =
          let a = pushed_other k p q in
          let c = pushed_other (mate k) (λ e. q (sym (mate-mate k) ∙ ap mate e)) (λ e. p (sym (mate-mate k) ∙ ap mate e ∙ mate-mate h)) in
          omega arith

  pub pushed_moves : (v : ℕ) → out_of heads pushed v + into heads rests v + weight_if (head heads h) v amount ≡ out_of heads rests v + into heads pushed v +
      weight_if (tail heads h) v amount
  pushed_moves v = by (cases_eq (h % 2) 0)
    where
      n : ℕ
      n = length heads / 2

      by : (h % 2 ≡ 0) ⊎ (h % 2 ≢ 0) → out_of heads pushed v + into heads rests v + weight_if (head heads h) v amount ≡ out_of heads rests v + into heads
          pushed v + weight_if (tail heads h) v amount
      by (inl e) =
          let i = h / 2 in
          let along : 2 * i ≡ h = omega arith in
          let against : 2 * i + 1 ≡ mate h = omega arith in
          let here : slice_index pushed (2 * i + 1) ≡ slice_index rests (2 * i + 1) + amount =
          ap (slice_index pushed) against ∙ pushed_mate ∙ ap (λ k. slice_index rests k + amount) (sym against) in
          let others : (j : ℕ) → j < length heads / 2 → j ≢ i → slice_index pushed (2 * j + 1) ≡ slice_index rests (2 * j + 1) =
          λ j b q. pushed_other (2 * j + 1) (λ z. absurd (omega arith)) (λ z. absurd (omega arith)) in
          let out = sum_raised (λ j. slice_index heads (2 * j + 1)) (λ j. slice_index rests (2 * j + 1)) (λ j. slice_index pushed (2 * j + 1))
          (length heads / 2) i v amount (omega arith) others here in
          let in_ = sum_raised (λ j. slice_index heads (2 * j)) (λ j. slice_index rests (2 * j + 1)) (λ j. slice_index pushed (2 * j + 1))
          (length heads / 2) i
          v amount (omega arith) others here in
          let to : weight_if (slice_index heads (2 * i)) v amount ≡ weight_if (head heads h) v amount = ap (λ k. weight_if (slice_index heads k) v amount)
          along in
          let from : weight_if (slice_index heads (2 * i + 1)) v amount ≡ weight_if (tail heads h) v amount =
          ap (λ k. weight_if (slice_index heads k) v amount) against in
          omega arith
      by (inr e) =
          let i = h / 2 in
          let against : 2 * i + 1 ≡ h = omega arith in
          let along : 2 * i ≡ mate h = omega arith in
          let here : slice_index rests (2 * i + 1) ≡ slice_index pushed (2 * i + 1) + amount =
          let a : slice_index pushed (2 * i + 1) ≡ slice_index rests h - amount = ap (slice_index pushed) against ∙ pushed_here in
          let b : slice_index rests (2 * i + 1) ≡ slice_index rests h = ap (slice_index rests) against in
          omega arith in
          let others : (j : ℕ) → j < length heads / 2 → j ≢ i → slice_index rests (2 * j + 1) ≡ slice_index pushed (2 * j + 1) =
          λ j b q. sym (pushed_other (2 * j + 1) (λ z. absurd (omega arith)) (λ z. absurd (omega arith))) in
          let out = sum_raised (λ j. slice_index heads (2 * j + 1)) (λ j. slice_index pushed (2 * j + 1)) (λ j. slice_index rests (2 * j + 1))
          (length heads / 2) i v amount (omega arith) others here in
          let in_ = sum_raised (λ j. slice_index heads (2 * j)) (λ j. slice_index pushed (2 * j + 1)) (λ j. slice_index rests (2 * j + 1))
          (length heads / 2) i
          v amount (omega arith) others here in
          let to : weight_if (slice_index heads (2 * i)) v amount ≡ weight_if (tail heads h) v amount = ap (λ k. weight_if (slice_index heads k) v amount)
          along in
          let from : weight_if (slice_index heads (2 * i + 1)) v amount ≡ weight_if (head heads h) v amount =
          ap (λ k. weight_if (slice_index heads k) v amount) against in
          omega arith

-- ---- along a way

pub carries-cons : (heads rests ways : List ℕ) (amount d e v : ℕ) → d ≡ suc e → amount ≤ slice_index rests (slice_index ways v) →
    Carries heads rests ways amount e (head heads (slice_index ways v)) → Carries heads rests ways amount d v
carries-cons heads rests ways amount d e v same enough later = subst (λ n. Carries heads rests ways amount n v) (sym same) (enough, later)

pub carries-head : (heads rests ways : List ℕ) (amount d e v : ℕ) → d ≡ suc e → Carries heads rests ways amount d v → amount ≤ slice_index rests
    (slice_index ways v)
carries-head heads rests ways amount d e v same c = (subst (λ n. Carries heads rests ways amount n v) same c).0

pub carries-tail : (heads rests ways : List ℕ) (amount d e v : ℕ) → d ≡ suc e → Carries heads rests ways amount d v → Carries heads rests ways amount e
    (head heads (slice_index ways v))
carries-tail heads rests ways amount d e v same c = (subst (λ n. Carries heads rests ways amount n v) same c).1

pub carries-none : (heads rests ways : List ℕ) (amount d v : ℕ) → d ≡ 0 → Carries heads rests ways amount d v
carries-none heads rests ways amount d v e = subst (λ n. Carries heads rests ways amount n v) (sym e) tt

-- a node with a level above 1 is not the sink
pub not_sink : (heads levels ways : List ℕ) (sink v : ℕ) → IsTree heads levels ways sink → 1 < slice_index levels v → v ≢ sink
not_sink heads levels ways sink v t l e = let a = t.root in let b = ap (slice_index levels) e in omega arith

-- a node of level 1 is the sink
pub is_sink : (heads levels ways : List ℕ) (sink v : ℕ) → IsTree heads levels ways sink → v < length levels → slice_index levels v ≡ 1 → v ≡ sink
is_sink heads levels ways sink v t l e = by (cases_eq v sink)
  where
    by : (v ≡ sink) ⊎ (v ≢ sink) → v ≡ sink
    by (inl q) = q
    by (inr q) = absurd (let s = t.steps v l q (omega arith) in let a = s.lower in let b = s.reached in omega arith)

-- nothing is pushed yet
pub push_begin : (heads levels rests : List ℕ) (source amount : ℕ) → IsPushed heads levels source source amount rests rests
push_begin heads levels rests source amount = record {
  pairs = λ h l. refl;
  moved = λ v. refl;
  same = λ h l a b. refl;
}

-- one half more of the way
pub push_step : (heads levels ways old new : List ℕ) (source sink node amount : ℕ) (even : length heads % 2 ≡ 0) → length levels ≡ length ways →
    length old ≡ length heads → (long : length new ≡ length heads)
    → IsTree heads levels ways sink → IsPushed heads levels source node amount old new
    → (l : slice_index ways node < length heads) → tail heads (slice_index ways node) ≡ node → slice_index levels (head heads (slice_index ways node)) + 1 ≡
    slice_index levels node
    → (enough : amount ≤ slice_index new (slice_index ways node))
    → IsPushed heads levels source (head heads (slice_index ways node)) amount old (pushed heads new (slice_index ways node) amount even long l enough)
push_step heads levels ways old new source sink node amount even long_levels long_old long t s l leaves lower enough =
    let h = slice_index ways node in
    let next = head heads h in
    let now = pushed heads new h amount even long l enough in
    record {
      pairs = λ k b. let a = pushed_pairs heads new h amount even long l enough k (omega arith) in let c = s.pairs k b in omega arith;
      moved = λ v.
          let a = s.moved v in
          let b = pushed_moves heads new h amount even long l enough v in
          let c : weight_if (tail heads h) v amount ≡ weight_if node v amount = ap (λ u. weight_if u v amount) leaves in
          omega arith;
      same = λ k b low_tail low_head.
          let not_half : k ≢ h = (λ e. let x : slice_index levels (tail heads k) ≡ slice_index levels node = ap (λ i. slice_index levels (tail heads i)) e ∙
          ap (slice_index levels) leaves in absurd (omega arith)) in
          let not_mate : k ≢ mate h =
          (λ e. let x : slice_index levels (head heads k) ≡ slice_index levels node = ap (λ i. slice_index levels (head heads i)) e ∙
          ap (slice_index levels) leaves in absurd (omega arith)) in
          pushed_other heads new h amount even long l enough k not_half not_mate ∙ s.same k b (omega arith) (omega arith);
    }

-- the whole way
pub push_end : (heads levels old new : List ℕ) (source sink node amount : ℕ) → node ≡ sink → source ≢ sink → IsPushed heads levels source node amount old
    new →
    IsRaised heads source sink amount old new
push_end heads levels old new source sink node amount e apart s = record {
  pairs = s.pairs;
  kept = λ v p q.
      let a = s.moved v in
      let b = weight_if-other node v amount (λ z. q (sym z ∙ e)) in
      let c = weight_if-other source v amount (λ z. p (sym z)) in
      omega arith;
  raised =
      let a = s.moved source in
      let b = weight_if-other node source amount (λ z. apart (sym z ∙ e)) in
      let c = weight_if-same source source amount refl in
      omega arith;
}

-- the way goes on from each node that is not the last
pub way_step : (heads levels ways : List ℕ) (sink node step top : ℕ) → IsTree heads levels ways sink → node < length levels →
    slice_index levels node + step ≡
    top + 1 → step < top
    → IsStep heads levels node (slice_index ways node)
way_step heads levels ways sink node step top t l height more =
    t.steps node l (not_sink heads levels ways sink node t (omega arith)) (omega arith)

-- the next half of the way takes the amount
pub way_takes : (heads levels ways old new : List ℕ) (source node amount d e : ℕ) → IsPushed heads levels source node amount old new →
    IsStep heads levels node (slice_index ways node)
    → d ≡ suc e → Carries heads old ways amount d node → amount ≤ slice_index new (slice_index ways node)
way_takes heads levels ways old new source node amount d e s t same c =
    let a = carries-head heads old ways amount d e node same c in
    let lower = t.lower in
    let leaves = ap (slice_index levels) t.leaves in
    let b = s.same (slice_index ways node) t.half (omega arith) (omega arith) in
    omega arith

-- the sum of the rests of an arc stays small
pub pair_room : (old new : List ℕ) (h : ℕ) → KeepsPairs old new → IsBounded old → h < length old → slice_index new h + slice_index new (mate h) < 2 ^ 63
pair_room old new h k b l = let a = k h l in let c = b h l in omega arith

-- a write keeps the length
pub within_set : (xs : List ℕ) (i j y : ℕ) → i < length xs → i < length (set xs j y)
within_set xs i j y l = subst (λ n. i < n) (sym (length-set xs j y)) l

-- a node gets another step
pub tree_way : (heads levels ways : List ℕ) (sink node half : ℕ) → IsTree heads levels ways sink → node < length ways → IsStep heads levels node half →
    IsTree heads levels (set ways node half) sink
tree_way heads levels ways sink node half t l s = record { root = t.root; steps = λ v k ne p. by v k ne p (cases_eq v node) }
  where
    by : (v : ℕ) → v < length levels → v ≢ sink → 0 < slice_index levels v → (v ≡ node) ⊎ (v ≢ node) →
        IsStep heads levels v (slice_index (set ways node half) v)
    by v k ne p (inl q) =
        subst (λ u. IsStep heads levels u (slice_index (set ways node half) u)) (sym q)
        (subst (λ h. IsStep heads levels node h) (sym (get_or-set_same ways node half 0 l)) s)
    by v k ne p (inr q) = subst (λ h. IsStep heads levels v h) (sym (get_or-set_other ways node v half 0 q)) (t.steps v k ne p)

-- ---- one raise after another

pub raised_then : (heads : List ℕ) (source sink a b : ℕ) (old mid new : List ℕ) → length mid ≡ length old → IsRaised heads source sink a old mid →
    IsRaised heads source sink b mid new → IsRaised heads source sink (a + b) old new
raised_then heads source sink a b old mid new long r s = record {
  pairs = λ h l. s.pairs h (omega arith) ∙ r.pairs h l;
  kept = λ v p q. let x = r.kept v p q in let y = s.kept v p q in omega arith;
  raised = let x = r.raised in let y = s.raised in omega arith;
}

pub raised_less : (heads : List ℕ) (source sink a b : ℕ) (old new : List ℕ) → b ≤ a → IsRaised heads source sink a old new → IsRaised heads source sink b
    old
    new
raised_less heads source sink a b old new l r = record { pairs = r.pairs; kept = r.kept; raised = let x = r.raised in omega arith }

pub raised_none : (heads : List ℕ) (source sink : ℕ) (rests : List ℕ) → IsRaised heads source sink 0 rests rests
raised_none heads source sink rests = record { pairs = λ h l. refl; kept = λ v p q. refl; raised = omega arith }

pub bounded_kept : (old new : List ℕ) → length new ≡ length old → KeepsPairs old new → IsBounded old → IsBounded new
bounded_kept old new long k b h l = pair_room old new h k b (omega arith)

-- ---- an end

out-le : (heads rests : List ℕ) (v : ℕ) → out_of heads rests v ≤ pairs_total rests (length heads / 2)
out-le heads rests v =
    sum_below-le (λ i. weight_if (slice_index heads (2 * i + 1)) v (slice_index rests (2 * i + 1))) (λ i. slice_index rests (2 * i) + slice_index rests
    (2 * i + 1)) (length heads / 2)
    (λ i l. let a = weight_if-le (slice_index heads (2 * i + 1)) v (slice_index rests (2 * i + 1)) in omega arith)

pub pairs_total-kept : (old new : List ℕ) (n : ℕ) → 2 * n ≤ length old → KeepsPairs old new → pairs_total new n ≡ pairs_total old n
pairs_total-kept old new n l k =
    sum_below-same (λ i. slice_index new (2 * i) + slice_index new (2 * i + 1)) (λ i. slice_index old (2 * i) + slice_index old (2 * i + 1)) n
    (λ i m.
    let other : mate (2 * i) ≡ 2 * i + 1 = omega arith in
    let a : slice_index new (2 * i) + slice_index new (mate (2 * i)) ≡ slice_index old (2 * i) + slice_index old (mate (2 * i)) = k (2 * i) (omega arith) in
    let b : slice_index new (mate (2 * i)) ≡ slice_index new (2 * i + 1) = ap (slice_index new) other in
    let c : slice_index old (mate (2 * i)) ≡ slice_index old (2 * i + 1) = ap (slice_index old) other in
    omega arith)

-- each raise makes the gap smaller
pub gap_falls : (heads : List ℕ) (source sink amount : ℕ) (old new : List ℕ) → length old ≡ length heads → 0 < amount → IsRaised heads source sink amount
    old
    new → gap heads new source < gap heads old source
gap_falls heads source sink amount old new long more r =
    let a = out-le heads old source in
    let b = out-le heads new source in
    let c = pairs_total-kept old new (length heads / 2) (omega arith) r.pairs in
    let d = r.raised in
    omega arith

-- ---- the search along the levels begins

pub marked_begin : (heads nexts firsts entries : List ℕ) → IsLinked heads nexts firsts →
    ((v : ℕ) → v < length firsts → slice_index entries v < length heads) →
    IsMarked heads firsts entries
marked_begin heads nexts firsts entries linked entered = record {
  within = λ v l. (linked.first v l).within;
  leaves = λ v l. (linked.first v l).leaves;
  entered = entered;
}

-- where the source was reached, there are halves
pub some_half : (heads levels ways : List ℕ) (source sink : ℕ) → source ≢ sink → source < length levels → IsTree heads levels ways sink →
    0 < slice_index levels source → 0 < length heads
some_half heads levels ways source sink apart l t p = let a = (t.steps source l apart p).half in omega arith
