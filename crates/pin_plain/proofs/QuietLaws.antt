-- Quiet vertices: they have no best block, and stay quiet where a move stirs none of their nets.
use Rattle.std.proofs.Common.{◌≡◌, ◌≢◌, ◌⊎◌, inl, inr, ℕ, ◌+◌, ◌*◌, ◌<◌, ◌≤◌, Option, Some, None, List, length, All, Contains, get_or, set}
use Rattle.std.proofs.Common.{Bool, true, false, take, ◌++◌, ◌∷◌, [], true≢false}
use Rattle.std.proofs.Common.{drop, replicate, pos, ◌-ℤ◌, ◌<ℤ◌, refl, sym, ap, subst, ◌∙◌, arith}
use Rattle.std.proofs.lemmas.Bool.{cases_eq}
use Rattle.std.proofs.lemmas.Bool.Decides.{Decides-eqb, nat_tests}
use Rattle.std.proofs.lemmas.Int.{ints}
use Rattle.std.proofs.lemmas.List.{get_or-set_other, get_or-set_same, length-set, take_more, get_or-replicate, length-replicate, take_at}
use Rattle.std.proofs.lemmas.List.Elements.{All-set, All-contains, All-cons, All-nil, All-append}
use Rattle.std.proofs.lemmas.Map.Made.{is_member-Decides}
use Rattle.std.proofs.Math.Nat.{mul-le-mul_left}
use Rattle.hg_defs.specs.declared.objective.Objective.{Objective}
use Rattle.hg_defs.specs.declared.objective.Objective.TheVariants.{Connectivity, CutNet, ExternalDegree}
use Rattle.hg_defs.specs.Sums.{total}
use Rattle.hg_defs.specs.Hypergraph.{Hyper, IsHypergraph, IsFree, vertex_count, net_count, net_of}
use Rattle.hg_defs.specs.Partition.{IsPartition, block_of}
use Rattle.hg_defs.specs.Cost.{cost}
use Rattle.hg_defs.specs.Pins.{pins_in, present}
use Rattle.hg_defs.specs.Incidence.{is_on, nets_of}
use Rattle.hg_defs.specs.Moves.{moved, best_block}
use Rattle.hg_defs.proofs.SumLaws.{total-le}
use Rattle.hg_defs.proofs.DistinctLaws.{pins_in-set_old, pins_in-set_new, pins_in-set_other, pins_in-set_apart, blocks_of_pins}
use Rattle.hg_defs.proofs.MoveLaws.{best_block_is}
use Rattle.hg_defs.proofs.NumberingLaws.{Contains_range}
use Rattle.hg_defs.proofs.PlacementLaws.{Contains_filter}
use Rattle.std.specs.List.{range_with_len}
use Rattle.incidence.proofs.IndexLaws.{nets_of-below}
use Rattle.pin_plain.specs.Quiet.{IsQuiet, AreQuiet, stirs, stirs_net}
use Rattle.pin_plain.specs.Savings.{saved, lost, joined, left, parted, net_saved, net_lost}
use Rattle.pin_plain.proofs.CountLaws.{pins_in-two}
use Rattle.pin_plain.proofs.GainLaws.{gain_counted, nets_of-hold}

-- ---- a quiet vertex, by what its nets save and lose

module _ (h : Hyper) (k : ℕ) (p : List ℕ) (v : ℕ) (good : IsHypergraph h) (whole : IsPartition h k p) (vertex : v < vertex_count h) where
  pub quiet_by_sums : ((b : ℕ) → b < k → b ≢ block_of p v → total (net_saved h p b) (nets_of h v) ≤ total (net_lost h p (block_of p v)) (nets_of h v)) →
      IsQuiet h k p v
  quiet_by_sums all free b low other =
      dearer (cost h p) (cost h (moved p v b)) (total (net_saved h p b) (nets_of h v)) (total (net_lost h p (block_of p v)) (nets_of h v))
      (gain_counted h k p v b good whole vertex low other) (all b low other)
    where
      dearer : (x y s t : ℕ) → (pos x -ℤ pos y) ≡ (pos s -ℤ pos t) → s ≤ t → x ≤ y
      dearer x y s t e l = omega (arith, ints)

  sums_of_quiet : IsQuiet h k p v → IsFree h v → (b : ℕ) → b < k → b ≢ block_of p v →
      total (net_saved h p b) (nets_of h v) ≤ total (net_lost h p (block_of p v)) (nets_of h v)
  sums_of_quiet quiet free b low other =
      less (cost h p) (cost h (moved p v b)) (total (net_saved h p b) (nets_of h v)) (total (net_lost h p (block_of p v)) (nets_of h v))
      (gain_counted h k p v b good whole vertex low other) (quiet free b low other)
    where
      less : (x y s t : ℕ) → (pos x -ℤ pos y) ≡ (pos s -ℤ pos t) → x ≤ y → s ≤ t
      less x y s t e l = omega (arith, ints)

-- a quiet vertex has no best block
pub quiet_stays : (h : Hyper) (k l : ℕ) (p : List ℕ) (v : ℕ) → v < vertex_count h → IsQuiet h k p v → best_block h l p v k ≡ None
quiet_stays h k l p v vertex quiet = by (best_block h l p v k) refl
  where
    none_gains : (x y : ℕ) → pos 0 <ℤ (pos x -ℤ pos y) → x ≤ y → ⊥
    none_gains x y g l = absurd (omega (arith, ints))

    by : (o : Option ℕ) → best_block h l p v k ≡ o → o ≡ None
    by None e = refl
    by (Some b) e =
        let best = best_block_is h k l p v b vertex e in
        absurd (none_gains (cost h p) (cost h (moved p v b)) best.gains (quiet best.allowed.free b best.allowed.block best.allowed.other))

-- ---- one pin moved, on a net of weight 1 with a + 1 pins in the old block and b in the new one

record Calm (a b size : ℕ) : Type 0 where
  held : b ≢ 0
  more : a ≢ 1
  lacks : b + 2 ≢ size
  all : a + 1 + b ≤ size

joined_new : (a b size : ℕ) → Calm a b size → joined (b + 1) size ≤ joined b size
joined_new a b size c = let x = c.lacks in grind (arith, nat_tests)

joined_old : (a b size : ℕ) → Calm a b size → joined a size ≤ joined (a + 1) size
joined_old a b size c = let x = c.held in let y = c.all in grind (arith, nat_tests)

left_old : (a b size : ℕ) → Calm a b size → left (a + 1) ≤ left a
left_old a b size c = let x = c.more in grind (arith, nat_tests)

left_new : (a b size : ℕ) → Calm a b size → left b ≤ left (b + 1)
left_new a b size c = let x = c.held in grind (arith, nat_tests)

parted_old : (a b size : ℕ) → Calm a b size → parted (a + 1) size ≤ parted a size
parted_old a b size c = let x = c.held in let y = c.all in grind (arith, nat_tests)

parted_new : (a b size : ℕ) → Calm a b size → parted b size ≤ parted (b + 1) size
parted_new a b size c = let x = c.held in let y = c.all in grind (arith, nat_tests)

present_new : (a b size : ℕ) → Calm a b size → present (b + 1) ≤ present b
present_new a b size c = let x = c.held in grind (arith, nat_tests)

present_old : (a : ℕ) → present a ≤ present (a + 1)
present_old a = grind (arith, nat_tests)

saved_new : (o : Objective) (a b size : ℕ) → Calm a b size → saved o (b + 1) size ≤ saved o b size
saved_new Connectivity a b size c = present_new a b size c
saved_new CutNet a b size c = joined_new a b size c
saved_new ExternalDegree a b size c = let x = present_new a b size c in let y = joined_new a b size c in omega arith

saved_old : (o : Objective) (a b size : ℕ) → Calm a b size → saved o a size ≤ saved o (a + 1) size
saved_old Connectivity a b size c = present_old a
saved_old CutNet a b size c = joined_old a b size c
saved_old ExternalDegree a b size c = let x = present_old a in let y = joined_old a b size c in omega arith

lost_old : (o : Objective) (a b size : ℕ) → Calm a b size → lost o (a + 1) size ≤ lost o a size
lost_old Connectivity a b size c = left_old a b size c
lost_old CutNet a b size c = parted_old a b size c
lost_old ExternalDegree a b size c = let x = left_old a b size c in let y = parted_old a b size c in omega arith

lost_new : (o : Objective) (a b size : ℕ) → Calm a b size → lost o b size ≤ lost o (b + 1) size
lost_new Connectivity a b size c = left_new a b size c
lost_new CutNet a b size c = parted_new a b size c
lost_new ExternalDegree a b size c = let x = left_new a b size c in let y = parted_new a b size c in omega arith

-- ---- one net, where vertex u went to block b

module _ (h : Hyper) (k : ℕ) (p : List ℕ) (u b e : ℕ) (good : IsHypergraph h) (whole : IsPartition h k p) (vertex : u < vertex_count h) (block : b < k)
    (other : b ≢ block_of p u) (net : e < net_count h) where
  inside : u < length p
  inside = let x = whole.vertices in omega arith

  -- a net without u has the counts that it had
  apart_saved : is_on h u e ≡ false → (c : ℕ) → net_saved h (moved p u b) c e ≡ net_saved h p c e
  apart_saved off c = ap (λ n. (net_of h e).weight * saved h.objective n (length (net_of h e).pins))
      (pins_in-set_apart p (net_of h e).pins u b inside (λ m. true≢false (sym ((is_member-Decides Decides-eqb (net_of h e).pins u).1 m) ∙ off)) c)

  apart_lost : is_on h u e ≡ false → (c : ℕ) → net_lost h (moved p u b) c e ≡ net_lost h p c e
  apart_lost off c = ap (λ n. (net_of h e).weight * lost h.objective n (length (net_of h e).pins))
      (pins_in-set_apart p (net_of h e).pins u b inside (λ m. true≢false (sym ((is_member-Decides Decides-eqb (net_of h e).pins u).1 m) ∙ off)) c)

  module _ (on : is_on h u e ≡ true) (still : stirs_net h p u b e ≡ false) where
    pin : Contains (net_of h e).pins u
    pin = (is_member-Decides Decides-eqb (net_of h e).pins u).0 on

    old_less : pins_in (moved p u b) (net_of h e).pins (block_of p u) + 1 ≡ pins_in p (net_of h e).pins (block_of p u)
    old_less = pins_in-set_old p (net_of h e).pins u b inside (good.nets e (record { weight = 0; pins = [] }) net).rising pin other

    new_more : pins_in (moved p u b) (net_of h e).pins b ≡ pins_in p (net_of h e).pins b + 1
    new_more = pins_in-set_new p (net_of h e).pins u b inside (good.nets e (record { weight = 0; pins = [] }) net).rising pin other

    calm : Calm (pins_in (moved p u b) (net_of h e).pins (block_of p u)) (pins_in p (net_of h e).pins b) (length (net_of h e).pins)
    calm =
        let low = blocks_of_pins k p (net_of h e).pins whole.blocks
        (subst (λ n. All (λ v. v < n) (net_of h e).pins) (sym whole.vertices) (good.nets e (record { weight = 0; pins = [] }) net).pins) in
        let two = pins_in-two p (net_of h e).pins (block_of p u) b k (whole.blocks u 0 inside) block other low in
        let less = old_less in
        let parts = calm_parts (pins_in p (net_of h e).pins (block_of p u)) (pins_in p (net_of h e).pins b) (length (net_of h e).pins) still in
        record {
          held = parts.0;
          more = λ x. parts.1 (omega arith);
          lacks = parts.2;
          all = omega arith;
        }
      where
        calm_parts : (x y s : ℕ) → stirs x y s ≡ false → (y ≢ 0) × (x ≢ 2) × (y + 2 ≢ s)
        calm_parts x y s q = (λ r. grind (arith, nat_tests), λ r. grind (arith, nat_tests), λ r. grind (arith, nat_tests))

    calm_saved : (c : ℕ) → net_saved h (moved p u b) c e ≤ net_saved h p c e
    calm_saved c = mul-le-mul_left (net_of h e).weight (by (cases_eq c b) (cases_eq c (block_of p u)))
      where
        o : Objective
        o = h.objective

        n : ℕ
        n = length (net_of h e).pins

        by : (c ≡ b) ⊎ (c ≢ b) → (c ≡ block_of p u) ⊎ (c ≢ block_of p u) →
            saved h.objective (pins_in (moved p u b) (net_of h e).pins c) (length (net_of h e).pins)
            ≤ saved h.objective (pins_in p (net_of h e).pins c) (length (net_of h e).pins)
        by (inl r) q =
            subst (λ d. saved h.objective (pins_in (moved p u b) (net_of h e).pins d) (length (net_of h e).pins)
            ≤ saved h.objective (pins_in p (net_of h e).pins d) (length (net_of h e).pins)) (sym r)
            (subst (λ x. saved h.objective x (length (net_of h e).pins) ≤ saved h.objective (pins_in p (net_of h e).pins b) (length (net_of h e).pins))
            (sym new_more) (saved_new h.objective _ _ _ calm))
        by (inr r) (inl q) =
            subst (λ d. saved h.objective (pins_in (moved p u b) (net_of h e).pins d) (length (net_of h e).pins)
            ≤ saved h.objective (pins_in p (net_of h e).pins d) (length (net_of h e).pins)) (sym q)
            (subst (λ x. saved h.objective (pins_in (moved p u b) (net_of h e).pins (block_of p u)) (length (net_of h e).pins)
            ≤ saved h.objective x (length (net_of h e).pins)) old_less (saved_old h.objective _ _ _ calm))
        by (inr r) (inr q) =
            let same = ap (λ x. saved h.objective x (length (net_of h e).pins))
            (pins_in-set_other p (net_of h e).pins u b inside (good.nets e (record { weight = 0; pins = [] }) net).rising pin c q r) in
            omega arith

    calm_lost : (c : ℕ) → net_lost h p c e ≤ net_lost h (moved p u b) c e
    calm_lost c = mul-le-mul_left (net_of h e).weight (by (cases_eq c b) (cases_eq c (block_of p u)))
      where
        by : (c ≡ b) ⊎ (c ≢ b) → (c ≡ block_of p u) ⊎ (c ≢ block_of p u) →
            lost h.objective (pins_in p (net_of h e).pins c) (length (net_of h e).pins)
            ≤ lost h.objective (pins_in (moved p u b) (net_of h e).pins c) (length (net_of h e).pins)
        by (inl r) q =
            subst (λ d. lost h.objective (pins_in p (net_of h e).pins d) (length (net_of h e).pins)
            ≤ lost h.objective (pins_in (moved p u b) (net_of h e).pins d) (length (net_of h e).pins)) (sym r)
            (subst (λ x. lost h.objective (pins_in p (net_of h e).pins b) (length (net_of h e).pins) ≤ lost h.objective x (length (net_of h e).pins))
            (sym new_more) (lost_new h.objective _ _ _ calm))
        by (inr r) (inl q) =
            subst (λ d. lost h.objective (pins_in p (net_of h e).pins d) (length (net_of h e).pins)
            ≤ lost h.objective (pins_in (moved p u b) (net_of h e).pins d) (length (net_of h e).pins)) (sym q)
            (subst (λ x. lost h.objective x (length (net_of h e).pins)
            ≤ lost h.objective (pins_in (moved p u b) (net_of h e).pins (block_of p u)) (length (net_of h e).pins)) old_less
            (lost_old h.objective _ _ _ calm))
        by (inr r) (inr q) =
            let same = ap (λ x. lost h.objective x (length (net_of h e).pins))
            (pins_in-set_other p (net_of h e).pins u b inside (good.nets e (record { weight = 0; pins = [] }) net).rising pin c q r) in
            omega arith

  -- what a net saves no more and loses no less
  pub still_saved : (is_on h u e ≡ false) ⊎ (stirs_net h p u b e ≡ false) → (c : ℕ) → net_saved h (moved p u b) c e ≤ net_saved h p c e
  still_saved s c = by (is_on h u e) refl s
    where
      by : (t : Bool) → is_on h u e ≡ t → (is_on h u e ≡ false) ⊎ (stirs_net h p u b e ≡ false) → net_saved h (moved p u b) c e ≤ net_saved h p c e
      by false off s = let same = apart_saved off c in omega arith
      by true on (inl off) = absurd (true≢false (sym on ∙ off))
      by true on (inr q) = calm_saved on q c

  pub still_lost : (is_on h u e ≡ false) ⊎ (stirs_net h p u b e ≡ false) → (c : ℕ) → net_lost h p c e ≤ net_lost h (moved p u b) c e
  still_lost s c = by (is_on h u e) refl s
    where
      by : (t : Bool) → is_on h u e ≡ t → (is_on h u e ≡ false) ⊎ (stirs_net h p u b e ≡ false) → net_lost h p c e ≤ net_lost h (moved p u b) c e
      by false off s = let same = apart_lost off c in omega arith
      by true on (inl off) = absurd (true≢false (sym on ∙ off))
      by true on (inr q) = calm_lost on q c

-- ---- a vertex, where another one went to a block

pub quiet_kept : (h : Hyper) (k : ℕ) (p : List ℕ) (u b w : ℕ) → IsHypergraph h → IsPartition h k p → u < vertex_count h → b < k → b ≢ block_of p u →
    w < vertex_count h → w ≢ u → All (λ e. (is_on h u e ≡ false) ⊎ (stirs_net h p u b e ≡ false)) (nets_of h w) → IsQuiet h k p w →
    IsQuiet h k (moved p u b) w
quiet_kept h k p u b w good whole vertex block other low apart still quiet free =
    quiet_by_sums h k (moved p u b) w good after low sums free
  where
    after : IsPartition h k (moved p u b)
    after = record { vertices = length-set p u b ∙ whole.vertices; blocks = All-set (λ c. c < k) p u b block whole.blocks }

    own : block_of (moved p u b) w ≡ block_of p w
    own = get_or-set_other p u w b 0 apart

    sums : (c : ℕ) → c < k → c ≢ block_of (moved p u b) w →
        total (net_saved h (moved p u b) c) (nets_of h w) ≤ total (net_lost h (moved p u b) (block_of (moved p u b) w)) (nets_of h w)
    sums c m q =
        let before = sums_of_quiet h k p w good whole low quiet free c m (λ r. q (r ∙ sym own)) in
        let less = total-le (net_saved h (moved p u b) c) (net_saved h p c) (nets_of h w)
        (λ i d l. still_saved h k p u b (get_or (nets_of h w) i d) good whole vertex block other (nets_of-below h w i d l) (still i d l) c) in
        let more = total-le (net_lost h p (block_of p w)) (net_lost h (moved p u b) (block_of p w)) (nets_of h w)
        (λ i d l. still_lost h k p u b (get_or (nets_of h w) i d) good whole vertex block other (nets_of-below h w i d l) (still i d l) (block_of p w)) in
        let same = ap (λ a. total (net_lost h (moved p u b) a) (nets_of h w)) own in
        omega arith

-- ---- the marks that are left

-- one net more
pub still_more : (P : ℕ → Type 0) (nets : List ℕ) (i : ℕ) → i < length nets → All P (take i nets) → P (get_or nets i 0) → All P (take (i + 1) nets)
still_more P nets i low all one = subst (All P) (sym (take_more nets i 0 low)) (All-append P (take i nets) (get_or nets i 0 ∷ []) all (All-cons P (get_or nets i 0) [] one (All-nil P)))

-- where the marks of all that the nets of vertex u stir were taken away
pub quiet_left : (h : Hyper) (k : ℕ) (p : List ℕ) (u b : ℕ) (old new : List Bool) → IsHypergraph h → IsPartition h k p → u < vertex_count h → b < k →
    b ≢ block_of p u → get_or old u false ≡ false → length new ≡ length old
    → ((w : ℕ) → get_or new w false ≡ true → (get_or old w false ≡ true) × All (λ e. (is_on h w e ≡ false) ⊎ (stirs_net h p u b e ≡ false)) (nets_of h u))
    → AreQuiet h k p old → AreQuiet h k (moved p u b) new
quiet_left h k p u b old new good whole vertex block other unmarked same left quiet = record {
  all = same ∙ quiet.all;
  each = λ w low marked.
      let was = left w marked in
      quiet_kept h k p u b w good whole vertex block other low
      (λ r. true≢false (sym was.0 ∙ ap (λ x. get_or old x false) r ∙ unmarked))
      (still w was.1) (quiet.each w low was.0);
}
  where
    still : (w : ℕ) → All (λ e. (is_on h w e ≡ false) ⊎ (stirs_net h p u b e ≡ false)) (nets_of h u) →
        All (λ e. (is_on h u e ≡ false) ⊎ (stirs_net h p u b e ≡ false)) (nets_of h w)
    still w all i d l = by (is_on h u (get_or (nets_of h w) i d)) refl
      where
        e : ℕ
        e = get_or (nets_of h w) i d

        on : is_on h w (get_or (nets_of h w) i d) ≡ true
        on = (is_member-Decides Decides-eqb (net_of h (get_or (nets_of h w) i d)).pins w).1 (nets_of-hold h w i d l)

        by : (t : Bool) → is_on h u (get_or (nets_of h w) i d) ≡ t →
            (is_on h u (get_or (nets_of h w) i d) ≡ false) ⊎ (stirs_net h p u b (get_or (nets_of h w) i d) ≡ false)
        by false off = inl off
        by true q = shared (All-contains (λ e. (is_on h w e ≡ false) ⊎ (stirs_net h p u b e ≡ false)) (nets_of h u) (get_or (nets_of h w) i d) all
            (Contains_filter (is_on h u) (range_with_len 0 (net_count h)) (get_or (nets_of h w) i d)
            (Contains_range 0 (net_count h) (get_or (nets_of h w) i d) (omega arith) (let below = nets_of-below h w i d l in omega arith)) q))
          where
            shared : (is_on h w (get_or (nets_of h w) i d) ≡ false) ⊎ (stirs_net h p u b (get_or (nets_of h w) i d) ≡ false) →
                (is_on h u (get_or (nets_of h w) i d) ≡ false) ⊎ (stirs_net h p u b (get_or (nets_of h w) i d) ≡ false)
            shared (inl off) = absurd (true≢false (sym on ∙ off))
            shared (inr s) = inr s

-- no vertex is marked
pub none_marked : (h : Hyper) (marks : List Bool) (n : ℕ) → marks ≡ replicate n false → n ≡ vertex_count h → (k : ℕ) (p : List ℕ) → AreQuiet h k p marks
none_marked h marks n is all k p = record {
  all = ap length is ∙ length-replicate n false ∙ all;
  each = λ v low marked. absurd (true≢false (sym marked ∙ ap (λ (ms : List Bool). get_or ms v false) is ∙ get_or-replicate n v false false (omega arith)));
}

-- one mark is set by what was found of its vertex
pub mark_found : (h : Hyper) (k : ℕ) (p : List ℕ) (marks : List Bool) (v : ℕ) (t : Bool) → v < vertex_count h → (t ≡ true → IsQuiet h k p v) →
    AreQuiet h k p marks → AreQuiet h k p (set marks v t)
mark_found h k p marks v t low found quiet = record {
  all = length-set marks v t ∙ quiet.all;
  each = λ w inside marked. by w inside marked (cases_eq w v);
}
  where
    by : (w : ℕ) → w < vertex_count h → get_or (set marks v t) w false ≡ true → (w ≡ v) ⊎ (w ≢ v) → IsQuiet h k p w
    by w inside marked (inl e) =
        let size = quiet.all in
        subst (IsQuiet h k p) (sym e) (found (sym (get_or-set_same marks v t false (omega arith)) ∙ ap (λ x. get_or (set marks v t) x false) (sym e) ∙ marked))
    by w inside marked (inr q) = quiet.each w inside (sym (get_or-set_other marks v w t false q) ∙ marked)

-- marks that were written back through a slice of all of them
pub quiet_written : (h : Hyper) (k : ℕ) (p : List ℕ) (n : ℕ) (new old : List Bool) → length new ≡ n → AreQuiet h k p new →
    AreQuiet h k p (take n (new ++ drop (length new) old))
quiet_written h k p n new old size quiet = subst (AreQuiet h k p) (sym (take_at new (drop (length new) old) n size)) quiet
