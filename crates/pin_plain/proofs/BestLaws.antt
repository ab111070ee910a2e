-- The best block of a vertex by the scores of the blocks.
use Rattle.std.proofs.Common.{◌≡◌, ◌≢◌, ℕ, ◌+◌, ◌-◌, ◌<◌, ◌≤◌, ◌^◌, Option, Some, None, option_map, is_some, true, true≢false, IfSome, List}
use Rattle.std.proofs.Common.{[], get_or, slice_index, ℤ, pos, ◌-ℤ◌, ◌<ℤ◌, ◌≤ℤ◌, All, refl, sym, ap, subst, ◌∙◌, arith}
use Rattle.std.proofs.lemmas.Int.{ints}
use Rattle.hg_defs.specs.Sums.{total}
use Rattle.hg_defs.specs.Hypergraph.{Hyper, IsHypergraph, IsWithinLimits, IsFree, vertex_count, net_of, weight_of, fix_of}
use Rattle.hg_defs.specs.declared.objective.TheConstants.{FREE}
use Rattle.hg_defs.specs.Partition.{IsPartition, block_of}
use Rattle.hg_defs.specs.Cost.{cost}
use Rattle.hg_defs.specs.Moves.{IsAllowed, IsSettled, moved, gain, best_block}
use Rattle.hg_defs.proofs.MoveLaws.{best_block_is, only_best_block, no_best_block}
use Rattle.hg_defs.proofs.SumLaws.{total-zero, weight_in-le}
use Rattle.std.proofs.lemmas.List.{get_or_default}
use Rattle.hg_defs.specs.Incidence.{nets_of}
use Rattle.incidence.proofs.IndexLaws.{nets_of-below}
use Rattle.pin_plain.specs.Savings.{net_saved, net_lost}
use Rattle.pin_plain.specs.Parted.{IsTold, IsLoaded}
use Rattle.pin_plain.specs.Scores.{IsTarget, IsTop}
use Rattle.pin_plain.specs.Settling.{IsSettledWithin}
use Rattle.pin_plain.proofs.GainLaws.{gain_counted}
use Rattle.pin_plain.proofs.ScoreLaws.{saved_none, saved_bound}
use Rattle.pin_plain.proofs.TallyLaws.{none_past}

-- a vertex that isn't free has no best block
pub fixed_stays : (h : Hyper) (k l : ℕ) (p : List ℕ) (v : ℕ) → v < vertex_count h → fix_of h v ≢ FREE → None ≡ best_block h l p v k
fixed_stays h k l p v vertex fixed = by (best_block h l p v k) refl
  where
    by : (o : Option ℕ) → best_block h l p v k ≡ o → None ≡ o
    by None e = refl
    by (Some b) e = absurd (fixed ((best_block_is h k l p v b vertex e).allowed.free))

-- a vertex whose nets save no more than they lose, at whichever block, has no best block
pub dearer_stays : (h : Hyper) (k l : ℕ) (p : List ℕ) (v : ℕ) → IsHypergraph h → IsPartition h k p → v < vertex_count h →
    ((b : ℕ) → b ≢ block_of p v → total (net_saved h p b) (nets_of h v) ≤ total (net_lost h p (block_of p v)) (nets_of h v)) → None ≡ best_block h l p v k
dearer_stays h k l p v good whole vertex less = by (best_block h l p v k) refl
  where
    none_gains : (s t : ℕ) → s ≤ t → pos 0 <ℤ (pos s -ℤ pos t) → ⊥
    none_gains s t z g = absurd (omega (arith, ints))

    by : (o : Option ℕ) → best_block h l p v k ≡ o → None ≡ o
    by None e = refl
    by (Some b) e =
        let best = best_block_is h k l p v b vertex e in
        let other = best.allowed.other in
        absurd (none_gains (total (net_saved h p b) (nets_of h v)) (total (net_lost h p (block_of p v)) (nets_of h v)) (less b other)
        (subst (λ (z : ℤ). pos 0 <ℤ z) (gain_counted h k p v b good whole vertex best.allowed.block other) best.gains))

-- blocks past the last one are saved nothing
pub saved_past : (h : Hyper) (k : ℕ) (p starts words : List ℕ) (b v : ℕ) → IsTold h k p starts words → k ≤ b → total (net_saved h p b) (nets_of h v) ≡ 0
saved_past h k p starts words b v told past =
    total-zero (net_saved h p b) (nets_of h v)
    (λ i d l.
    saved_none h p b (get_or (nets_of h v) i d)
    (none_past k p (net_of h (get_or (nets_of h v) i d)).pins b
    (subst (λ n. All (λ u. u < n) (net_of h (get_or (nets_of h v) i d)).pins) (sym told.parted.partition.vertices)
    (told.parted.sound.nets (get_or (nets_of h v) i d) (record { weight = 0; pins = [] }) (nets_of-below h v i d l)).pins)
    told.parted.partition.blocks past))

module _ (h : Hyper) (k l : ℕ) (p starts words loads sums : List ℕ) (v loss : ℕ) (told : IsTold h k p starts words) (loaded : IsLoaded h k p loads)
    (vertex : v < vertex_count h) (free : IsFree h v) (lost : loss ≡ total (net_lost h p (block_of p v)) (nets_of h v))
    (saved : (b : ℕ) → b ≢ block_of p v →
    slice_index sums b ≡ total (net_saved h p b) (nets_of h v)) where
  pub scored_gain : (b : ℕ) → b < k → b ≢ block_of p v → gain h p v b ≡ pos (slice_index sums b) -ℤ pos loss
  scored_gain b low other =
      gain_counted h k p v b told.parted.sound told.parted.partition vertex low other
      ∙ ap (λ (x : ℕ). pos x -ℤ pos (total (net_lost h p (block_of p v)) (nets_of h v))) (sym (saved b other))
      ∙ ap (λ (x : ℕ). pos (slice_index sums b) -ℤ pos x) (sym lost)

  allowed_target : (b : ℕ) → IsAllowed h k l p v b → IsTarget loads l (weight_of h v) (block_of p v) b
  allowed_target b a = record {
    block = let n = loaded.all in let m = a.block in omega arith;
    other = a.other;
    room = let e = loaded.each b a.block in let r = a.room in omega arith;
  }

  target_low : (b : ℕ) → IsTarget loads l (weight_of h v) (block_of p v) b → b < k
  target_low b t = let n = loaded.all in let m = t.block in omega arith

  target_allowed : (b : ℕ) → IsTarget loads l (weight_of h v) (block_of p v) b → IsAllowed h k l p v b
  target_allowed b t = record {
    vertex = vertex;
    free = free;
    block = target_low b t;
    other = t.other;
    room = let e = loaded.each b (target_low b t) in let r = t.room in omega arith;
  }

  gain_above : (s : ℕ) → pos 0 <ℤ (pos s -ℤ pos loss) → loss < s
  gain_above s g = omega (arith, ints)

  above_gain : (s : ℕ) → loss < s → pos 0 <ℤ (pos s -ℤ pos loss)
  above_gain s g = omega (arith, ints)

  pub top_best : (best : Option ℕ) → IsTop sums loads l (weight_of h v) (block_of p v) loss best → best ≡ best_block h l p v k
  top_best None top = by (best_block h l p v k) refl
    where
      by : (o : Option ℕ) → best_block h l p v k ≡ o → None ≡ o
      by None e = refl
      by (Some a) e =
          let best = best_block_is h k l p v a vertex e in
          let some = gain_above (slice_index sums a) (subst (λ (z : ℤ). pos 0 <ℤ z) (scored_gain a best.allowed.block best.allowed.other) best.gains) in
          let none = top a (allowed_target a best.allowed) in
          absurd (omega arith)
  top_best (Some a) top =
      sym
      (only_best_block h k l p v a
      (record {
        allowed = target_allowed a top.0;
        gains = subst (λ (z : ℤ). pos 0 <ℤ z) (sym (scored_gain a (target_low a top.0) top.0.other)) (above_gain (slice_index sums a) top.1);
        highest = λ c t.
            let x = scored_gain a (target_low a top.0) top.0.other in
            let y = scored_gain c t.block t.other in
            let n = top.2 c (allowed_target c t) in
            subst (λ (z : ℤ). z ≤ℤ gain h p v a) (sym y) (subst (λ (z : ℤ). (pos (slice_index sums c) -ℤ pos loss) ≤ℤ z) (sym x)
            (less (slice_index sums c) (slice_index sums a) n));
        lowest = λ c m t.
            let x = scored_gain a (target_low a top.0) top.0.other in
            let y = scored_gain c t.block t.other in
            let n = top.3 c m (allowed_target c t) in
            subst (λ (z : ℤ). z <ℤ gain h p v a) (sym y) (subst (λ (z : ℤ). (pos (slice_index sums c) -ℤ pos loss) <ℤ z) (sym x)
            (below (slice_index sums c) (slice_index sums a) n));
      }))
    where
      less : (s t : ℕ) → s ≤ t → (pos s -ℤ pos loss) ≤ℤ (pos t -ℤ pos loss)
      less s t n = omega (arith, ints)

      below : (s t : ℕ) → s < t → (pos s -ℤ pos loss) <ℤ (pos t -ℤ pos loss)
      below s t n = omega (arith, ints)

-- ---- settled

-- no vertex from one up to below another has a best block, so none of their moves helps
pub settled_between : (h : Hyper) (k l : ℕ) (p : List ℕ) (first end : ℕ) → ((v : ℕ) → first ≤ v → v < end → best_block h l p v k ≡ None) →
    IsSettledWithin h k l p first end
settled_between h k l p first end none v b low high a =
    none_gains (cost h p) (cost h (moved p v b)) (no_best_block h k l p v b (none v low high) a)
  where
    none_gains : (x y : ℕ) → (pos x -ℤ pos y) ≤ℤ pos 0 → x ≤ y
    none_gains x y g = omega (arith, ints)

-- a best block is one that helps
best_helps : (h : Hyper) (k l : ℕ) (p : List ℕ) (v b : ℕ) → v < vertex_count h → best_block h l p v k ≡ Some b →
    (IsAllowed h k l p v b → cost h p ≤ cost h (moved p v b)) → ⊥
best_helps h k l p v b vertex e stays =
    let best = best_block_is h k l p v b vertex e in
    some_gains (cost h p) (cost h (moved p v b)) best.gains (stays best.allowed)
  where
    some_gains : (x y : ℕ) → pos 0 <ℤ (pos x -ℤ pos y) → x ≤ y → ⊥
    some_gains x y g l = absurd (omega (arith, ints))

pub unsettled_from : (h : Hyper) (k l : ℕ) (p : List ℕ) (v b : ℕ) → v < vertex_count h → best_block h l p v k ≡ Some b → IsSettled h k l p → ⊥
unsettled_from h k l p v b vertex e settled = best_helps h k l p v b vertex e (settled v b)

-- ---- the block with its gain

pub map_first : (sums : List ℕ) (loss : ℕ) (best : Option ℕ) → option_map (λ (m : ℕ × ℕ). m.0) (option_map (λ (b : ℕ). (b, slice_index sums b - loss))
    best) ≡
    best
map_first sums loss None = refl
map_first sums loss (Some a) = refl

difference : (s loss : ℕ) → loss < s → pos (s - loss) ≡ pos s -ℤ pos loss
difference s loss h = omega (arith, ints)

module _ (h : Hyper) (k l : ℕ) (p starts words loads sums : List ℕ) (v loss : ℕ) (told : IsTold h k p starts words) (loaded : IsLoaded h k p loads)
    (vertex : v < vertex_count h) (free : IsFree h v) (lost : loss ≡ total (net_lost h p (block_of p v)) (nets_of h v))
    (saved : (b : ℕ) → b ≢ block_of p v →
    slice_index sums b ≡ total (net_saved h p b) (nets_of h v)) where
  pub found_gain : (best : Option ℕ) → IsTop sums loads l (weight_of h v) (block_of p v) loss best →
      IfSome (option_map (λ (b : ℕ). (b, slice_index sums b - loss)) best) (λ (m : ℕ × ℕ). pos m.1 ≡ gain h p v m.0)
  found_gain None top = tt
  found_gain (Some a) top =
      difference (slice_index sums a) loss top.1
      ∙ sym (scored_gain h k l p starts words loads sums v loss told loaded vertex free lost saved a (let n = loaded.all in let m = top.0.block in
      omega arith)
      top.0.other)

  pub found_bound : (best : Option ℕ) → IsTop sums loads l (weight_of h v) (block_of p v) loss best →
      IfSome (option_map (λ (b : ℕ). (b, slice_index sums b - loss)) best) (λ (m : ℕ × ℕ). m.1 < 2 ^ 55)
  found_bound None top = tt
  found_bound (Some a) top = let s = saved a top.0.other in let b = saved_bound h p a v told.parted.bounds in omega arith

-- a load has room for a weight in its word
pub load_fits : (h : Hyper) (k : ℕ) (p loads : List ℕ) (w : ℕ) → IsWithinLimits h → IsLoaded h k p loads → w < 2 ^ 54 → All (λ x. x + w < 2 ^ 64) loads
load_fits h k p loads w bounds loaded small i d l =
    let at = get_or_default loads i d 0 l in
    let known = loaded.each i (let n = loaded.all in omega arith) in
    let part = weight_in-le h.weights p i in
    let whole = bounds.weight in
    omega arith

pub best_below : (h : Hyper) (k l : ℕ) (p : List ℕ) (v b : ℕ) → v < vertex_count h → best_block h l p v k ≡ Some b → b < k
best_below h k l p v b vertex e = (best_block_is h k l p v b vertex e).allowed.block

pub best_other : (h : Hyper) (k l : ℕ) (p : List ℕ) (v b : ℕ) → v < vertex_count h → best_block h l p v k ≡ Some b → b ≢ block_of p v
best_other h k l p v b vertex e = (best_block_is h k l p v b vertex e).allowed.other

-- the best block, as it was found in what a partition lends
pub lent_best :
    (h lent : Hyper) (k k' l l' : ℕ) (p p' : List ℕ) (v b g : ℕ) (found : Option (ℕ × ℕ)) → lent ≡ h → k' ≡ k → l' ≡ l → p' ≡ p → found ≡ Some (b, g)
    → option_map (λ (m : ℕ × ℕ). m.0) found ≡ best_block lent l' p' v k' → best_block h l p v k ≡ Some b
lent_best h lent k k' l l' p p' v b g found eh ek el ep is best =
    sym
    (ap (option_map (λ (m : ℕ × ℕ). m.0)) (sym is) ∙ best ∙ ap (λ (x : Hyper). best_block x l' p' v k') eh ∙ ap (λ (n : ℕ). best_block h n p' v k') el
    ∙ ap (λ (q : List ℕ). best_block h l q v k') ep ∙ ap (best_block h l p v) ek)

pub unsettled_some : (h : Hyper) (k l : ℕ) (p : List ℕ) (first end v : ℕ) → v < vertex_count h → first ≤ v → v < end → (r : Option (ℕ × ℕ)) →
    is_some r ≡ true → option_map (λ (m : ℕ × ℕ). m.0) r ≡ best_block h l p v k → IsSettledWithin h k l p first end → ⊥
unsettled_some h k l p first end v vertex low high None some e settled = absurd (true≢false (sym some))
unsettled_some h k l p first end v vertex low high (Some m) some e settled = best_helps h k l p v m.0 vertex (sym e) (λ a. settled v m.0 low high a)
