-- Laws of one net while moves are replayed: what it costs, what it saves, and the loop over the moves of its pins.
use mir.Val.{to_z, of_z}
use mir.Syntax.{w64}
use Rattle.std.proofs.Common.{◌≤ℤ◌, ◌≡◌, ℕ, zero, suc, ◌+◌, ◌-◌, ◌*◌, ◌^◌, ◌<◌, ◌≤◌, ◌⊎◌, inl, inr, List, [], ◌∷◌, map, take, length}
use Rattle.std.proofs.Common.{get_or, set, All, Contains, slice_set, ℤ, pos, ◌+ℤ◌, ◌-ℤ◌, refl, sym, ap, ap₂, ◌∙◌, subst, arith, add-one}
use Rattle.std.proofs.Common.{nat_eq, get_or-set_same, get_or-set_other, length-take, length-set}
use Rattle.std.specs.Set.{distinct_count}
use Rattle.std.proofs.Math.Nat.{mul-le-mul_left}
use Rattle.std.proofs.lemmas.Int.{ints}
use Rattle.std.proofs.lemmas.List.{get_or-take, get_or_default}
use Rattle.std.proofs.lemmas.List.Elements.{All-contains, Contains-get_or}
use Rattle.std.proofs.lemmas.List.Kept.{AllPairs-from_increasing}
use Rattle.std.proofs.lemmas.Bool.{cases_eq, cases_lt}
use Rattle.hg_defs.specs.declared.moves.Move.{Move}
use Rattle.hg_defs.specs.Hypergraph.{Hyper, net_count, net_of}
use Rattle.hg_defs.specs.Partition.{block_of}
use Rattle.hg_defs.specs.Pins.{pins_in}
use Rattle.hg_defs.specs.Cost.{connectivity, price}
use Rattle.hg_defs.specs.Replay.{replay, replay_first}
use Rattle.hg_defs.proofs.ReplayLaws.{replay_first_more, length-replay}
use Rattle.hg_defs.proofs.DistinctLaws.{pins_in-times, times_of, pins_in-le, blocks_of_pins, Contains-from_times, Contains-from_map}
use Rattle.hg_defs.proofs.MoveLaws.{net_is}
use Rattle.rollback_prefix.specs.Gains.{IsReplay, saved_by_net}
use Rattle.rollback_prefix.specs.Pins.{AreZeros, ArePinMoves, CountsPins, counted, counts_after}
use Rattle.rollback_prefix.proofs.PinLaws.{counts_shifted, counted_is, pin_counted}
use Rattle.rollback_prefix.proofs.StepLaws.{no_move, still_there, replay_partition, lands}

-- up to where the moves of a net were replayed, when so many of them were
abbrev pub reached : List ℕ → ℕ → ℕ
reached places zero = 0
reached places (suc a) = suc (get_or places a 0)

map_same_on : (f g : ℕ → ℕ) (xs : List ℕ) → ((x : ℕ) → Contains xs x → f x ≡ g x) → map f xs ≡ map g xs
map_same_on f g [] h = refl
map_same_on f g (x ∷ xs) h = ap₂ (λ y ys. y ∷ ys) (h x (0, omega arith, refl)) (map_same_on f g xs (λ y c. h y (suc c.0, let l = c.1 in omega arith, c.2)))

-- a vertex that the pins don't hold moves
pub quiet_one : (p pins : List ℕ) (moves : List Move) (i : ℕ) → i < length moves → (Contains pins (get_or moves i no_move).vertex → ⊥)
    → map (block_of (replay_first p moves (i + 1))) pins ≡ map (block_of (replay_first p moves i)) pins
quiet_one p pins moves i l q =
    map_same_on (block_of (replay_first p moves (i + 1))) (block_of (replay_first p moves i)) pins
    (λ u c.
    ap (λ x. block_of x u) (replay_first_more p moves i no_move l)
    ∙ get_or-set_other (replay_first p moves i) (get_or moves i no_move).vertex u (get_or moves i no_move).to 0 (λ f. q (subst (Contains pins) f c)))

pub quiet : (p pins : List ℕ) (moves : List Move) (i n : ℕ) → i + n ≤ length moves →
    ((j : ℕ) → i ≤ j → j < i + n → Contains pins (get_or moves j no_move).vertex → ⊥)
    → map (block_of (replay_first p moves (i + n))) pins ≡ map (block_of (replay_first p moves i)) pins
quiet p pins moves i zero l q = let s : i + 0 ≡ i = omega arith in ap (λ x. map (block_of (replay_first p moves x)) pins) s
quiet p pins moves i (suc n) l q =
    let s : i + suc n ≡ i + n + 1 = omega arith in
    ap (λ x. map (block_of (replay_first p moves x)) pins) s
    ∙ quiet_one p pins moves (i + n) (omega arith) (q (i + n) (omega arith) (omega arith))
    ∙ quiet p pins moves i n (omega arith) (λ j a b. q j a (omega arith))

pub counts_quiet : (k : ℕ) (p q pins counts : List ℕ) → map (block_of q) pins ≡ map (block_of p) pins → CountsPins k p pins counts →
    CountsPins k q pins counts
counts_quiet k p q pins counts e c = record {
  blocks = c.blocks;
  each = λ b l. c.each b l ∙ sym (pins_in-times p pins b) ∙ ap (λ xs. times_of xs b) (sym e) ∙ pins_in-times q pins b;
}

zero_gain : (a b : ℕ) → a ≡ b → pos a -ℤ pos b ≡ pos 0
zero_gain a b e = omega (arith, ints)

plus_zero : (a b : ℤ) → b ≡ pos 0 → a ≡ a +ℤ b
plus_zero a b e = omega (arith, ints)

-- a net saves nothing by a move of another vertex
pub quiet_saves : (h : Hyper) (p : List ℕ) (moves : List Move) (e i : ℕ) → i < length moves → (Contains (net_of h e).pins (get_or moves i no_move).vertex →
    ⊥)
    → saved_by_net h p moves e i ≡ pos 0
quiet_saves h p moves e i l q =
    let same = quiet_one p (net_of h e).pins moves i l q in
    zero_gain
    ((net_of h e).weight * price h.objective (connectivity (replay_first p moves i) (net_of h e).pins))
    ((net_of h e).weight * price h.objective (connectivity (replay_first p moves (i + 1)) (net_of h e).pins))
    (ap (λ (xs : List ℕ). (net_of h e).weight * price h.objective (distinct_count nat_eq xs)) (sym same))

-- the state of the loop over the moves of the net's pins
pub record IsReplaying (h : Hyper) (k : ℕ) (p : List ℕ) (moves : List Move) (e : ℕ) (places : List ℕ) (a : ℕ) (counts : List ℕ) (touched : ℕ)
    (old gains : List ℤ) : Type 0 where
  pub counts_are : CountsPins k (replay_first p moves (reached places a)) (net_of h e).pins counts
  pub touched_is : touched ≡ counted counts
  pub size : length gains ≡ length moves
  pub done : (i : ℕ) → i < reached places a → get_or gains i (pos 0) ≡ get_or old i (pos 0) +ℤ saved_by_net h p moves e i
  pub rest : (i : ℕ) → reached places a ≤ i → get_or gains i (pos 0) ≡ get_or old i (pos 0)

reached-le : (places : List ℕ) (a i : ℕ) → a < length places → ((b : ℕ) → b < a → get_or places b 0 < i) → reached places a ≤ i
reached-le places zero i l h = omega arith
reached-le places (suc b) i l h = let x = h b (omega arith) in omega arith

-- between the moves of the pins no pin moves
pub gap : (h : Hyper) (moves : List Move) (pins places : List ℕ) (a i : ℕ) → ArePinMoves pins moves places → a ≤ length places → reached places a ≤ i →
    i < length moves
    → ((b : ℕ) → a ≤ b → b < length places → i < get_or places b 0) → Contains pins (get_or moves i no_move).vertex → ⊥
gap h moves pins places a i at whole low here later c =
    let r = at.all i no_move here c in
    let spot : get_or places r.0 0 ≡ i = get_or_default places r.0 0 i r.1 ∙ r.2 in
    by r.0 r.1 spot (cases_lt r.0 a) low later
  where
    by : (b : ℕ) → b < length places → get_or places b 0 ≡ i → (b < a) ⊎ (a ≤ b) → reached places a ≤ i →
        ((x : ℕ) → a ≤ x → x < length places → i < get_or places x 0) → ⊥
    by b l s (inr m) low later = let x = later b m l in omega arith
    by b l s (inl m) low later = before a m whole low
      where
        before : (t : ℕ) → b < t → t ≤ length places → reached places t ≤ i → ⊥
        before zero n o w = omega arith
        before (suc t) n o w = again (cases_eq b t)
          where
            again : (b ≡ t) ⊎ (b ≡ t → ⊥) → ⊥
            again (inl q) = let x = ap (λ y. get_or places y 0) q in omega arith
            again (inr q) = let x = AllPairs-from_increasing places at.rising b t 0 (omega arith) (omega arith) in omega arith

module _ (h : Hyper) (k : ℕ) (p : List ℕ) (moves : List Move) (e : ℕ) (good : IsReplay h k p moves) (net : e < net_count h) (places : List ℕ)
    (at : ArePinMoves (net_of h e).pins moves places) where
  inside : (i : ℕ) → All (λ v. v < length (replay_first p moves i)) (net_of h e).pins
  inside i = subst (λ n. All (λ v. v < n) (net_of h e).pins) (sym (length-replay p (take i moves) ∙ good.partition.vertices))
      (net_is h e good.sound net).pins

  pub blocks_low : (i : ℕ) → All (λ v. block_of (replay_first p moves i) v < k) (net_of h e).pins
  blocks_low i = blocks_of_pins k (replay_first p moves i) (net_of h e).pins (replay_partition h k p moves i good.partition good.steps).blocks (inside i)

  -- the loop begins
  pub replaying_first : (counts : List ℕ) (touched : ℕ) (old : List ℤ) → length old ≡ length moves → CountsPins k p (net_of h e).pins counts →
      touched ≡ counted counts
      → IsReplaying h k p moves e places 0 counts touched old old
  replaying_first counts touched old s c t = record {
    counts_are = c;
    touched_is = t;
    size = s;
    done = λ i l. absurd (omega arith);
    rest = λ i l. refl;
  }

  low_enough : (a : ℕ) → a < length places → reached places a ≤ get_or places a 0
  low_enough a l = reached-le places a (get_or places a 0) l (λ b m. AllPairs-from_increasing places at.rising b a 0 m l)

  later : (a j : ℕ) → a < length places → j < get_or places a 0 → (b : ℕ) → a ≤ b → b < length places → j < get_or places b 0
  later a j l m b x y = by (cases_eq a b)
    where
      by : (a ≡ b) ⊎ (a ≡ b → ⊥) → j < get_or places b 0
      by (inl q) = let z = ap (λ t. get_or places t 0) q in omega arith
      by (inr q) = let z = AllPairs-from_increasing places at.rising a b 0 (omega arith) y in omega arith

  -- the counts as the next move of a pin finds them
  pub counts_found : (a : ℕ) (counts : List ℕ) (touched : ℕ) (old gains : List ℤ) → a < length places → IsReplaying h k p moves e places a counts touched
      old
      gains
      → CountsPins k (replay_first p moves (get_or places a 0)) (net_of h e).pins counts
  counts_found a counts touched old gains l r =
      let low : reached places a ≤ get_or places a 0 = low_enough a l in
      let sum : reached places a + (get_or places a 0 - reached places a) ≡ get_or places a 0 = omega arith in
      let here = at.within a 0 l in
      counts_quiet k (replay_first p moves (reached places a)) (replay_first p moves (get_or places a 0)) (net_of h e).pins counts
      (subst (λ x. map (block_of (replay_first p moves x)) (net_of h e).pins ≡ map (block_of (replay_first p moves (reached places a))) (net_of h e).pins)
      sum
      (quiet p (net_of h e).pins moves (reached places a) (get_or places a 0 - reached places a) (omega arith)
      (λ j g m. gap h moves (net_of h e).pins places a j at (omega arith) g (omega arith) (later a j l (omega arith)))))
      r.counts_are

  -- its gain is as it was
  pub still_old : (a : ℕ) (counts : List ℕ) (touched : ℕ) (old gains : List ℤ) → a < length places → IsReplaying h k p moves e places a counts touched old
      gains
      → get_or gains (get_or places a 0) (pos 0) ≡ get_or old (get_or places a 0) (pos 0)
  still_old a counts touched old gains l r = r.rest (get_or places a 0) (low_enough a l)

  -- the pin that moves next
  pub pin_here : (a : ℕ) → a < length places → Contains (net_of h e).pins (get_or moves (get_or places a 0) no_move).vertex
  pin_here a l = at.each (get_or places a 0) no_move (Contains-get_or places a 0 l)

  pub from_here : (a : ℕ) → a < length places → block_of (replay_first p moves (get_or places a 0)) (get_or moves (get_or places a 0) no_move).vertex ≡
      (get_or moves (get_or places a 0) no_move).from
  from_here a l =
      still_there p moves (get_or places a 0) no_move (at.within a 0 l) good.steps.once
      ∙ sym (good.steps.each (get_or places a 0) no_move (at.within a 0 l)).from

  pub from_low : (a : ℕ) → a < length places → (get_or moves (get_or places a 0) no_move).from < k
  from_low a l = subst (λ x. x < k) (from_here a l) (All-contains (λ v. block_of (replay_first p moves (get_or places a 0)) v < k) (net_of h e).pins
      (get_or moves (get_or places a 0) no_move).vertex (blocks_low (get_or places a 0)) (pin_here a l))

  -- its block holds a pin
  pub pin_left : (a : ℕ) (counts : List ℕ) (touched : ℕ) (old gains : List ℤ) → a < length places → IsReplaying h k p moves e places a counts touched old
      gains
      → 0 < get_or counts (get_or moves (get_or places a 0) no_move).from 0
  pin_left a counts touched old gains l r =
      let c = (counts_found a counts touched old gains l r).each (get_or moves (get_or places a 0) no_move).from (from_low a l) in
      let n = subst (λ x. 0 < pins_in (replay_first p moves (get_or places a 0)) (net_of h e).pins x) (from_here a l)
      (pin_counted (replay_first p moves (get_or places a 0)) (net_of h e).pins (get_or moves (get_or places a 0) no_move).vertex (pin_here a l)) in
      omega arith

  pub pin_room : (a : ℕ) (counts : List ℕ) (touched : ℕ) (old gains : List ℤ) (b : ℕ) → a < length places → b < k → IsReplaying h k p moves e places a
      counts
      touched old gains
      → get_or counts b 0 ≤ length (net_of h e).pins
  pin_room a counts touched old gains b l low r =
      let c = (counts_found a counts touched old gains l r).each b low in
      let n = pins_in-le (replay_first p moves (get_or places a 0)) (net_of h e).pins b in
      omega arith

  -- one more move of a pin
  pub replaying_more : (a : ℕ) (counts next : List ℕ) (touched later_touched : ℕ) (old gains : List ℤ) (g : ℤ) → a < length places →
      IsReplaying h k p moves e
      places a counts touched old gains
      → next ≡ counts_after counts (get_or moves (get_or places a 0) no_move).from (get_or moves (get_or places a 0) no_move).to →
      later_touched ≡ counted next
      → g ≡ get_or gains (get_or places a 0) (pos 0) +ℤ (pos ((net_of h e).weight * price h.objective touched) -ℤ pos
      ((net_of h e).weight * price h.objective later_touched))
      → IsReplaying h k p moves e places (suc a) next later_touched old (set gains (get_or places a 0) g)
  replaying_more a counts next touched later_touched old gains g l r n t v = record {
    counts_are = found;
    touched_is = t;
    size = length-set gains (get_or places a 0) g ∙ r.size;
    done = λ x m. done x m (cases_eq x (get_or places a 0)) (cases_lt x (reached places a));
    rest = λ x m. get_or-set_other gains (get_or places a 0) x g (pos 0) (omega arith) ∙ r.rest x (let w = low_enough a l in omega arith);
  }
    where
      i : ℕ
      i = get_or places a 0

      found : CountsPins k (replay_first p moves (suc (get_or places a 0))) (net_of h e).pins next
      found =
          let here = at.within a 0 l in
          let m = get_or moves (get_or places a 0) no_move in
          let step : replay_first p moves (suc (get_or places a 0)) ≡ slice_set (replay_first p moves (get_or places a 0)) m.vertex m.to =
          ap (replay_first p moves) (sym (add-one (get_or places a 0))) ∙ replay_first_more p moves (get_or places a 0) no_move here in
          let shifted = counts_shifted k (replay_first p moves (get_or places a 0)) (net_of h e).pins counts m.vertex m.to
          (All-contains (λ v. v < length (replay_first p moves (get_or places a 0))) (net_of h e).pins m.vertex (inside (get_or places a 0)) (pin_here a l))
          (net_is h e good.sound net).rising (pin_here a l)
          (subst (λ x. x < k) (sym (from_here a l)) (from_low a l)) (good.steps.each (get_or places a 0) no_move here).to
          (counts_found a counts touched old gains l r) in
          subst (λ (q : List ℕ). CountsPins k q (net_of h e).pins next) (sym step)
          (subst (λ (x : List ℕ). CountsPins k (slice_set (replay_first p moves (get_or places a 0)) m.vertex m.to) (net_of h e).pins x)
          (ap (λ x. counts_after counts x m.to) (from_here a l) ∙ sym n) shifted)

      value : g ≡ get_or old (get_or places a 0) (pos 0) +ℤ saved_by_net h p moves e (get_or places a 0)
      value =
          let before = r.touched_is ∙ counted_is k (replay_first p moves (get_or places a 0)) (net_of h e).pins counts (blocks_low (get_or places a 0))
          (counts_found a counts touched old gains l r) in
          let after = t ∙ counted_is k (replay_first p moves (suc (get_or places a 0))) (net_of h e).pins next (blocks_low (suc (get_or places a 0)))
          found ∙
          ap (λ x. connectivity (replay_first p moves x) (net_of h e).pins) (sym (add-one (get_or places a 0))) in
          v
          ∙ ap (λ x. x +ℤ (pos ((net_of h e).weight * price h.objective touched) -ℤ pos ((net_of h e).weight * price h.objective later_touched)))
          (r.rest (get_or places a 0) (low_enough a l))
          ∙ ap (λ x. get_or old (get_or places a 0) (pos 0) +ℤ (pos ((net_of h e).weight * price h.objective x) -ℤ pos
          ((net_of h e).weight * price h.objective later_touched))) before
          ∙ ap (λ x. get_or old (get_or places a 0) (pos 0) +ℤ
          (pos ((net_of h e).weight * price h.objective (connectivity (replay_first p moves (get_or places a 0)) (net_of h e).pins)) -ℤ pos
          ((net_of h e).weight * price h.objective x))) after

      done : (x : ℕ) → x < suc (get_or places a 0) → (x ≡ get_or places a 0) ⊎ (x ≡ get_or places a 0 → ⊥) → (x < reached places a) ⊎ (reached places a ≤ x)
          → get_or (set gains (get_or places a 0) g) x (pos 0) ≡ get_or old x (pos 0) +ℤ saved_by_net h p moves e x
      done x m (inl q) c =
          subst (λ y. get_or (set gains (get_or places a 0) g) y (pos 0) ≡ get_or old y (pos 0) +ℤ saved_by_net h p moves e y) (sym q)
          (get_or-set_same gains (get_or places a 0) g (pos 0) (let w = at.within a 0 l in let u = r.size in omega arith) ∙ value)
      done x m (inr q) (inl c) = get_or-set_other gains (get_or places a 0) x g (pos 0) q ∙ r.done x c
      done x m (inr q) (inr c) =
          let w = at.within a 0 l in
          let here : x < length moves = omega arith in
          get_or-set_other gains (get_or places a 0) x g (pos 0) q
          ∙ r.rest x c
          ∙ plus_zero (get_or old x (pos 0)) (saved_by_net h p moves e x)
          (quiet_saves h p moves e x here (gap h moves (net_of h e).pins places a x at (omega arith) c here (later a x l (omega arith))))

  pub replaying_next : (a : ℕ) (counts next : List ℕ) (touched later_touched : ℕ) (old gains : List ℤ) (g : ℤ) → a < length places →
      IsReplaying h k p moves e
      places a counts touched old gains
      → next ≡ counts_after counts (get_or moves (get_or places a 0) no_move).from (get_or moves (get_or places a 0) no_move).to →
      later_touched ≡ counted next
      → g ≡ get_or gains (get_or places a 0) (pos 0) +ℤ (pos ((net_of h e).weight * price h.objective touched) -ℤ pos
      ((net_of h e).weight * price h.objective later_touched))
      → IsReplaying h k p moves e places (a + 1) next later_touched old (set gains (get_or places a 0) g)
  replaying_next a counts next touched later_touched old gains g l r n t v =
      subst (λ x. IsReplaying h k p moves e places x next later_touched old (set gains (get_or places a 0) g)) (sym (add-one a))
      (replaying_more a counts next touched later_touched old gains g l r n t v)

  -- after all of them
  pub replaying_last : (a : ℕ) (counts : List ℕ) (touched : ℕ) (old gains : List ℤ) → length places ≤ a → a ≤ length places → IsReplaying h k p moves e
      places
      a counts touched old gains
      → (x : ℕ) → x < length moves → get_or gains x (pos 0) ≡ get_or old x (pos 0) +ℤ saved_by_net h p moves e x
  replaying_last a counts touched old gains l m r x here = by (cases_lt x (reached places a))
    where
      by : (x < reached places a) ⊎ (reached places a ≤ x) → get_or gains x (pos 0) ≡ get_or old x (pos 0) +ℤ saved_by_net h p moves e x
      by (inl c) = r.done x c
      by (inr c) = r.rest x c ∙ plus_zero (get_or old x (pos 0)) (saved_by_net h p moves e x)
          (quiet_saves h p moves e x here (gap h moves (net_of h e).pins places a x at m c here (λ b u w. absurd (omega arith))))

  -- no block is counted any more
  pub all_cleared : (a : ℕ) (counts some none : List ℕ) (touched : ℕ) (old gains : List ℤ) → IsReplaying h k p moves e places a counts touched old gains →
      length none ≡ k
      → ((i : ℕ) → i < length (net_of h e).pins → get_or some (block_of p (get_or (net_of h e).pins i 0)) 0 ≡ 0) →
      ((b : ℕ) → get_or some b 0 ≤ get_or counts b 0)
      → ((i : ℕ) (d : Move) → i < length places → get_or none (get_or moves (get_or places i 0) d).to 0 ≡ 0) → ((b : ℕ) → get_or none b 0 ≤ get_or some b 0)
      → AreZeros none
  all_cleared a counts some none touched old gains r long first less targets fewer b l = by (cases_eq (get_or counts b 0) 0)
    where
      low : b < k
      low = omega arith

      by : (get_or counts b 0 ≡ 0) ⊎ (get_or counts b 0 ≡ 0 → ⊥) → get_or none b 0 ≡ 0
      by (inl z) = let x = less b in let y = fewer b in omega arith
      by (inr z) =
          let is = r.counts_are.each b low in
          let q = replay_first p moves (reached places a) in
          let times = pins_in-times q (net_of h e).pins b in
          let c = Contains-from_map (block_of q) (net_of h e).pins b (Contains-from_times (map (block_of q) (net_of h e).pins) b (omega arith)) in
          pin c.0 c.1 c.2 (lands p (take (reached places a) moves) c.0 (All-contains (λ v. v < length p) (net_of h e).pins c.0 (inside 0) c.1))
        where
          pin : (v : ℕ) → Contains (net_of h e).pins v → block_of (replay_first p moves (reached places a)) v ≡ b
              → (block_of (replay p (take (reached places a) moves)) v ≡ block_of p v) ⊎ ((i : ℕ) × (i < length (take (reached places a) moves)) ×
              ((get_or (take (reached places a) moves) i no_move).vertex ≡ v) × (block_of (replay p (take (reached places a) moves)) v ≡
              (get_or (take (reached places a) moves) i no_move).to))
              → get_or none b 0 ≡ 0
          pin v c f (inl s) =
              let x = first c.0 c.1 in
              let y : block_of p (get_or (net_of h e).pins c.0 0) ≡ b = ap (block_of p) (get_or_default (net_of h e).pins c.0 0 v c.1 ∙ c.2) ∙ sym s ∙ f in
              let z = ap (λ t. get_or some t 0) y in
              let w = fewer b in
              omega arith
          pin v c f (inr s) =
              let cut = length-take (reached places a) moves in
              let i_low : s.0 < reached places a = let m = s.1 in omega arith in
              let i_here : s.0 < length moves = let m = s.1 in omega arith in
              let same = get_or-take (reached places a) moves s.0 no_move i_low in
              let vertex : (get_or moves s.0 no_move).vertex ≡ v = ap (λ (x : Move). x.vertex) (sym same) ∙ s.2 in
              let place = at.all s.0 no_move i_here (subst (Contains (net_of h e).pins) (sym vertex) c) in
              let spot : get_or places place.0 0 ≡ s.0 = get_or_default places place.0 0 s.0 place.1 ∙ place.2 in
              let goes : (get_or moves (get_or places place.0 0) no_move).to ≡ b = ap (λ j. (get_or moves j no_move).to) spot ∙
              ap (λ (x : Move). x.to) (sym same) ∙ sym s.3 ∙ f in
              sym (ap (λ t. get_or none t 0) goes) ∙ targets place.0 no_move place.1

-- ---- numbers

pub product_small : (w x t n : ℕ) → w < 2 ^ 54 → x ≤ t → t ≤ n → n ≤ 256 → w * x < 2 ^ 62
product_small w x t n a l m o =
    let q : x ≤ 256 = omega arith in
    let r = mul-le-mul_left w q in
    omega arith

pub signed_step : (g : ℤ) (x y : ℕ) → ((pos 0 -ℤ pos (2 ^ 60)) ≤ℤ g) → (g ≤ℤ pos (2 ^ 60)) → x < 2 ^ 62 → y < 2 ^ 62
    → to_z w64 (of_z w64 (to_z w64 (of_z w64 g) +ℤ to_z w64 (of_z w64 (to_z w64 x -ℤ to_z w64 y)))) ≡ g +ℤ (pos x -ℤ pos y)
signed_step g x y a b c d = omega (arith, ints)
