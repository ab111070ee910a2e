-- Laws of loads: how many are past the limit, and what a move changes, also one that leaves its vertex where it is.
use Rattle.std.proofs.Common.{◌≡◌, ◌≢◌, ℕ, ◌+◌, ◌-◌, ◌^◌, ◌<◌, ◌≤◌, ◌⊎◌, inl, inr, Bool, true, false}
use Rattle.std.proofs.Common.{if◌then◌else◌, nat_lt, List, length, get_or, set, take}
use Rattle.std.proofs.Common.{drop, ℤ, pos, ◌+ℤ◌, ◌-ℤ◌, AllPairs, slice_set, refl, sym, ap, ◌∙◌, subst}
use Rattle.std.proofs.Common.{arith, length-set, get_or-set_same, get_or-set_other}
use Rattle.std.proofs.lemmas.List.{set-get_or, get_or_default, drop_more}
use Rattle.std.proofs.lemmas.List.Elements.{All-set}
use Rattle.std.proofs.lemmas.Bool.{cases_eq, ltb-true, ltb-false}
use Rattle.hg_defs.specs.declared.moves.Move.{Move}
use Rattle.hg_defs.specs.Hypergraph.{Hyper, IsWithinLimits, vertex_count, weight_of}
use Rattle.hg_defs.specs.Partition.{IsPartition, Fits, block_of, load}
use Rattle.hg_defs.specs.Replay.{undone}
use Rattle.hg_defs.proofs.SumLaws.{total_at-le, total-le, total-ones, total-set, total-zero, total-zero_each, weight_in-set_old, weight_in-le}
use Rattle.pin_plain.specs.Parted.{IsLoaded, loads_after}
use Rattle.pin_plain.proofs.LoadLaws.{weight_moved}
use mir.Val.{to_z, of_z}
use mir.Syntax.{w64}
use Rattle.std.proofs.lemmas.Int.{ints}
use Rattle.hg_defs.specs.Replay.{replay_first}
use Rattle.hg_defs.proofs.ReplayLaws.{replay_first_more, length-replay}
use Rattle.rollback_prefix.specs.Steps.{StartFrom}
use Rattle.rollback_prefix.proofs.StepLaws.{no_move, still_there}
use Rattle.rollback_prefix.specs.Loads.{overloaded}

-- ---- loads past the limit

abbrev past : ℕ → ℕ → ℕ
past limit x = if nat_lt limit x then 1 else 0

abbrev one_if : Bool → ℕ
one_if t = if t then 1 else 0

past-le : (limit x : ℕ) → past limit x ≤ 1
past-le limit x = by (nat_lt limit x)
  where
    by : (t : Bool) → (if t then 1 else 0) ≤ 1
    by true = omega arith
    by false = omega arith

pub overloaded-le : (limit : ℕ) (loads : List ℕ) → overloaded limit loads ≤ length loads
overloaded-le limit loads =
    let a = total-le (past limit) (λ x. 1) loads (λ k d l. past-le limit (get_or loads k d)) in
    let b = total-ones loads in
    omega arith

-- one load replaced
pub overloaded_set : (limit : ℕ) (loads : List ℕ) (b x : ℕ) → b < length loads
    → (past limit (get_or loads b 0) ≤ overloaded limit loads) × (overloaded limit (set loads b x) + past limit (get_or loads b 0) ≡ overloaded limit
    loads +
    past limit x)
overloaded_set limit loads b x l = (total_at-le (past limit) loads b 0 l, total-set (past limit) loads b x 0 l)

-- none is past the limit exactly where the partition fits
pub fits_from : (h : Hyper) (k limit : ℕ) (p loads : List ℕ) → IsLoaded h k p loads → overloaded limit loads ≡ 0 → Fits h k limit p
fits_from h k limit p loads loaded e b l =
    let zero_here = total-zero_each (past limit) loads e b 0 (let n = loaded.all in omega arith) in
    let is = loaded.each b l in
    by (nat_lt limit (get_or loads b 0)) refl zero_here is
  where
    by : (t : Bool) → nat_lt limit (get_or loads b 0) ≡ t → one_if t ≡ 0 → get_or loads b 0 ≡ load h p b → load h p b ≤ limit
    by true r z i = absurd (omega arith)
    by false r z i = let m = ltb-false limit (get_or loads b 0) r in omega arith

pub none_past : (h : Hyper) (k limit : ℕ) (p loads : List ℕ) → IsLoaded h k p loads → Fits h k limit p → overloaded limit loads ≡ 0
none_past h k limit p loads loaded f = total-zero (past limit) loads (λ b d l. each b d l)
  where
    each : (b d : ℕ) → b < length loads → past limit (get_or loads b d) ≡ 0
    each b d l =
        let low : b < k = let n = loaded.all in omega arith in
        let is = loaded.each b low in
        let fit = f b low in
        let same = get_or_default loads b d 0 l in
        by (nat_lt limit (get_or loads b d)) refl (omega arith)
      where
        by : (t : Bool) → nat_lt limit (get_or loads b d) ≡ t → get_or loads b d ≤ limit → one_if t ≡ 0
        by true r m = let n = ltb-true limit (get_or loads b d) r in absurd (omega arith)
        by false r m = refl

-- ---- what a move changes

-- a vertex weighs no more than its block
pub weight_held : (h : Hyper) (p : List ℕ) (v : ℕ) → length p ≡ vertex_count h → v < vertex_count h → weight_of h v ≤ load h p (block_of p v)
weight_held h p v long vertex =
    let law = weight_in-set_old h.weights p v (block_of p v + 1) (block_of p v) vertex (omega arith) refl (omega arith) in
    omega arith

pub loaded_moved : (h : Hyper) (k : ℕ) (p loads : List ℕ) (v a b : ℕ) → IsLoaded h k p loads → length p ≡ vertex_count h → v < vertex_count h →
    a ≡ block_of p v → a < k → b < k
    → IsLoaded h k (slice_set p v b) (loads_after loads a b (weight_of h v))
loaded_moved h k p loads v a b loaded long vertex is from to = by (cases_eq b (block_of p v))
  where
    by : (b ≡ block_of p v) ⊎ (b ≡ block_of p v → ⊥) → IsLoaded h k (slice_set p v b) (loads_after loads a b (weight_of h v))
    by (inr q) = subst (λ (x : ℕ). IsLoaded h k (slice_set p v b) (loads_after loads x b (weight_of h v))) (sym is)
        (weight_moved h k p loads v b loaded long vertex (subst (λ x. x < k) is from) to q)
    by (inl e) =
        subst (λ (q : List ℕ). IsLoaded h k q (loads_after loads a b (weight_of h v))) (sym same)
        (record {
          all = length-set (set loads a (get_or loads a 0 - weight_of h v)) b (get_or (set loads a (get_or loads a 0 - weight_of h v)) b 0 + weight_of h
              v) ∙
              length-set loads a (get_or loads a 0 - weight_of h v) ∙ loaded.all;
          each = λ c low. each c low (cases_eq c b);
        })
      where
        same : slice_set p v b ≡ p
        same = ap (slice_set p v) e ∙ set-get_or p v 0

        equal : a ≡ b
        equal = is ∙ sym e

        each : (c : ℕ) → c < k → (c ≡ b) ⊎ (c ≡ b → ⊥) → get_or (loads_after loads a b (weight_of h v)) c 0 ≡ load h p c
        each c low (inl f) =
            let n = loaded.all in
            let at = get_or-set_same (set loads a (get_or loads a 0 - weight_of h v)) b (get_or (set loads a (get_or loads a 0 - weight_of h v)) b 0 +
            weight_of h v) 0 (omega (arith, length-set loads a (get_or loads a 0 - weight_of h v))) in
            let was = get_or-set_same loads a (get_or loads a 0 - weight_of h v) 0 (omega arith) in
            let held = weight_held h p v long vertex in
            let known = loaded.each a from in
            let x = ap (λ y. load h p y) (sym is) in
            let y = ap (λ z. get_or (set loads a (get_or loads a 0 - weight_of h v)) z 0) equal in
            let z = ap (λ u. get_or (loads_after loads a b (weight_of h v)) u 0) f in
            let u = ap (load h p) (f ∙ sym equal) in
            omega arith
        each c low (inr q) =
            let at = get_or-set_other (set loads a (get_or loads a 0 - weight_of h v)) b c (get_or (set loads a (get_or loads a 0 - weight_of h v)) b 0 +
            weight_of h v) 0 q in
            let was = get_or-set_other loads a c (get_or loads a 0 - weight_of h v) 0 (λ r. q (r ∙ equal)) in
            let known = loaded.each c low in
            omega arith

-- a load is small
pub load_small : (h : Hyper) (k : ℕ) (p loads : List ℕ) (b : ℕ) → IsWithinLimits h → IsLoaded h k p loads → b < k → get_or loads b 0 < 2 ^ 54
load_small h k p loads b bounds loaded l =
    let is = loaded.each b l in
    let low = weight_in-le h.weights p b in
    let few = bounds.weight in
    omega arith

-- and so is one that a weight is added to after it was taken from another one
pub joined_small : (loads : List ℕ) (a b w : ℕ) → a < length loads → get_or loads a 0 < 2 ^ 54 → get_or loads b 0 < 2 ^ 54 → w < 2 ^ 54
    → get_or (set loads a (get_or loads a 0 - w)) b 0 + w < 2 ^ 64
joined_small loads a b w inside l m n = by (cases_eq b a)
  where
    by : (b ≡ a) ⊎ (b ≡ a → ⊥) → get_or (set loads a (get_or loads a 0 - w)) b 0 + w < 2 ^ 64
    by (inl e) = let s = get_or-set_same loads a (get_or loads a 0 - w) 0 inside in let t = ap (λ x. get_or (set loads a (get_or loads a 0 - w)) x 0) e in
        omega arith
    by (inr q) = let s = get_or-set_other loads a b (get_or loads a 0 - w) 0 q in omega arith

-- ---- moves undone one after the other

-- the partition and the loads after some of the moves were undone, where the later ones are yet to be
pub record IsUndoing (h : Hyper) (k : ℕ) (first : List ℕ) (moves : List Move) (i : ℕ) (p loads : List ℕ) : Type 0 where
  pub rest : undone p (drop i moves) ≡ undone first moves
  pub stands : (j : ℕ) (d : Move) → i ≤ j → j < length moves → (get_or moves j d).to ≡ block_of p (get_or moves j d).vertex
  pub partition : IsPartition h k p
  pub loaded : IsLoaded h k p loads

pub undoing_more : (h : Hyper) (k : ℕ) (first : List ℕ) (moves : List Move) (i : ℕ) (d : Move) (p loads : List ℕ) → i < length moves
    → AllPairs (λ a b. a.vertex ≢ b.vertex) moves → (get_or moves i d).vertex < vertex_count h → (get_or moves i d).from < k → (get_or moves i d).to < k →
    IsUndoing h k first moves i p loads
    → IsUndoing h k first moves (i + 1) (slice_set p (get_or moves i d).vertex (get_or moves i d).from)
    (loads_after loads (get_or moves i d).to (get_or moves i d).from (weight_of h (get_or moves i d).vertex))
undoing_more h k first moves i d p loads here once vertex from to u = record {
  rest = ap (undone p) (sym (drop_more moves i d here)) ∙ u.rest;
  stands = λ j e l m.
      u.stands j e (omega arith) m
      ∙ sym (get_or-set_other p (get_or moves i d).vertex (get_or moves j e).vertex (get_or moves i d).from 0
      (λ q. once i j e (omega arith) m (ap (λ (x : Move). x.vertex) (get_or_default moves i e d here) ∙ sym q)));
  partition = record {
    vertices = length-set p (get_or moves i d).vertex (get_or moves i d).from ∙ u.partition.vertices;
    blocks = All-set (λ b. b < k) p (get_or moves i d).vertex (get_or moves i d).from from u.partition.blocks;
  };
  loaded = loaded_moved h k p loads (get_or moves i d).vertex (get_or moves i d).to (get_or moves i d).from u.loaded u.partition.vertices vertex
      (u.stands i d (omega arith) here) to from;
}

-- ---- moves replayed one after the other

module _ (h : Hyper) (k : ℕ) (p : List ℕ) (moves : List Move) (i : ℕ) (whole : IsPartition h k p) (steps : StartFrom h k p moves) (here : i < length moves)
  where
    pub from_below : (get_or moves i no_move).from < k
    from_below =
        let e = steps.each i no_move here in
        let b = whole.blocks (get_or moves i no_move).vertex 0 (let v = whole.vertices in let w = e.vertex in omega arith) in
        let f = e.from in
        omega arith

    pub stands_there : (get_or moves i no_move).from ≡ block_of (replay_first p moves i) (get_or moves i no_move).vertex
    stands_there = (steps.each i no_move here).from ∙ sym (still_there p moves i no_move here steps.once)

    pub replay_long : length (replay_first p moves i) ≡ vertex_count h
    replay_long = length-replay p (take i moves) ∙ whole.vertices

    pub next_held : (loads : List ℕ) → IsLoaded h k (replay_first p moves i) loads → weight_of h (get_or moves i no_move).vertex ≤ get_or loads
        (get_or moves i no_move).from 0
    next_held loads loaded =
        let held = weight_held h (replay_first p moves i) (get_or moves i no_move).vertex replay_long (steps.each i no_move here).vertex in
        let is = loaded.each (get_or moves i no_move).from from_below in
        let q = ap (λ x. load h (replay_first p moves i) x) stands_there in
        omega arith

    pub next_room : (loads next : List ℕ) (w : ℕ) → IsWithinLimits h → IsLoaded h k (replay_first p moves i) loads → w < 2 ^ 54 →
        next ≡ set loads (get_or moves i no_move).from (get_or loads (get_or moves i no_move).from 0 - w)
        → get_or next (get_or moves i no_move).to 0 + w < 2 ^ 64
    next_room loads next w bounds loaded small e =
        let room = joined_small loads (get_or moves i no_move).from (get_or moves i no_move).to w (let n = loaded.all in let f = from_below in omega arith)
        (load_small h k (replay_first p moves i) loads (get_or moves i no_move).from bounds loaded from_below)
        (load_small h k (replay_first p moves i) loads (get_or moves i no_move).to bounds loaded (steps.each i no_move here).to) small in
        let q = ap (λ (xs : List ℕ). get_or xs (get_or moves i no_move).to 0) e in
        omega arith

    pub next_loaded : (loads next last : List ℕ) (w : ℕ) → IsLoaded h k (replay_first p moves i) loads → w ≡ weight_of h (get_or moves i no_move).vertex
        → next ≡ set loads (get_or moves i no_move).from (get_or loads (get_or moves i no_move).from 0 - w) → last ≡ set next (get_or moves i no_move).to
        (get_or next (get_or moves i no_move).to 0 + w)
        → IsLoaded h k (replay_first p moves (i + 1)) last
    next_loaded loads next last w loaded is e f =
        subst (λ (q : List ℕ). IsLoaded h k q last) (sym (replay_first_more p moves i no_move here))
        (subst (λ (xs : List ℕ). IsLoaded h k (slice_set (replay_first p moves i) (get_or moves i no_move).vertex (get_or moves i no_move).to) xs)
        (ap (loads_after loads (get_or moves i no_move).from (get_or moves i no_move).to) (sym is) ∙
        ap (λ (xs : List ℕ). set xs (get_or moves i no_move).to (get_or xs (get_or moves i no_move).to 0 + w)) (sym e) ∙ sym f)
        (loaded_moved h k (replay_first p moves i) loads (get_or moves i no_move).vertex (get_or moves i no_move).from (get_or moves i no_move).to loaded
        replay_long (steps.each i no_move here).vertex stands_there from_below (steps.each i no_move here).to))

pub saved_more : (s g : ℤ) (x y z : ℕ) → s ≡ pos x -ℤ pos y → g ≡ pos y -ℤ pos z → x < 2 ^ 57 → y < 2 ^ 57 → z < 2 ^ 57 →
    to_z w64 (of_z w64 (s +ℤ to_z w64 (of_z w64 g))) ≡ pos x -ℤ pos z
saved_more s g x y z e f a b c = omega (arith, ints)
