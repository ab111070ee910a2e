-- The laws over flow rounds.
use Rattle.std.proofs.Common.{◌≡◌, ◌≢◌, ◌⊎◌, inl, inr, ℕ, suc, ◌-◌, ◌<◌, Bool, true, false, ◌&&◌, not, nat_eq, nat_le, if◌then◌else◌, List, [], ◌∷◌, ◌++◌}
use Rattle.std.proofs.Common.{length, filter, get_or, slice_set, All, AllPairs, Contains, refl, sym, subst, ◌∙◌, arith, get_or-set_other}
use Rattle.std.proofs.lemmas.Bool.{and_parts, eqb-true, eqb-false, cases_eq}
use Rattle.std.proofs.lemmas.Bool.Decides.{Decides-eqb}
use Rattle.std.proofs.lemmas.Map.Made.{AllPairs-from_IsDistinct}
use Rattle.std.proofs.lemmas.List.{get_or_default}
use Rattle.std.proofs.lemmas.List.Elements.{All-nil, All-cons, All-head, All-tail, All-append, All-weaker, All-contains, All-contains_itself, filter_passes}
use Rattle.std.proofs.lemmas.Cmp.{nat_cmp_total}
use Rattle.hg_defs.specs.Hypergraph.{Hyper, IsFree, is_free, fix_of, vertices, weight_of}
use Rattle.hg_defs.specs.declared.moves.Move.{Move}
use Rattle.hg_defs.specs.Partition.{block_of, load}
use Rattle.hg_defs.specs.Moves.{gain}
use Rattle.hg_defs.proofs.PlacementLaws.{distinct_vertices}
use Rattle.hg_defs.proofs.SortLaws.{Contains_head, Contains_later, Contains-from_set_of, nat_cmp_exact}
use Rattle.round_log.specs.declared.record.LoggedRound.{LoggedRound}
use Rattle.round_log.specs.Rounds.{after_round, IsFlowRound, IsAssignment, is_near, is_next, taken, side, region, changes}
use Rattle.round_log.specs.RoundLaws.{FlowRoundLeavesPartition, FlowRoundLeavesFixes, FlowRoundRaisesNoCost, RegionIsFree}

-- ---- the vertices of a region

-- a free vertex of a block
abbrev pub IsFreeOf : Hyper → List ℕ → ℕ → ℕ → Type 0
IsFreeOf h p a v = IsFree h v × (block_of p v ≡ a)

near_free : (h : Hyper) (p : List ℕ) (a b v : ℕ) → is_near h p a b v ≡ true → IsFreeOf h p a v
near_free h p a b v e =
    let first = and_parts _ _ e in
    let parts = and_parts (is_free h v) (nat_eq (block_of p v) a) first.0 in
    (eqb-true _ _ parts.0, eqb-true _ _ parts.1)

next_free : (h : Hyper) (p : List ℕ) (a b v : ℕ) → is_next h p a b v ≡ true → IsFreeOf h p a v
next_free h p a b v e =
    let first = and_parts _ _ e in
    let second = and_parts (is_free h v && nat_eq (block_of p v) a) (not (is_near h p a b v)) first.0 in
    let parts = and_parts (is_free h v) (nat_eq (block_of p v) a) second.0 in
    (eqb-true _ _ parts.0, eqb-true _ _ parts.1)

pub All-taken : (P : ℕ → Type 0) (h : Hyper) (room : ℕ) (vs : List ℕ) → All P vs → All P (taken h room vs)
All-taken P h room [] all = All-nil P
All-taken P h room (v ∷ vs) all = by (nat_le (weight_of h v) room) (λ r. All-taken P h r vs (All-tail P v vs all))
  where
    by : (fits : Bool) → ((r : ℕ) → All P (taken h r vs))
        → All P (if fits then v ∷ taken h (if fits then room - weight_of h v else room) vs else taken h (if fits then room - weight_of h v else room) vs)
    by true rest = All-cons P v (taken h (room - weight_of h v) vs) (All-head P v vs all) (rest (room - weight_of h v))
    by false rest = rest room

pub side_free : (h : Hyper) (l : ℕ) (p : List ℕ) (a b : ℕ) → All (IsFreeOf h p a) (side h l p a b)
side_free h l p a b =
    All-taken (IsFreeOf h p a) h (l - load h p b) (filter (is_near h p a b) (vertices h) ++ filter (is_next h p a b) (vertices h))
    (All-append (IsFreeOf h p a) (filter (is_near h p a b) (vertices h)) (filter (is_next h p a b) (vertices h))
    (All-weaker (λ v. is_near h p a b v ≡ true) (IsFreeOf h p a) (near_free h p a b) (filter (is_near h p a b) (vertices h))
    (filter_passes (is_near h p a b) (vertices h)))
    (All-weaker (λ v. is_next h p a b v ≡ true) (IsFreeOf h p a) (next_free h p a b) (filter (is_next h p a b) (vertices h))
    (filter_passes (is_next h p a b) (vertices h))))

-- a free vertex of one of two blocks
abbrev pub IsInside : Hyper → List ℕ → ℕ → ℕ → ℕ → Type 0
IsInside h p a b v = IsFree h v × ((block_of p v ≡ a) ⊎ (block_of p v ≡ b))

pub region-free : RegionIsFree
region-free h l p a b =
    All-weaker (Contains (region h l p a b)) (IsInside h p a b) (λ v c. All-contains (IsInside h p a b) (side h l p a b ++ side h l p b a) v sides
    (Contains-from_set_of nat_cmp_total nat_cmp_exact (side h l p a b ++ side h l p b a) v c))
    (region h l p a b) (All-contains_itself (region h l p a b))
  where
    sides : All (IsInside h p a b) (side h l p a b ++ side h l p b a)
    sides =
        All-append (IsInside h p a b) (side h l p a b) (side h l p b a)
        (All-weaker (IsFreeOf h p a) (IsInside h p a b) (λ v f. (f.0, inl f.1)) (side h l p a b) (side_free h l p a b))
        (All-weaker (IsFreeOf h p b) (IsInside h p a b) (λ v f. (f.0, inr f.1)) (side h l p b a) (side_free h l p b a))

-- ---- the round

-- a number is in a list, or differs from all of it
pub among : (v : ℕ) (vs : List ℕ) → Contains vs v ⊎ All (λ u. u ≢ v) vs
among v [] = inr (All-nil (λ u. u ≢ v))
among v (u ∷ vs) = by (cases_eq u v) (among v vs)
  where
    by : (u ≡ v) ⊎ (u ≢ v) → Contains vs v ⊎ All (λ u. u ≢ v) vs → Contains (u ∷ vs) v ⊎ All (λ u. u ≢ v) (u ∷ vs)
    by (inl e) r = inl (subst (Contains (u ∷ vs)) e (Contains_head u vs))
    by (inr n) (inl c) = inl (Contains_later u vs v c)
    by (inr n) (inr a) = inr (All-cons (λ u. u ≢ v) u vs n a)

module _ (h : Hyper) (k l : ℕ) (p : List ℕ) (r : LoggedRound) (s : IsFlowRound h k l p r) where
  inside : All (IsInside h p r.first r.second) r.region
  inside = subst (All (IsInside h p r.first r.second)) (sym s.region) (region-free h l p r.first r.second)

  -- p is one of the assignments of its region
  kept : IsAssignment p r.first r.second r.region p
  kept = record {
    vertices = refl;
    inside = All-weaker (IsInside h p r.first r.second) (λ v. (block_of p v ≡ r.first) ⊎ (block_of p v ≡ r.second)) (λ v i. i.1) r.region inside;
    outside = λ v a. refl;
  }

pub flow-partition : FlowRoundLeavesPartition
flow-partition h k l p r first second w s = record {
  vertices = s.assigned.vertices ∙ w.vertices;
  blocks = λ v d low. subst (λ b. b < k) (get_or_default (after_round p r) v 0 d low) (by v (among v r.region) low);
}
  where
    by : (v : ℕ) → Contains r.region v ⊎ All (λ u. u ≢ v) r.region → v < length (after_round p r) → block_of (after_round p r) v < k
    by v (inl c) low = block (All-contains (λ u. (block_of (after_round p r) u ≡ r.first) ⊎ (block_of (after_round p r) u ≡ r.second)) r.region v
        s.assigned.inside c)
      where
        block : (block_of (after_round p r) v ≡ r.first) ⊎ (block_of (after_round p r) v ≡ r.second) → block_of (after_round p r) v < k
        block (inl e) = subst (λ b. b < k) (sym e) first
        block (inr e) = subst (λ b. b < k) (sym e) second
    by v (inr a) low = subst (λ b. b < k) (sym (s.assigned.outside v a)) (w.blocks v 0 (let e = s.assigned.vertices in omega arith))

pub flow-obeys : FlowRoundLeavesFixes
flow-obeys h k l p r o s v low fixed = by (among v r.region)
  where
    by : Contains r.region v ⊎ All (λ u. u ≢ v) r.region → block_of (after_round p r) v ≡ fix_of h v
    by (inl c) = absurd (fixed (All-contains (IsInside h p r.first r.second) r.region v (inside h k l p r s) c).0)
    by (inr a) = s.assigned.outside v a ∙ o v low fixed

pub flow-no_dearer : FlowRoundRaisesNoCost
flow-no_dearer h k l p r s =
    let least = s.cheapest p (kept h k l p r s) in
    let before = s.before in
    let after = s.after in
    let made = s.made in
    omega arith

-- ---- the moves of the round

-- the vertices that change are those whose blocks differ
changes-differ : (h : Hyper) (p q r vs : List ℕ) → AllPairs (λ u v. u ≢ v) vs → All (λ v. block_of r v ≡ block_of p v) vs →
    All (λ (m : Move). block_of p m.vertex ≢ block_of q m.vertex) (changes h r q vs)
changes-differ h p q r [] apart same = All-nil (λ (m : Move). block_of p m.vertex ≢ block_of q m.vertex)
changes-differ h p q r (v ∷ vs) apart same = by (nat_eq (block_of r v) (block_of q v)) refl (changes-differ h p q (slice_set r v (block_of q v)) vs rest
    later)
  where
    rest : AllPairs (λ u v. u ≢ v) vs
    rest i j d l m = apart (suc i) (suc j) d (omega arith) (omega arith)

    later : All (λ u. block_of (slice_set r v (block_of q v)) u ≡ block_of p u) vs
    later i d m = get_or-set_other r v (get_or vs i d) (block_of q v) 0 (λ e. apart 0 (suc i) d (omega arith) (omega arith) (sym e)) ∙
        All-tail (λ u. block_of r u ≡ block_of p u) v vs same i d m

    here : block_of r v ≡ block_of p v
    here = All-head (λ u. block_of r u ≡ block_of p u) v vs same

    by : (t : Bool) → nat_eq (block_of r v) (block_of q v) ≡ t → All (λ (m : Move). block_of p m.vertex ≢ block_of q m.vertex)
        (changes h (slice_set r v (block_of q v)) q vs)
        → All (λ (m : Move). block_of p m.vertex ≢ block_of q m.vertex)
        (if t then changes h (slice_set r v (block_of q v)) q vs else
        (record { vertex = v; from = block_of r v; to = block_of q v; worker = 0; booked = gain h r v (block_of q v) } ∷
        changes h (slice_set r v (block_of q v)) q vs))
    by true e others = others
    by false e others =
        All-cons (λ (m : Move). block_of p m.vertex ≢ block_of q m.vertex) (record {
          vertex = v;
          from = block_of r v;
          to = block_of q v;
          worker = 0;
          booked = gain h r v (block_of q v);
        })
        (changes h (slice_set r v (block_of q v)) q vs) (λ f. eqb-false (block_of r v) (block_of q v) e (here ∙ f)) others

-- they are free
pub flow-free : (h : Hyper) (k l : ℕ) (p : List ℕ) (r : LoggedRound) → IsFlowRound h k l p r → All (λ (m : Move). IsFree h m.vertex) r.moves
flow-free h k l p r s =
    subst (All (λ (m : Move). IsFree h m.vertex)) (sym s.moves)
    (All-weaker (λ (m : Move). block_of p m.vertex ≢ block_of (after_round p r) m.vertex) (λ (m : Move). IsFree h m.vertex)
    (λ m n. by m.vertex n (among m.vertex r.region)) (changes h p (after_round p r) (vertices h))
    (changes-differ h p (after_round p r) p (vertices h) (AllPairs-from_IsDistinct Decides-eqb (vertices h) (distinct_vertices h)) (λ i d m. refl)))
  where
    by : (v : ℕ) → block_of p v ≢ block_of (after_round p r) v → Contains r.region v ⊎ All (λ u. u ≢ v) r.region → IsFree h v
    by v n (inl c) = (All-contains (IsInside h p r.first r.second) r.region v (inside h k l p r s) c).0
    by v n (inr a) = absurd (n (sym (s.assigned.outside v a)))

pub flow-region_free : (h : Hyper) (k l : ℕ) (p : List ℕ) (r : LoggedRound) → IsFlowRound h k l p r → All (IsFree h) r.region
flow-region_free h k l p r s = All-weaker (IsInside h p r.first r.second) (IsFree h) (λ v i. i.0) r.region (inside h k l p r s)
