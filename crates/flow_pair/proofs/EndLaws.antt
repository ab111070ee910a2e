-- The end of a pair: the side of a minimum cut is a cheapest assignment of the region.
use Rattle.std.proofs.Common.{◌≡◌, ◌≢◌, ◌⊎◌, inl, inr, ℕ, ◌+◌, ◌^◌, ◌<◌, ◌≤◌, Bool}
use Rattle.std.proofs.Common.{if◌then◌else◌, List, ◌++◌, length, All, ap₂}
use Rattle.std.proofs.Common.{Contains, refl, sym, ap, ◌∙◌, subst, arith, slice_index}
use Rattle.std.specs.List.Sorted.{IsStrictlyIncreasing}
use Rattle.std.proofs.lemmas.List.{get_or_default}
use Rattle.std.proofs.lemmas.List.Elements.{All-weaker, All-contains, All-contains_itself}
use Rattle.hg_defs.specs.Hypergraph.{Net, Hyper, IsFree, IsNet, IsHypergraph, IsWithinLimits, vertex_count}
use Rattle.hg_defs.specs.Partition.{IsPartition, Fits, block_of}
use Rattle.hg_defs.specs.Cost.{cost}
use Rattle.flow_net.specs.Flow.{FlowNetwork, is_in, IsNetwork, IsFlow, IsFilledCut}
use Rattle.round_log.specs.Rounds.{region, side, pair_cost, IsAssignment}
use Rattle.round_log.specs.RegionLaws.{IsNear, IsNext}
use Rattle.round_log.proofs.FlowLaws.{region-free}
use Rattle.round_log.proofs.RegionLaws.{side_is_ranked, region_has_sides, region_rises}
use Rattle.round_log.proofs.AssignmentLaws.{assignment-fits}
use Rattle.flow_pair.specs.declared.solve.PairEnd.{PairEnd}
use Rattle.flow_pair.specs.PairNetwork.{source_node, sink_node, AreOfPair}
use Rattle.flow_pair.specs.PairEnds.{reassigned, IsPairEnd}
use Rattle.flow_pair.proofs.NetLaws.{all_from_set}
use Rattle.flow_pair.proofs.PairLaws.{IsRearranged, rearranged}
use Rattle.flow_pair.proofs.ReassignLaws.{reassigned-at, assigned_anew, anew_places}
use Rattle.flow_pair.proofs.CheapestLaws.{CutsPay, HasPlaces, value-is, value-bound, cheapest}

-- ---- the vertices of a region

pub region_pair : (h : Hyper) (l : ℕ) (p : List ℕ) (a b : ℕ) → AreOfPair p a b (region h l p a b)
region_pair h l p a b = All-weaker (λ v. IsFree h v × ((block_of p v ≡ a) ⊎ (block_of p v ≡ b))) (λ v. (block_of p v ≡ a) ⊎ (block_of p v ≡ b)) (λ v f. f.1)
    (region h l p a b) (region-free h l p a b)

pub region_vertices : (h : Hyper) (l : ℕ) (p : List ℕ) (a b : ℕ) → IsHypergraph h → All (λ v. v < vertex_count h) (region h l p a b)
region_vertices h l p a b sound = All-weaker (Contains (region h l p a b)) (λ v. v < vertex_count h) (λ v c. by v ((region_has_sides h l p a b v).0 c))
    (region h l p a b) (All-contains_itself (region h l p a b))
  where
    pin : (e : Net) (v : ℕ) → Contains h.nets e → Contains e.pins v → v < vertex_count h
    pin e v c d = All-contains (λ u. u < vertex_count h) e.pins v (All-contains (IsNet (vertex_count h)) h.nets e sound.nets c).pins d

    ranked : (x y v : ℕ) → IsNear h p x y v ⊎ IsNext h p x y v → v < vertex_count h
    ranked x y v (inl n) = pin n.net.0 v n.net.1 n.net.2
    ranked x y v (inr n) = pin n.net.0 v n.net.1 n.net.3

    by : (v : ℕ) → Contains (side h l p a b) v ⊎ Contains (side h l p b a) v → v < vertex_count h
    by v (inl c) = ranked a b v (All-contains (λ u. IsNear h p a b u ⊎ IsNext h p a b u) (side h l p a b) v (side_is_ranked h l p a b) c)
    by v (inr c) = ranked b a v (All-contains (λ u. IsNear h p b a u ⊎ IsNext h p b a u) (side h l p b a) v (side_is_ranked h l p b a) c)

-- and those of the sides that make it up
pub sides-below : (h : Hyper) (l : ℕ) (p : List ℕ) (a b : ℕ) → IsHypergraph h → (firsts seconds : List ℕ) → firsts ≡ side h l p a b
    → seconds ≡ side h l p b a → All (λ v. v < vertex_count h) (firsts ++ seconds)
sides-below h l p a b sound firsts seconds e f =
    subst (All (λ v. v < vertex_count h)) (sym (ap₂ (λ (xs ys : List ℕ). xs ++ ys) e f))
    (all_from_set (λ v. v < vertex_count h) (side h l p a b ++ side h l p b a) (region_vertices h l p a b sound))

-- ---- the end

module _ (h : Hyper) (k l : ℕ) (p : List ℕ) (a b : ℕ) (blocks : List ℕ) (network : FlowNetwork) (value : ℕ) (flags : List Bool) (c : ℕ)
    (sound : IsHypergraph h) (bounds : IsWithinLimits h) (parted : IsPartition h k p) (fits : Fits h k l p) (order : a < b) (second : b < k)
    (nodes : source_node < network.nodes) (pays : CutsPay h p a b (region h l p a b) network.arcs c) (joined : IsNetwork network)
    (flow : IsFlow network source_node sink_node) (cut : IsFilledCut network source_node sink_node value flags)
    (count : length blocks ≡ length (region h l p a b)) (each : (i : ℕ) → i < length blocks → slice_index blocks i ≡ (if is_in flags (2 + i) then a else b))
  where
    apart : a ≢ b
    apart e = omega arith

    inside_p : All (λ v. v < length p) (region h l p a b)
    inside_p = All-weaker (λ v. v < vertex_count h) (λ v. v < length p) (λ v m. let e = parted.vertices in omega arith) (region h l p a b)
        (region_vertices h l p a b sound)

    anew : IsAssignment p a b (region h l p a b) (reassigned p (region h l p a b) blocks)
    anew = assigned_anew p a b (region h l p a b) blocks flags apart (region_rises h l p a b) inside_p count each

    places : HasPlaces a (region h l p a b) (reassigned p (region h l p a b) blocks) flags
    places = anew_places p a b (region h l p a b) blocks flags apart (region_rises h l p a b) inside_p count each

    pub end_value-small : value + c < 2 ^ 64
    end_value-small =
        let small = value-bound h k p a b (region h l p a b) (reassigned p (region h l p a b) blocks) network value flags c sound parted (omega arith) second
        apart (region_pair h l p a b) nodes pays joined flow cut anew places in
        let weight = bounds.net_weight in
        omega arith

    pub pair_end : (end : PairEnd) → end.region ≡ region h l p a b → end.blocks ≡ blocks → end.value ≡ value + c → IsPairEnd h k l p a b end
    pair_end end e f g =
        let q = reassigned p (region h l p a b) blocks in
        let same : reassigned p end.region end.blocks ≡ q = ap (λ vs. reassigned p vs end.blocks) e ∙ ap (reassigned p (region h l p a b)) f in
        record {
          vertices_of = e;
          blocks_of = ap length f ∙ count ∙ sym (ap length e);
          assigned = subst (λ vs. IsAssignment p a b vs (reassigned p end.region end.blocks)) (sym e)
              (subst (IsAssignment p a b (region h l p a b)) (sym same) anew);
          fits = subst (Fits h k l) (sym same) (assignment-fits h k l p a b q (omega arith) second parted fits anew);
          cheapest = λ other t.
              subst (λ x. cost h x ≤ cost h other) (sym same)
              (cheapest h k p a b (region h l p a b) q network value flags c sound parted (omega arith) second apart (region_pair h l p a b) nodes pays
              joined flow cut anew places other (subst (λ vs. IsAssignment p a b vs other) e t));
          value = g ∙ value-is h k p a b (region h l p a b) q network value flags c sound parted (omega arith) second apart (region_pair h l p a b) nodes pays
              joined flow cut anew places ∙ ap (λ x. pair_cost h x a b) (sym same);
        }

-- ---- what an end says

module _ (h : Hyper) (k l : ℕ) (p : List ℕ) (a b : ℕ) (end : PairEnd) (s : IsPairEnd h k l p a b end) where
  pub end_rises : IsStrictlyIncreasing end.region
  end_rises = subst IsStrictlyIncreasing (sym s.vertices_of) (region_rises h l p a b)

  pub end_vertices : IsHypergraph h → All (λ v. v < vertex_count h) end.region
  end_vertices sound = subst (All (λ v. v < vertex_count h)) (sym s.vertices_of) (region_vertices h l p a b sound)

  pub end_pair : AreOfPair p a b end.region
  end_pair = subst (AreOfPair p a b) (sym s.vertices_of) (region_pair h l p a b)

  pub end_rearranged : IsRearranged p (reassigned p end.region end.blocks) a b
  end_rearranged = rearranged p (reassigned p end.region end.blocks) end.region a b end_pair s.assigned

  -- each block is one of the two
  pub end_blocks : IsHypergraph h → IsPartition h k p → a < k → b < k → All (λ x. x < k) end.blocks
  end_blocks sound parted first second i d m =
      subst (λ x. x < k) (get_or_default end.blocks i 0 d m) (by (s.assigned.inside i 0 (let e = s.blocks_of in omega arith)))
    where
      inside : All (λ v. v < length p) end.region
      inside = subst (λ n. All (λ v. v < n) end.region) (sym parted.vertices) (end_vertices sound)

      at : block_of (reassigned p end.region end.blocks) (slice_index end.region i) ≡ slice_index end.blocks i
      at = reassigned-at p end.region end.blocks i end_rises inside s.blocks_of (let e = s.blocks_of in omega arith)

      by : (block_of (reassigned p end.region end.blocks) (slice_index end.region i) ≡ a)
          ⊎ (block_of (reassigned p end.region end.blocks) (slice_index end.region i) ≡ b) → slice_index end.blocks i < k
      by (inl e) = subst (λ x. x < k) (sym e ∙ at) first
      by (inr e) = subst (λ x. x < k) (sym e ∙ at) second

  -- it is no dearer than the partition
  pub end_no_dearer : cost h (reassigned p end.region end.blocks) ≤ cost h p
  end_no_dearer = s.cheapest p (record { vertices = refl; inside = end_pair; outside = λ v n. refl })
