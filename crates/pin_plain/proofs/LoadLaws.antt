-- Laws of the loads that a partition keeps.
use Rattle.std.proofs.Common.{◌≡◌, ◌≢◌, ◌⊎◌, inl, inr, pos, ◌-ℤ◌, ◌^◌, ℕ, ◌+◌, ◌-◌, ◌<◌, ◌≤◌, List, ◌++◌, All, length, take}
use Rattle.std.proofs.Common.{drop, get_or, slice_index, slice_set, refl, sym, ap, subst, ◌∙◌, arith}
use Rattle.std.proofs.lemmas.List.{length-set, length-map, get_or-set_same, get_or-set_other}
use Rattle.std.proofs.lemmas.Bool.{cases_eq}
use Rattle.std.proofs.lemmas.Int.{ints}
use mir.Val.{of_z, to_z}
use mir.Syntax.{w64}
use Rattle.hg_defs.specs.Hypergraph.{Hyper, vertex_count, net_count, weight_of}
use Rattle.hg_defs.specs.Partition.{IsPartition, weight_in, load, block_of}
use Rattle.hg_defs.specs.Cost.{cost}
use Rattle.hg_defs.specs.Contraction.{contract, after}
use Rattle.hg_defs.proofs.ContractionLaws.{cost_kept, loads_kept}
use Rattle.std.proofs.lemmas.List.FromFn.{length-map-range_with_len}
use Rattle.hg_defs.specs.Moves.{moved}
use Rattle.hg_defs.specs.declared.moves.Move.{Move}
use Rattle.hg_defs.specs.Replay.{replay}
use Rattle.hg_defs.proofs.ReplayLaws.{length-replay, replay-blocks}
use Rattle.hg_defs.proofs.SumLaws.{weight_in-take_more, weight_if-same, weight_if-other}
use Rattle.hg_defs.proofs.MoveLaws.{load-moved_new, load-moved_old, load-moved_other}
use Rattle.pin_plain.specs.Parted.{IsParted, IsLoaded, IsTallied, KeepsCost, loads_after}
use Rattle.pin_plain.specs.Counts.{HoldsCounts, HaveSpreads, counts_of}
use Rattle.incidence.proofs.IndexLaws.{written_back}
use Rattle.std.proofs.lemmas.List.Elements.{All-set, All-map}

-- the weight of the next vertex added to the load of its block
pub weight_added :
    (ws p loads : List ℕ) (v : ℕ) → v < length ws → v < length p → slice_index p v < length loads
    → ((b : ℕ) → b < length loads → slice_index loads b ≡ weight_in (take v ws) (take v p) b)
    → (b : ℕ) → b < length (slice_set loads (slice_index p v) (slice_index loads (slice_index p v) + slice_index ws v))
    → slice_index (slice_set loads (slice_index p v) (slice_index loads (slice_index p v) + slice_index ws v)) b ≡ weight_in (take (v + 1) ws)
    (take (v + 1) p)
    b
weight_added ws p loads v l m low known b inside = by (cases_eq b (slice_index p v))
  where
    new : ℕ
    new = slice_index loads (slice_index p v) + slice_index ws v

    by : (b ≡ slice_index p v) ⊎ (b ≢ slice_index p v) →
        slice_index (slice_set loads (slice_index p v) (slice_index loads (slice_index p v) + slice_index ws v)) b ≡ weight_in (take (v + 1) ws)
        (take (v + 1) p) b
    by (inl e) =
        subst (λ c. slice_index (slice_set loads (slice_index p v) (slice_index loads (slice_index p v) + slice_index ws v)) c ≡ weight_in (take (v + 1) ws)
        (take (v + 1) p) c) (sym e)
        (let at = get_or-set_same loads (slice_index p v) (slice_index loads (slice_index p v) + slice_index ws v) 0 low in
        let more = weight_in-take_more ws p v (slice_index p v) l m in
        let was = known (slice_index p v) low in
        let one = weight_if-same (slice_index p v) (slice_index p v) (slice_index ws v) refl in
        omega arith)
    by (inr q) =
        let at = get_or-set_other loads (slice_index p v) b (slice_index loads (slice_index p v) + slice_index ws v) 0 q in
        let more = weight_in-take_more ws p v b l m in
        let len = length-set loads (slice_index p v) (slice_index loads (slice_index p v) + slice_index ws v) in
        let was = known b (omega arith) in
        let none = weight_if-other (slice_index p v) b (slice_index ws v) (λ e. q (sym e)) in
        omega arith

-- the weight of a vertex moved from the load of its block to that of another one
pub weight_moved :
    (h : Hyper) (k : ℕ) (p loads : List ℕ) (v to : ℕ) → IsLoaded h k p loads → length p ≡ vertex_count h → v < vertex_count h → block_of p v < k → to < k →
    to ≢ block_of p v
    → IsLoaded h k (moved p v to) (loads_after loads (block_of p v) to (weight_of h v))
weight_moved h k p loads v to loaded long vertex from block other = record {
  all = length-set (slice_set loads (block_of p v) (slice_index loads (block_of p v) - weight_of h v)) to _ ∙ length-set loads (block_of p v) _ ∙
      loaded.all;
  each = λ b low. by b low (cases_eq b to) (cases_eq b (block_of p v));
}
  where
    less : ℕ
    less = slice_index loads (block_of p v) - weight_of h v

    by : (b : ℕ) → b < k → (b ≡ to) ⊎ (b ≢ to) → (b ≡ block_of p v) ⊎ (b ≢ block_of p v)
        → slice_index (slice_set (slice_set loads (block_of p v) (slice_index loads (block_of p v) - weight_of h v)) to
        (slice_index (slice_set loads (block_of p v) (slice_index loads (block_of p v) - weight_of h v)) to + weight_of h v)) b
        ≡ load h (moved p v to) b
    by b low (inl e) f =
        subst
        (λ c. slice_index (slice_set (slice_set loads (block_of p v) (slice_index loads (block_of p v) - weight_of h v)) to
        (slice_index (slice_set loads (block_of p v) (slice_index loads (block_of p v) - weight_of h v)) to + weight_of h v)) c
        ≡ load h (moved p v to) c)
        (sym e)
        (let len = length-set loads (block_of p v) (slice_index loads (block_of p v) - weight_of h v) in
        let all = loaded.all in
        let at = get_or-set_same (slice_set loads (block_of p v) (slice_index loads (block_of p v) - weight_of h v)) to
        (slice_index (slice_set loads (block_of p v) (slice_index loads (block_of p v) - weight_of h v)) to + weight_of h v) 0 (omega arith) in
        let was = get_or-set_other loads (block_of p v) to (slice_index loads (block_of p v) - weight_of h v) 0 other in
        let known = loaded.each to block in
        let law = load-moved_new h p v to long vertex other in
        omega arith)
    by b low (inr q) (inl f) =
        subst
        (λ c. slice_index (slice_set (slice_set loads (block_of p v) (slice_index loads (block_of p v) - weight_of h v)) to
        (slice_index (slice_set loads (block_of p v) (slice_index loads (block_of p v) - weight_of h v)) to + weight_of h v)) c
        ≡ load h (moved p v to) c)
        (sym f)
        (let all = loaded.all in
        let at = get_or-set_other (slice_set loads (block_of p v) (slice_index loads (block_of p v) - weight_of h v)) to (block_of p v)
        (slice_index (slice_set loads (block_of p v) (slice_index loads (block_of p v) - weight_of h v)) to + weight_of h v) 0 (λ r. other (sym r)) in
        let was = get_or-set_same loads (block_of p v) (slice_index loads (block_of p v) - weight_of h v) 0 (omega arith) in
        let known = loaded.each (block_of p v) from in
        let law = load-moved_old h p v to long vertex other in
        omega arith)
    by b low (inr q) (inr r) =
        let at = get_or-set_other (slice_set loads (block_of p v) (slice_index loads (block_of p v) - weight_of h v)) to b
        (slice_index (slice_set loads (block_of p v) (slice_index loads (block_of p v) - weight_of h v)) to + weight_of h v) 0 q in
        let was = get_or-set_other loads (block_of p v) b (slice_index loads (block_of p v) - weight_of h v) 0 r in
        let known = loaded.each b low in
        let law = load-moved_other h p v to b long vertex r q in
        omega arith

-- a vertex weighs no more than its block
pub weight_within : (h : Hyper) (k : ℕ) (p loads : List ℕ) (v to : ℕ) → IsLoaded h k p loads → length p ≡ vertex_count h → v < vertex_count h →
    block_of p v < k → to ≢ block_of p v → weight_of h v ≤ slice_index loads (block_of p v)
weight_within h k p loads v to loaded long vertex from other =
    let law = load-moved_old h p v to long vertex other in
    let known = loaded.each (block_of p v) from in
    omega arith

-- what a partition keeps, with other blocks whose loads and counts were written back through slices
pub kept_anew :
    (h : Hyper) (k : ℕ) (p q loads starts widths words : List ℕ) (n m : ℕ) (new_loads old_loads new_words old_words : List ℕ)
    → IsTallied h k p loads starts widths words → IsParted h k q
    → IsLoaded h k q new_loads → HoldsCounts h k new_words (counts_of h q) → HaveSpreads h k q (net_count h) new_words →
    length new_words ≡ length words →
    length new_loads ≡ n →
    length new_words ≡ m
    → IsTallied h k q (take n (new_loads ++ drop (length new_loads) old_loads)) starts widths (take m (new_words ++ drop (length new_words) old_words))
kept_anew h k p q loads starts widths words n m new_loads old_loads new_words old_words kept parted loaded counted spreads long ln lm =
    subst (λ ls. IsTallied h k q ls starts widths (take m (new_words ++ drop (length new_words) old_words))) (sym (written_back n new_loads old_loads ln))
    (subst (λ ws. IsTallied h k q new_loads starts widths ws) (sym (written_back m new_words old_words lm))
    (record {
      parted = parted;
      loaded = loaded;
      laid = record { nets = kept.laid.nets; starts_at = kept.laid.starts_at; all = long ∙ kept.laid.all };
      wide = kept.wide;
      counted = counted;
      spreads = spreads;
    }))

-- the same hypergraph parted into other blocks
parted_anew : (h : Hyper) (k : ℕ) (p q : List ℕ) → IsParted h k p → IsPartition h k q → IsParted h k q
parted_anew h k p q parted partition = record {
  sound = parted.sound;
  bounds = parted.bounds;
  suits = parted.suits;
  fixed = parted.fixed;
  some = parted.some;
  few = parted.few;
  partition = partition;
}

-- after one move
pub kept_shifted :
    (h : Hyper) (k : ℕ) (p q loads starts widths words : List ℕ) (v to n m : ℕ) (new_loads old_loads new_words old_words : List ℕ)
    → IsTallied h k p loads starts widths words → to < k → q ≡ moved p v to
    → IsLoaded h k (moved p v to) new_loads → HoldsCounts h k new_words (counts_of h (moved p v to)) →
    HaveSpreads h k (moved p v to) (net_count h) new_words → length new_words ≡ length words →
    length new_loads ≡ n →
    length new_words ≡ m
    → IsTallied h k q (take n (new_loads ++ drop (length new_loads) old_loads)) starts widths (take m (new_words ++ drop (length new_words) old_words))
kept_shifted h k p q loads starts widths words v to n m new_loads old_loads new_words old_words kept low same loaded counted spreads long ln lm =
    subst (λ r. IsTallied h k r (take n (new_loads ++ drop (length new_loads) old_loads)) starts widths (take m (new_words ++ drop (length new_words)
    old_words))) (sym same)
    (kept_anew h k p (moved p v to) loads starts widths words n m new_loads old_loads new_words old_words kept
    (parted_anew h k p (moved p v to) kept.parted (record {
      vertices = length-set p v to ∙ kept.parted.partition.vertices;
      blocks = All-set (λ b. b < k) p v to low kept.parted.partition.blocks;
    }))
    loaded counted spreads long ln lm)

-- after many moves
pub replayed_parted : (h : Hyper) (k : ℕ) (p q : List ℕ) (moves : List Move) → IsParted h k p → All (λ m. m.to < k) moves → q ≡ replay p moves → IsParted h k q
replayed_parted h k p q moves parted low same =
    subst (IsParted h k) (sym same)
    (parted_anew h k p (replay p moves) parted (record {
      vertices = length-replay p moves ∙ parted.partition.vertices;
      blocks = replay-blocks k p moves parted.partition.blocks low;
    }))

-- a difference of small numbers, as a signed word
pub signed_difference : (a b : ℕ) → a < 2 ^ 55 → b < 2 ^ 55 → to_z w64 (of_z w64 (to_z w64 a -ℤ to_z w64 b)) ≡ pos a -ℤ pos b
signed_difference a b l m = omega (arith, ints)

-- ---- a partition after a map

pub after_partition : (h fine : Hyper) (k : ℕ) (p clusters : List ℕ) → IsPartition h k p → length clusters ≡ vertex_count fine →
    All (λ v. v < vertex_count h)
    clusters → IsPartition fine k (after p clusters)
after_partition h fine k p clusters whole long low = record {
  vertices = length-map clusters (block_of p) ∙ long;
  blocks = All-map (λ b. b < k) (block_of p) clusters (λ i d l. whole.blocks (get_or clusters i d) 0 (let n = whole.vertices in let m = low i d l in
      omega arith));
}

pub after_keeps : (coarse fine : Hyper) (p clusters : List ℕ) → length p ≡ vertex_count coarse → KeepsCost coarse p fine clusters (after p clusters)
after_keeps coarse fine p clusters long count ready same =
    let size : length p ≡ count = long ∙ ap vertex_count same ∙ contract_size fine clusters count in (
      cost_kept fine clusters count p ready ∙ ap (λ (x : Hyper). cost x p) (sym same),
      λ b. loads_kept fine clusters count p b ready size ∙
          ap (λ (x : Hyper). load x p b) (sym same),
    )
  where
    contract_size : (h : Hyper) (map_ : List ℕ) (n : ℕ) → vertex_count (contract h map_ n) ≡ n
    contract_size h map_ n = length-map-range_with_len (weight_in h.weights map_) 0 n
