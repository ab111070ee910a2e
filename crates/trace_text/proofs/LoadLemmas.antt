-- The loads of blocks, summed vertex by vertex, and their lines, block by block.
use Rattle.std.proofs.Common.{◌≡◌, ◌≢◌, ℕ, ◌+◌, ◌<◌, ◌≤◌, List, ◌++◌, length, take, drop, get_or, set, slice_index, inl}
use Rattle.std.proofs.Common.{inr, refl, sym, ap, ap₂, ◌∙◌, arith, get_or-set_same, get_or-set_other}
use Rattle.std.proofs.lemmas.List.{at_drop_more, ext_get_or, take_all}
use Rattle.std.proofs.lemmas.List.FromFn.{length-map-range_with_len, get_or-map-range_with_len, take-map-range_with_len}
use Rattle.hg_defs.specs.Hypergraph.{Hyper, vertex_count}
use Rattle.std.proofs.lemmas.Bool.{cases_eq}
use Rattle.std.proofs.lemmas.List.Folds.{list_all-map}
use Rattle.std.specs.Prelude.{nat_le}
use Rattle.std.specs.List.{flat_map, enumerate_from, list_all, range_with_len}
use Rattle.hg_defs.specs.Sums.{total}
use Rattle.hg_defs.specs.Partition.{weight_in, load, is_fitting}
use Rattle.hg_defs.proofs.SumLaws.{weight_if-same, weight_if-other, weight_in-take_more, weight_in-le, total-take-le}
use Rattle.trace_text.specs.Lines.{load_line, loads_of}

-- the loads of the first v vertices
abbrev pub AreLoads : List ℕ → List ℕ → List ℕ → ℕ → Type 0
AreLoads loads ws p v = (b : ℕ) → b < 256 → slice_index loads b ≡ weight_in (take v ws) (take v p) b

-- a load with one more vertex is within the whole weight
pub load-room : (loads ws p : List ℕ) (v : ℕ) → v < length ws → v < length p → slice_index p v < 256 → AreLoads loads ws p v →
    slice_index loads (slice_index p v) + slice_index ws v ≤ total (λ w. w) ws
load-room loads ws p v low high block are =
    let b = slice_index p v in
    omega (
      arith,
      are b block,
      weight_in-take_more ws p v b low high,
      weight_if-same b b (slice_index ws v) refl,
      weight_in-le (take (v + 1) ws)
          (take (v + 1) p) b,
      total-take-le (λ w. w) ws (v + 1),
    )

pub loads-more : (loads ws p : List ℕ) (v : ℕ) → length loads ≡ 256 → v < length ws → v < length p → slice_index p v < 256 → AreLoads loads ws p v →
    AreLoads (set loads (slice_index p v) (slice_index loads (slice_index p v) + slice_index ws v)) ws p (v + 1)
loads-more loads ws p v long low high block are b small =
    let x = slice_index p v in
    let w = slice_index ws v in
    let more = weight_in-take_more ws p v b low high in
    elim (cases_eq x b) [
      | inl same ↦
          (let in_loads : x < length loads = omega arith in
          let here : slice_index (set loads x (slice_index loads x + w)) b ≡ slice_index loads x + w =
          ap (λ i. slice_index (set loads x (slice_index loads x + w)) i) (sym same) ∙ get_or-set_same loads x (slice_index loads x + w) 0 in_loads in
          omega (arith, here, are x block, ap (λ i. slice_index loads i) same, are b small, more, weight_if-same x b w same))
      | inr other ↦
          (let ne : b ≢ x = λ e. other (sym e) in
          omega (arith, get_or-set_other loads x b (slice_index loads x + w) 0 ne, are b small, more, weight_if-other x b w other))
    ]

-- with all vertices they are those of the partition
pub AreLoads-all : (h : Hyper) (p loads : List ℕ) → length loads ≡ 256 → length p ≡ vertex_count h → AreLoads loads h.weights p (vertex_count h) →
    loads ≡ loads_of h 256 p
AreLoads-all h p loads long whole are =
    ext_get_or 0 loads (loads_of h 256 p) (long ∙ sym (length-map-range_with_len (load h p) 0 256))
    (λ b low.
    let small : b < 256 = omega arith in
    are b small ∙ ap₂ (λ ws q. weight_in ws q b) (take_all (vertex_count h) h.weights (omega arith)) (take_all (vertex_count h) p (omega arith)) ∙
    sym (get_or-map-range_with_len (load h p) 0 256 b b 0 small (omega arith)))

-- the loads of the first k blocks
pub loads_of-take : (h : Hyper) (p loads : List ℕ) (k : ℕ) → k ≤ 256 → loads ≡ loads_of h 256 p → take k loads ≡ loads_of h k p
loads_of-take h p loads k few is = ap (take k) is ∙ take-map-range_with_len (load h p) 0 256 k few

-- the lines of the loads from block i on
pub loads-next : (loads : List ℕ) (i : ℕ) → i < length loads → flat_map load_line (enumerate_from i (drop i loads)) ≡ load_line (i, get_or loads i 0) ++
    flat_map load_line (enumerate_from (i + 1) (drop (i + 1) loads))
loads-next loads i h = at_drop_more (λ xs. flat_map load_line (enumerate_from i xs)) loads i 0 h

-- a partition fits where all its loads are within the limit
pub fits-loads : (h : Hyper) (p loads : List ℕ) (k l : ℕ) → loads ≡ loads_of h k p → list_all (λ x. nat_le x l) loads ≡ is_fitting h k l p
fits-loads h p loads k l is =
    ap (list_all (λ x. nat_le x l)) is ∙ list_all-map (λ x. nat_le x l) (load h p) (range_with_len 0 k)
