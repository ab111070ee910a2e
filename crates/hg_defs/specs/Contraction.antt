-- Contraction: the vertices of each cluster become one, and nets with equal sets of clusters become one.
use Rattle.std.specs.Prelude.{ℕ, ◌≡◌, ◌≢◌, ◌<◌, List, [], ◌∷◌, length, map, filter, All, Contains, slice_index, not, ◌&&◌, nat_eq, nat_le, if◌then◌else◌}
use Rattle.std.specs.List.{range_with_len}
use Rattle.std.specs.Ordering.{nat_cmp, is_eq}
use Rattle.std.specs.Cmp.Lexicographic.{slice_cmp}
use Rattle.hg_defs.specs.declared.objective.TheConstants.{FREE}
use Rattle.hg_defs.specs.Sums.{total}
use Rattle.hg_defs.specs.Sorting.{set_of}
use Rattle.hg_defs.specs.Hypergraph.{Net, Hyper, vertex_count, IsFree}
use Rattle.hg_defs.specs.Partition.{block_of, weight_in}

-- a map gives each vertex the number of its cluster; it is full where these are exactly the numbers below the count
pub record IsFull (h : Hyper) (clusters : List ℕ) (count : ℕ) : Type 0 where
  pub vertices : length clusters ≡ vertex_count h
  pub below : All (λ i. i < count) clusters
  pub used : (i : ℕ) → i < count → Contains clusters i

-- each vertex that isn't free is alone in its cluster
abbrev pub IsApart : Hyper → List ℕ → Type 0
IsApart h clusters =
    (v u : ℕ) → v < vertex_count h → u < vertex_count h → slice_index clusters v ≡ slice_index clusters u → v ≢ u → IsFree h v

-- the set of the clusters of a net's pins
abbrev pub image : List ℕ → Net → List ℕ
image clusters e = set_of nat_cmp (map (slice_index clusters) e.pins)

-- the images of at least two clusters, each once, in lexicographic order
abbrev pub images : Hyper → List ℕ → List (List ℕ)
images h clusters = set_of (slice_cmp nat_cmp) (filter (λ i. nat_le 2 (length i)) (map (image clusters) h.nets))

-- the weight of all nets with an image
abbrev pub merged_weight : Hyper → List ℕ → List ℕ → ℕ
merged_weight h clusters pins =
    total (λ e. if is_eq (slice_cmp nat_cmp (image clusters e) pins) then e.weight else 0) h.nets

-- the fix of the first vertex of a cluster that isn't free, or FREE
abbrev pub fix_in : List ℕ → List ℕ → ℕ → ℕ
fix_in [] clusters i = FREE
fix_in (f ∷ fixes) [] i = FREE
fix_in (f ∷ fixes) (c ∷ clusters) i =
    let later = fix_in fixes clusters i in if nat_eq c i && not (nat_eq f FREE) then f else later

-- the coarse hypergraph of a full map with this count of clusters
abbrev pub contract : Hyper → List ℕ → ℕ → Hyper
contract h clusters count = record {
  weights = map (weight_in h.weights clusters) (range_with_len 0 count);
  nets = map (λ i. record { weight = merged_weight h clusters i; pins = i }) (images h clusters);
  objective = h.objective;
  fixes = map (fix_in h.fixes clusters) (range_with_len 0 count);
}

-- the partition of the vertices that gives each one the block of its cluster
abbrev pub after : List ℕ → List ℕ → List ℕ
after p clusters = map (block_of p) clusters
