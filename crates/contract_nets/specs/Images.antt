-- The images of nets, list after list, in parts of a size.
use Rattle.std.specs.Prelude.{◌≡◌, ℕ, ◌+◌, ◌*◌, ◌^◌, ◌<◌, ◌≤◌, List, [], length, map, replicate, slice_index, slice_index_or, slice_range}
use Rattle.hg_defs.specs.Hypergraph.{Hyper, vertex_count, net_count, net_of}
use Rattle.hg_defs.specs.Clustering.{cluster_count}
use Rattle.hg_defs.specs.Contraction.{image}
use Rattle.contract_nets.specs.Merging.{mapped_net}

-- the nets over the clusters, which are its vertices
abbrev pub over : Hyper → List ℕ → Hyper
over h clusters = record {
  weights = replicate (cluster_count clusters) 0;
  nets = map (mapped_net clusters) h.nets;
  objective = h.objective;
  fixes = [];
}

-- lists of numbers, one after the other, and where each starts; the last start is an end
pub record Lists : Type 0 where
  pub starts : List ℕ
  pub pins : List ℕ

-- the list at place i
pub record HasListAt (lists : Lists) (i : ℕ) (list : List ℕ) : Type 0 where
  pub place : i + 1 < length lists.starts
  pub order : slice_index lists.starts i ≤ slice_index lists.starts (i + 1)
  pub within : slice_index lists.starts (i + 1) ≤ length lists.pins
  pub value : slice_range lists.pins (slice_index lists.starts i) (slice_index lists.starts (i + 1)) ≡ list

-- the images of part j of the nets, which are cut into parts of a size
abbrev pub IsPart : Hyper → List ℕ → ℕ → ℕ → Lists → Type 0
IsPart h clusters size j lists =
    (i : ℕ) → i < size → j * size + i < net_count h → HasListAt lists i (image clusters (net_of h (j * size + i)))

-- the parts have the image of each net
pub record ArePartsOf (h : Hyper) (clusters : List ℕ) (size : ℕ) (parts : List Lists) : Type 0 where
  pub vertices : length clusters ≡ vertex_count h
  pub few : cluster_count clusters ≤ 2 ^ 22
  pub some : 0 < size
  pub all : net_count h ≤ length parts * size
  pub each : (j : ℕ) (d : Lists) → j < length parts → IsPart h clusters size j (slice_index_or parts j d)
