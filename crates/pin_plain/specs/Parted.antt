-- A hypergraph that is parted into blocks, and what a partition keeps beside the blocks.
use Rattle.std.specs.Prelude.{◌≡◌, ℕ, ◌+◌, ◌-◌, ◌<◌, ◌≤◌, List, length, slice_index, slice_set}
use Rattle.hg_defs.specs.Hypergraph.{Hyper, IsHypergraph, IsWithinLimits, IsFixedWithin, Suits, net_count}
use Rattle.hg_defs.specs.Partition.{IsPartition, load}
use Rattle.hg_defs.specs.Cost.{cost}
use Rattle.hg_defs.specs.Contraction.{contract}
use Rattle.hg_defs.specs.ContractionLaws.{IsContractible}
use Rattle.pin_plain.specs.Counts.{HasLayout, HasWidths, HoldsCounts, counts_of, HaveSpreads}

-- the hypergraph, the number of blocks, the limit on a load, and the block of each vertex
pub record Parted : Type 0 where
  pub hyper : Hyper
  pub k : ℕ
  pub limit : ℕ
  pub blocks : List ℕ

-- the load of each block
pub record IsLoaded (h : Hyper) (k : ℕ) (p loads : List ℕ) : Type 0 where
  pub all : length loads ≡ k
  pub each : (b : ℕ) → b < k → slice_index loads b ≡ load h p b

-- the loads after a weight went from one block to another one
abbrev pub loads_after : List ℕ → ℕ → ℕ → ℕ → List ℕ
loads_after loads from to weight =
    let less = slice_set loads from (slice_index loads from - weight) in
    slice_set less to (slice_index less to + weight)

-- a sound hypergraph parted into 2 to 256 blocks
pub record IsParted (h : Hyper) (k : ℕ) (p : List ℕ) : Type 0 where
  pub sound : IsHypergraph h
  pub bounds : IsWithinLimits h
  pub suits : Suits h k
  pub fixed : IsFixedWithin h k
  pub some : 2 ≤ k
  pub few : k ≤ 256
  pub partition : IsPartition h k p

-- the pin counts are those of the hypergraph and the blocks
pub record IsTold (h : Hyper) (k : ℕ) (p starts words : List ℕ) : Type 0 where
  pub parted : IsParted h k p
  pub laid : HasLayout h k starts words
  pub counted : HoldsCounts h k words (counts_of h p)

-- the loads, the pin counts and the numbers of blocks that nets touch are those of the hypergraph and the blocks
pub record IsTallied (h : Hyper) (k : ℕ) (p loads starts widths words : List ℕ) : Type 0 where
  pub parted : IsParted h k p
  pub loaded : IsLoaded h k p loads
  pub laid : HasLayout h k starts words
  pub wide : HasWidths h widths
  pub counted : HoldsCounts h k words (counts_of h p)
  pub spreads : HaveSpreads h k p (net_count h) words

-- where the coarse hypergraph is the contraction of the fine one by the map, the two partitions have the same cost and loads
abbrev pub KeepsCost : Hyper → List ℕ → Hyper → List ℕ → List ℕ → Type 0
KeepsCost coarse p fine clusters q =
    (count : ℕ) → IsContractible fine clusters count → coarse ≡ contract fine clusters count
    → (cost fine q ≡ cost coarse p) × ((b : ℕ) → load fine q b ≡ load coarse p b)
