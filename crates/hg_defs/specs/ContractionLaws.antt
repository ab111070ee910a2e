-- What contraction keeps: costs, loads, weights, fixes and limits.
use Rattle.std.specs.Prelude.{◌≡◌, ℕ, List, length}
use Rattle.hg_defs.specs.Hypergraph.{Hyper, IsHypergraph, IsWithinLimits, IsFixedWithin, total_weight}
use Rattle.hg_defs.specs.Partition.{IsPartition, Fits, Obeys, load}
use Rattle.hg_defs.specs.Cost.{cost}
use Rattle.hg_defs.specs.Contraction.{IsFull, IsApart, contract, after}

-- a hypergraph and a full map of its vertices
pub record IsContractible (h : Hyper) (clusters : List ℕ) (count : ℕ) : Type 0 where
  pub hypergraph : IsHypergraph h
  pub full : IsFull h clusters count

-- ---- the laws

-- the contraction is a hypergraph of the same weight, within the limits where the fine one is
abbrev pub ContractionIsHypergraph : Type 0
ContractionIsHypergraph = (h : Hyper) (clusters : List ℕ) (count : ℕ) → IsContractible h clusters count → IsHypergraph (contract h clusters count)

abbrev pub ContractionKeepsWeight : Type 0
ContractionKeepsWeight =
    (h : Hyper) (clusters : List ℕ) (count : ℕ) → IsContractible h clusters count → total_weight (contract h clusters count) ≡ total_weight h

abbrev pub ContractionKeepsLimits : Type 0
ContractionKeepsLimits =
    (h : Hyper) (clusters : List ℕ) (count : ℕ) → IsContractible h clusters count → IsWithinLimits h → IsWithinLimits (contract h clusters count)

-- costs and loads are those of the fine partition
abbrev pub ContractionKeepsCost : Type 0
ContractionKeepsCost =
    (h : Hyper) (clusters : List ℕ) (count : ℕ) (p : List ℕ) → IsContractible h clusters count
    → cost h (after p clusters) ≡ cost (contract h clusters count) p

abbrev pub ContractionKeepsLoads : Type 0
ContractionKeepsLoads =
    (h : Hyper) (clusters : List ℕ) (count : ℕ) (p : List ℕ) (b : ℕ) → IsContractible h clusters count → length p ≡ count
    → load h (after p clusters) b ≡ load (contract h clusters count) p b

-- so a partition fits where the fine one does
abbrev pub FittingIsProjected : Type 0
FittingIsProjected =
    (h : Hyper) (clusters : List ℕ) (count k l : ℕ) (p : List ℕ) → IsContractible h clusters count → length p ≡ count
    → Fits (contract h clusters count) k l p → Fits h k l (after p clusters)

abbrev pub FittingIsLifted : Type 0
FittingIsLifted =
    (h : Hyper) (clusters : List ℕ) (count k l : ℕ) (p : List ℕ) → IsContractible h clusters count → length p ≡ count
    → Fits h k l (after p clusters) → Fits (contract h clusters count) k l p

-- and it is one of k blocks where the fine one is
abbrev pub PartitionIsProjected : Type 0
PartitionIsProjected =
    (h : Hyper) (clusters : List ℕ) (count k : ℕ) (p : List ℕ) → IsContractible h clusters count
    → IsPartition (contract h clusters count) k p → IsPartition h k (after p clusters)

abbrev pub PartitionIsLifted : Type 0
PartitionIsLifted =
    (h : Hyper) (clusters : List ℕ) (count k : ℕ) (p : List ℕ) → IsContractible h clusters count → length p ≡ count
    → IsPartition h k (after p clusters) → IsPartition (contract h clusters count) k p

-- fixes go along, where each vertex that isn't free is alone in its cluster
abbrev pub FixesAreProjected : Type 0
FixesAreProjected =
    (h : Hyper) (clusters : List ℕ) (count : ℕ) (p : List ℕ) → IsContractible h clusters count → IsApart h clusters
    → Obeys (contract h clusters count) p → Obeys h (after p clusters)

abbrev pub FixesAreLifted : Type 0
FixesAreLifted =
    (h : Hyper) (clusters : List ℕ) (count : ℕ) (p : List ℕ) → IsContractible h clusters count
    → Obeys h (after p clusters) → Obeys (contract h clusters count) p

abbrev pub FixesStayWithin : Type 0
FixesStayWithin =
    (h : Hyper) (clusters : List ℕ) (count k : ℕ) → IsContractible h clusters count
    → IsFixedWithin h k → IsFixedWithin (contract h clusters count) k
