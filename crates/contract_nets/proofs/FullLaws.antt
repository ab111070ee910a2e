-- Full maps: a map that uses every number below a count, and no other.
use Rattle.std.proofs.Common.{ℕ, ◌<◌, List, Contains, arith}
use Rattle.hg_defs.specs.Hypergraph.{Hyper}
use Rattle.hg_defs.specs.Partition.{IsPartition}
use Rattle.hg_defs.specs.Contraction.{IsFull}
use Rattle.hg_defs.specs.Clustering.{cluster_count}
use Rattle.hg_defs.proofs.NumberingLaws.{below_count, count_upto}

-- so many blocks, each with a vertex, are the clusters of a full map
pub full_from_used : (h : Hyper) (clusters : List ℕ) (count : ℕ) → IsPartition h count clusters → ((i : ℕ) → i < count → Contains clusters i) →
    IsFull h clusters (cluster_count clusters)
full_from_used h clusters count parted used =
    let most = count_upto clusters count parted.blocks in
    record { vertices = parted.vertices; below = below_count clusters; used = λ i low. used i (omega arith) }
