-- What numbering by rising root and the pairing sweep give: the laws over clusterings by roots.
use Rattle.std.specs.Prelude.{◌≡◌, ℕ, ◌<◌, ◌≤◌, ◌⊎◌, ◌↔◌, List, length, filter, slice_index, nat_eq}
use Rattle.std.specs.List.{range_with_len}
use Rattle.std.specs.Ordering.{nat_cmp}
use Rattle.hg_defs.specs.Sorting.{set_of}
use Rattle.hg_defs.specs.Hypergraph.{Hyper, IsHypergraph, vertex_count, vertices}
use Rattle.hg_defs.specs.Partition.{IsPartition}
use Rattle.hg_defs.specs.Clustering.{cluster_count, AreTogether, IsClustering, IsSingleton, IsMaximal, IsMaximalInside, IsWithinBlocks, IsInside}
use Rattle.hg_defs.specs.Numbering.{IsRooted, root_number, numbered}
use Rattle.hg_defs.specs.Pairing.{paired_from, paired_inside, paired, split_by}

-- vertices that are together stay together, and two that are joined were single vertices
pub record JoinsSingles (h : Hyper) (before after : List ℕ) : Type 0 where
  pub kept : (u v : ℕ) → AreTogether h before u v → AreTogether h after u v
  pub joined : (u v : ℕ) → AreTogether h after u v → AreTogether h before u v ⊎ (IsSingleton h before u × IsSingleton h before v)

-- ---- the laws of numbering

-- vertices of one root have one number, and others have others; a lower root has a lower number
abbrev pub NumbersTellRoots : Type 0
NumbersTellRoots =
    (roots : List ℕ) (u v : ℕ) → u < length roots → v < length roots
    → (slice_index (numbered roots) u ≡ slice_index (numbered roots) v) ↔ (slice_index roots u ≡ slice_index roots v)

abbrev pub NumbersRise : Type 0
NumbersRise =
    (roots : List ℕ) (u v : ℕ) → u < length roots → v < length roots → slice_index roots u < slice_index roots v
    → slice_index (numbered roots) u < slice_index (numbered roots) v

-- there are as many numbers as roots
abbrev pub NumbersAreAsMany : Type 0
NumbersAreAsMany = (roots : List ℕ) → cluster_count (numbered roots) ≡ length (set_of nat_cmp roots)

-- the number of a root is how many vertices before it are roots
abbrev pub NumberCountsRoots : Type 0
NumberCountsRoots =
    (h : Hyper) (cap : ℕ) (roots : List ℕ) (r : ℕ) → IsRooted h cap roots → r ≤ vertex_count h
    → root_number roots r ≡ length (filter (λ v. nat_eq (slice_index roots v) v) (range_with_len 0 r))

-- the numbers are a clustering with the same single vertices
abbrev pub NumbersAreClustering : Type 0
NumbersAreClustering = (h : Hyper) (cap : ℕ) (roots : List ℕ) → IsRooted h cap roots → IsClustering h cap (numbered roots)

abbrev pub NumberingKeepsTogether : Type 0
NumberingKeepsTogether =
    (h : Hyper) (roots : List ℕ) (u v : ℕ) → length roots ≡ vertex_count h → AreTogether h (numbered roots) u v ↔ AreTogether h roots u v

abbrev pub NumberingKeepsSingles : Type 0
NumberingKeepsSingles =
    (h : Hyper) (roots : List ℕ) (v : ℕ) → length roots ≡ vertex_count h → IsSingleton h (numbered roots) v ↔ IsSingleton h roots v

-- ---- the laws of pairing

-- every vertex alone is a clustering by roots
abbrev pub AloneIsRooted : Type 0
AloneIsRooted = (h : Hyper) (cap : ℕ) → IsRooted h cap (vertices h)

-- pairing keeps the cap, joins single vertices alone, and leaves none that could be joined
abbrev pub PairingIsRooted : Type 0
PairingIsRooted = (h : Hyper) (cap : ℕ) (roots : List ℕ) → IsHypergraph h → IsRooted h cap roots → IsRooted h cap (paired_from h cap roots)

abbrev pub PairingJoinsSingles : Type 0
PairingJoinsSingles = (h : Hyper) (cap : ℕ) (roots : List ℕ) → IsHypergraph h → IsRooted h cap roots → JoinsSingles h roots (paired_from h cap roots)

abbrev pub PairingIsMaximal : Type 0
PairingIsMaximal = (h : Hyper) (cap : ℕ) (roots : List ℕ) → IsHypergraph h → IsRooted h cap roots → IsMaximal h cap (paired_from h cap roots)

-- so the numbered pairs are a maximal clustering
abbrev pub PairedIsClustering : Type 0
PairedIsClustering = (h : Hyper) (cap : ℕ) → IsHypergraph h → IsClustering h cap (paired h cap)

abbrev pub PairedIsMaximal : Type 0
PairedIsMaximal = (h : Hyper) (cap : ℕ) → IsHypergraph h → IsMaximal h cap (paired h cap)

-- the same inside the blocks of a partition
abbrev pub PairingInsideIsRooted : Type 0
PairingInsideIsRooted =
    (h : Hyper) (cap k : ℕ) (p roots : List ℕ) → IsHypergraph h → IsRooted h cap roots → IsRooted h cap (paired_inside h cap k p roots)

abbrev pub PairingInsideJoinsSingles : Type 0
PairingInsideJoinsSingles =
    (h : Hyper) (cap k : ℕ) (p roots : List ℕ) → IsHypergraph h → IsRooted h cap roots → JoinsSingles h roots (paired_inside h cap k p roots)

abbrev pub PairingInsideKeepsBlocks : Type 0
PairingInsideKeepsBlocks =
    (h : Hyper) (cap k : ℕ) (p roots : List ℕ) → IsHypergraph h → IsRooted h cap roots → IsWithinBlocks h p roots
    → IsWithinBlocks h p (paired_inside h cap k p roots)

abbrev pub PairingInsideIsMaximal : Type 0
PairingInsideIsMaximal =
    (h : Hyper) (cap k : ℕ) (p roots : List ℕ) → IsHypergraph h → IsPartition h k p → IsRooted h cap roots
    → IsMaximalInside h cap p (paired_inside h cap k p roots)

abbrev pub PairedInsideIsInside : Type 0
PairedInsideIsInside =
    (h : Hyper) (cap k : ℕ) (p roots : List ℕ) → IsHypergraph h → IsPartition h k p → IsRooted h cap roots → IsWithinBlocks h p roots
    → IsInside h cap p (numbered (paired_inside h cap k p roots))

-- roots in other blocks are given up: what is left is a clustering by roots inside the blocks
abbrev pub SplitIsRooted : Type 0
SplitIsRooted = (h : Hyper) (cap : ℕ) (p roots : List ℕ) → IsRooted h cap roots → IsRooted h cap (split_by p roots)

abbrev pub SplitKeepsBlocks : Type 0
SplitKeepsBlocks = (h : Hyper) (cap : ℕ) (p roots : List ℕ) → IsRooted h cap roots → IsWithinBlocks h p (split_by p roots)
