-- The laws of pairs of blocks.
use Rattle.std.specs.Prelude.{◌≡◌, ◌≢◌, ℕ, ◌+◌, ◌<◌, ◌≤◌, List, length, slice_index, All, Bool, true, false, if◌then◌else◌, pos, ◌-ℤ◌}
use Rattle.std.specs.List.Sorted.{IsStrictlyIncreasing}
use Rattle.hg_defs.specs.Hypergraph.{Net, Hyper, IsHypergraph}
use Rattle.hg_defs.specs.Partition.{IsPartition, block_of, load}
use Rattle.hg_defs.specs.Cost.{cost}
use Rattle.round_log.specs.Rounds.{touching, side, pair_cost, leaves, IsAssignment}
use Rattle.flow_net.specs.Flow.{is_in, cut_capacity}
use Rattle.flow_pair.specs.PairNetwork.{source_node, sink_node, pair_network, AreOfPair}

-- two assignments of the vertices of a pair differ in cost by what the nets pay for touching both blocks
abbrev pub AssignmentsDifferByPairCost : Type 0
AssignmentsDifferByPairCost =
    (h : Hyper) (k : ℕ) (p : List ℕ) (a b : ℕ) (region q other : List ℕ)
    → IsHypergraph h → IsPartition h k p → a < k → b < k → a ≢ b → AreOfPair p a b region
    → IsAssignment p a b region q → IsAssignment p a b region other
    → pos (cost h q) -ℤ pos (cost h other) ≡ pos (pair_cost h q a b) -ℤ pos (pair_cost h other a b)

-- each assignment of a region is a cut between the source and the sink of its network, of the capacity that the nets pay for touching both blocks
abbrev pub AssignmentsAreCuts : Type 0
AssignmentsAreCuts =
    (h : Hyper) (p : List ℕ) (a b : ℕ) (region q : List ℕ)
    → a ≢ b → AreOfPair p a b region → IsAssignment p a b region q
    → (side : List Bool) × (is_in side source_node ≡ true) × (is_in side sink_node ≡ false) × (cut_capacity (pair_network h p a b region).arcs side ≡
    pair_cost
    h q a b)

-- each cut between them is an assignment, by the sides of the region's nodes, for which the nets pay no more than its capacity
abbrev pub CutsAreAssignments : Type 0
CutsAreAssignments =
    (h : Hyper) (p : List ℕ) (a b : ℕ) (region : List ℕ) (side : List Bool)
    → a ≢ b → AreOfPair p a b region → IsStrictlyIncreasing region → All (λ v. v < length p) region
    → is_in side source_node ≡ true → is_in side sink_node ≡ false
    → (q : List ℕ) × IsAssignment p a b region q
    × ((i : ℕ) → i < length region → block_of q (slice_index region i) ≡ (if is_in side (2 + i) then a else b))
    × (pair_cost h q a b ≤ cut_capacity (pair_network h p a b region).arcs side)

-- where the vertices of a pair are assigned anew, another pair without a block in common keeps its nets, its sides, what its nets pay and its loads
abbrev pub PairsKeepApart : Type 0
PairsKeepApart =
    (h : Hyper) (l : ℕ) (p : List ℕ) (a b c d : ℕ) (region q : List ℕ)
    → c ≢ a → c ≢ b → d ≢ a → d ≢ b → AreOfPair p a b region → IsAssignment p a b region q
    → (touching h q c d ≡ touching h p c d) × (side h l q c d ≡ side h l p c d) × ((e : Net) → leaves q c d e ≡ leaves p c d e)
    × (load h q c ≡ load h p c) × (load h q d ≡ load h p d)

-- and a change within the other pair saves as much before as afterwards
abbrev pub PairsSaveApart : Type 0
PairsSaveApart =
    (h : Hyper) (k : ℕ) (p : List ℕ) (a b c d : ℕ) (region other q p' q' : List ℕ)
    → IsHypergraph h → IsPartition h k p → a < k → b < k → c < k → d < k
    → c ≢ a → c ≢ b → d ≢ a → d ≢ b → c ≢ d
    → AreOfPair p a b region → IsAssignment p a b region q
    → AreOfPair p c d other → IsAssignment p c d other p' → IsAssignment q c d other q' → All (λ v. block_of q' v ≡ block_of p' v) other
    → pos (cost h p) -ℤ pos (cost h p') ≡ pos (cost h q) -ℤ pos (cost h q')
