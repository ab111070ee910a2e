-- The law of waves.
use Rattle.std.specs.Prelude.{◌≡◌, ℕ, List, Option}
use Rattle.hg_defs.specs.Hypergraph.{Hyper, IsHypergraph}
use Rattle.hg_defs.specs.Partition.{IsPartition, Fits}
use Rattle.round_log.specs.Passes.{block_pairs}
use Rattle.flow_pair.specs.declared.solve.PairEnd.{PairEnd}
use Rattle.flow_round.specs.PairTurns.{AreTurns, after_turns, waves}

-- ends that pairs have at their turns in the waves they have in the order of a pass, and both lead to one partition
abbrev pub WavesAreAPass : Type 0
WavesAreAPass =
    (h : Hyper) (k l : ℕ) (ends : ℕ × ℕ → Option PairEnd) (p : List ℕ)
    → IsHypergraph h → IsPartition h k p → Fits h k l p → AreTurns h k l ends (waves k) p
    → AreTurns h k l ends (block_pairs k) p × (after_turns ends (block_pairs k) p ≡ after_turns ends (waves k) p)
