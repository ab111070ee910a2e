-- The gains of replayed moves, net by net.
use Rattle.std.specs.Prelude.{◌≡◌, ◌≢◌, ℕ, ◌+◌, ◌*◌, ◌^◌, ◌<◌, ◌≤◌, List, length, All, AllPairs, Contains, slice_index_or, ℤ, pos, ◌-ℤ◌, ◌≤ℤ◌}
use Rattle.hg_defs.specs.declared.moves.Move.{Move}
use Rattle.hg_defs.specs.Sums.{total}
use Rattle.hg_defs.specs.Hypergraph.{Hyper, IsHypergraph, IsWithinLimits, net_count, net_of}
use Rattle.hg_defs.specs.Partition.{IsPartition}
use Rattle.hg_defs.specs.Incidence.{nets_of}
use Rattle.hg_defs.specs.Cost.{net_cost}
use Rattle.hg_defs.specs.Replay.{replay_first}
use Rattle.rollback_prefix.specs.Steps.{StartFrom}

-- what some nets, given by number, cost together
abbrev pub cost_of_nets : Hyper → List ℕ → List ℕ → ℕ
cost_of_nets h p nets = total (λ e. net_cost h.objective p (net_of h e)) nets

-- what they save by the move of a place
abbrev pub saved_by_nets : Hyper → List ℕ → List Move → List ℕ → ℕ → ℤ
saved_by_nets h p moves nets i =
    pos (cost_of_nets h (replay_first p moves i) nets) -ℤ pos (cost_of_nets h (replay_first p moves (i + 1)) nets)

-- what one net saves by the move of a place
abbrev pub saved_by_net : Hyper → List ℕ → List Move → ℕ → ℕ → ℤ
saved_by_net h p moves e i =
    pos (net_cost h.objective (replay_first p moves i) (net_of h e))
    -ℤ pos (net_cost h.objective (replay_first p moves (i + 1)) (net_of h e))

-- each gain is what these nets save by its move
pub record AreSavings (h : Hyper) (p : List ℕ) (moves : List Move) (nets : List ℕ) (gains : List ℤ) : Type 0 where
  pub size : length gains ≡ length moves
  pub each : (i : ℕ) → i < length moves → slice_index_or gains i (pos 0) ≡ saved_by_nets h p moves nets i

-- the weights of some nets, each counted for each pin
abbrev pub pin_weight : Hyper → List ℕ → ℕ
pin_weight h nets = total (λ e. (net_of h e).weight * length (net_of h e).pins) nets

-- a number of the run that begins at first and ends before end
abbrev pub IsInRun : ℕ → ℕ → ℕ → Type 0
IsInRun first end e = (first ≤ e) × (e < end)

-- different nets of a run of numbers, among them each with a pin that moves
pub record AreTouchedOf (h : Hyper) (moves : List Move) (first end : ℕ) (nets : List ℕ) : Type 0 where
  pub below : All (λ e. e < net_count h) nets
  pub once : AllPairs (λ a b. a ≢ b) nets
  pub each : All (IsInRun first end) nets
  pub all : (i : ℕ) (d : Move) (e : ℕ) → i < length moves → Contains (nets_of h (slice_index_or moves i d).vertex) e → IsInRun first end e → Contains nets e

-- each gain is what the nets of a run of numbers save by its move
pub record AreSavingsOf (h : Hyper) (p : List ℕ) (moves : List Move) (first end : ℕ) (gains : List ℤ) : Type 0 where
  pub nets : List ℕ
  pub touched : AreTouchedOf h moves first end nets
  pub savings : AreSavings h p moves nets gains

-- a sound hypergraph, a partition of it into at most 256 blocks, and moves from there
pub record IsReplay (h : Hyper) (k : ℕ) (p : List ℕ) (moves : List Move) : Type 0 where
  pub sound : IsHypergraph h
  pub bounds : IsWithinLimits h
  pub few : k ≤ 256
  pub partition : IsPartition h k p
  pub steps : StartFrom h k p moves

-- the sums are small enough for one more net
abbrev pub AreSmall : List ℤ → Type 0
AreSmall gains = (i : ℕ) → i < length gains → ((pos 0 -ℤ pos (2 ^ 60)) ≤ℤ slice_index_or gains i (pos 0)) × (slice_index_or gains i (pos 0) ≤ℤ pos (2 ^ 60))
