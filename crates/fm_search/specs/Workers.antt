-- The workers of a round.
use Rattle.std.specs.Prelude.{◌≡◌, ℕ, ◌<◌, List, length, slice_index_or}
use Rattle.move_table.specs.Calls.{RacedRound}
use Rattle.fm_search.specs.declared.worker.Worker.{Worker}
use Rattle.fm_search.specs.Standing.{IsOf}

-- the worker of this number of a round, with memory for so many blocks
pub record IsWorkerAt (r : RacedRound) (k i : ℕ) (w : Worker) : Type 0 where
  pub belongs : IsOf r w.mover
  pub blocks : w.desk.blocks ≡ k
  pub number : w.mover.number ≡ i

-- one that drew no seed yet
pub record IsFreshAt (r : RacedRound) (k i : ℕ) (w : Worker) : Type 0 where
  pub at : IsWorkerAt r k i w
  pub seeds : w.mover.seeds ≡ 0

-- the workers by rising number
abbrev pub AreWorkers : RacedRound → ℕ → List Worker → Type 0
AreWorkers r k workers = (i : ℕ) (w : Worker) → i < length workers → IsWorkerAt r k i (slice_index_or workers i w)

abbrev pub AreFreshWorkers : RacedRound → ℕ → List Worker → Type 0
AreFreshWorkers r k workers = (i : ℕ) (w : Worker) → i < length workers → IsFreshAt r k i (slice_index_or workers i w)
