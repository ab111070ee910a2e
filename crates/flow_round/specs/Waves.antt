-- What stands while pairs are solved in waves.
use Rattle.std.specs.Prelude.{◌≡◌, ◌≢◌, ◌⊎◌, ℕ, ◌+◌, ◌-◌, ◌<◌, ◌*◌, List, [], All, Contains, true, slice_index_or, Option, None}
use Rattle.hg_defs.specs.declared.moves.Move.{Move}
use Rattle.hg_defs.specs.Hypergraph.{Hyper}
use Rattle.round_log.specs.Rounds.{touching}
use Rattle.pin_plain.specs.Parted.{Parted}
use Rattle.flow_pair.specs.declared.solve.PairEnd.{PairEnd}
use Rattle.flow_round.specs.declared.worker.Found.{Found}
use Rattle.flow_round.specs.declared.worker.Worker.{Worker}
use Rattle.flow_round.specs.PairTurns.{IsPairBelow, IsTurn, is_of_wave}

-- the end of a pair in a table of k times k places
abbrev pub end_at : ℕ → List (Option PairEnd) → ℕ × ℕ → Option PairEnd
end_at k ends x = slice_index_or ends (x.0 * k + x.1) None

-- the moves of a pair in such a table
abbrev pub moves_at : ℕ → List (List Move) → ℕ × ℕ → List Move
moves_at k made x = slice_index_or made (x.0 * k + x.1) []

-- the first blocks of pairs of a wave, among them those below n whose pair is touched by a net
pub record AreTouched (h : Hyper) (p : Parted) (s n : ℕ) (firsts : List ℕ) : Type 0 where
  pub wave : All (λ a. is_of_wave p.k s a ≡ true) firsts
  pub all : (a : ℕ) → a < n → is_of_wave p.k s a ≡ true → touching h p.blocks a (s - a) ≢ [] → Contains firsts a

-- a pair of a wave
pub record IsFound (k s : ℕ) (t : Found) : Type 0 where
  pub below : IsPairBelow k (t.first, t.second)
  pub sum : t.first + t.second ≡ s

-- a pair with its end for a partition
abbrev pub IsDone : Hyper → Parted → Found → Type 0
IsDone h p t = IsTurn h p.k p.limit p.blocks (t.first, t.second) t.end

-- a worker of the hypergraph that found nothing
pub record IsIdle (h : Hyper) (w : Worker) : Type 0 where
  pub solver_is : w.solver ≡ h
  pub none : w.found.items ≡ []

abbrev pub AreWorkers : Hyper → List Worker → Type 0
AreWorkers h workers = All (IsIdle h) workers

-- a worker of the hypergraph that found ends of pairs of a wave for a partition
pub record IsSolved (h : Hyper) (p : Parted) (s : ℕ) (w : Worker) : Type 0 where
  pub solver_is : w.solver ≡ h
  pub found_are : All (IsFound p.k s) w.found.items
  pub done : All (IsDone h p) w.found.items

-- this end was found for the pair
abbrev pub HasEnd : List Found → ℕ × ℕ → Option PairEnd → Type 0
HasEnd found x end = (t : Found) × Contains found t × ((t.first, t.second) ≡ x) × (end ≡ t.end)

-- the pairs of a wave have no ends yet
abbrev pub HaveNoEnds : ℕ → ℕ → List (Option PairEnd) → Type 0
HaveNoEnds k s ends = (x : ℕ × ℕ) → IsPairBelow k x → x.0 + x.1 ≡ s → end_at k ends x ≡ None

-- those pairs of a wave that have an end have that for a partition
abbrev pub MayHaveEnds : Hyper → Parted → ℕ → List (Option PairEnd) → Type 0
MayHaveEnds h p s ends =
    (x : ℕ × ℕ) → IsPairBelow p.k x → x.0 + x.1 ≡ s
    → (end_at p.k ends x ≡ None) ⊎ IsTurn h p.k p.limit p.blocks x (end_at p.k ends x)

-- the pairs of a wave have their ends for a partition
abbrev pub HaveEnds : Hyper → Parted → ℕ → List (Option PairEnd) → Type 0
HaveEnds h p s ends = (x : ℕ × ℕ) → IsPairBelow p.k x → x.0 + x.1 ≡ s → IsTurn h p.k p.limit p.blocks x (end_at p.k ends x)

-- a table in which some pairs of a wave got their ends for the partition, and no other pair got one
abbrev pub MayGainEnd : Hyper → Parted → ℕ → List (Option PairEnd) → List (Option PairEnd) → Type 0
MayGainEnd h p s old new =
    (x : ℕ × ℕ) → IsPairBelow p.k x
    → (end_at p.k new x ≡ end_at p.k old x) ⊎ ((x.0 + x.1 ≡ s) × IsTurn h p.k p.limit p.blocks x (end_at p.k new x))

-- a table in which all pairs of a wave got theirs
pub record GainsEnds (h : Hyper) (p : Parted) (s : ℕ) (old new : List (Option PairEnd)) : Type 0 where
  pub ends : HaveEnds h p s new
  pub others : (x : ℕ × ℕ) → IsPairBelow p.k x → x.0 + x.1 ≢ s → end_at p.k new x ≡ end_at p.k old x
