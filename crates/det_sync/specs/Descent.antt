-- The levels of the deterministic mode, and its descent from the coarsest level down to the file.
use Rattle.std.specs.Prelude.{◌≡◌, ℕ, ◌<◌, ◌≤◌, List, ◌++◌, length, Some, None}
use Rattle.hg_defs.specs.Hypergraph.{Hyper}
use Rattle.hg_defs.specs.Levels.{level, coarsest}
use Rattle.hg_defs.specs.Placement.{named_best}
use Rattle.round_log.specs.declared.record.LoggedRound.{LoggedRound}
use Rattle.round_log.specs.declared.record.Stop.{Stop}
use Rattle.round_log.specs.declared.record.Trace.{Trace}
use Rattle.round_log.specs.Trace.{AreContracted, IsStop, IsDescent}
use Rattle.round_log.specs.Deterministic.{IsPairing, IsDetStart, IsSynced}
use Rattle.round_log.specs.TraceLaws.{IsSound}

-- the clusterings are the pairings of the levels of h while they are contracted, and this is why there are no more
pub record AreDetLevels (h : Hyper) (k : ℕ) (maps : List (List ℕ)) (stop : Stop) : Type 0 where
  pub contracted : AreContracted (IsPairing k) 0 h k maps
  pub stopped : IsStop (IsPairing k) (length maps) (coarsest h maps) k stop

-- no named placement fits on the level of a number
abbrev pub NoneFitsAt : Hyper → List (List ℕ) → ℕ → ℕ → ℕ → ℕ → Type 0
NoneFitsAt h maps k l seed i = named_best (level h maps i) k l seed ≡ None

-- the best named placement of the coarsest level where one fits
pub record IsFirstPlaced (h : Hyper) (maps : List (List ℕ)) (k l seed number : ℕ) (first : List ℕ) : Type 0 where
  pub on_level : number ≤ length maps
  pub none_above : (i : ℕ) → number < i → i ≤ length maps → NoneFitsAt h maps k l seed i
  pub best : named_best (level h maps number) k l seed ≡ Some first
  pub sound : IsSound (level h maps number) k l first

-- the log gained the synchronous rounds from the level of a number down to the file, which lead from the partition first to last
pub record LogsDescent (h : Hyper) (maps : List (List ℕ)) (k l workers number : ℕ) (first last : List ℕ) (old new : List LoggedRound) : Type 0 where
  pub rounds : List LoggedRound
  pub log : new ≡ old ++ rounds
  pub descent : IsDescent (IsSynced k l workers) h maps number first rounds last

-- the trace of a descent through these levels, as far as the last partition of the file
pub record IsDetDescent (h : Hyper) (k l seed workers : ℕ) (maps : List (List ℕ)) (stop : Stop) (trace : Trace) : Type 0 where
  pub same_maps : trace.maps ≡ maps
  pub same_stop : trace.stop ≡ stop
  pub start : IsDetStart h k l seed trace
  pub descent : IsDescent (IsSynced k l workers) h trace.maps trace.start trace.first trace.rounds trace.last
