-- What one round of searches logs and tallies.
use Rattle.std.specs.Prelude.{◌≡◌, ℕ, ◌+◌, ◌^◌, ◌<◌, ◌≤◌, ◌-◌, List, [], ◌∷◌, ◌++◌, length, slice_index_or}
use Rattle.hg_defs.specs.Cost.{cost}
use Rattle.hg_defs.specs.Partition.{Fits}
use Rattle.hg_defs.specs.Hypergraph.{Hyper}
use Rattle.pin_plain.specs.Parted.{Parted}
use Rattle.round_log.specs.declared.record.Kind.TheVariants.{Search}
use Rattle.round_log.specs.declared.record.LoggedRound.{LoggedRound}
use Rattle.round_log.specs.Rounds.{after_round}
use Rattle.round_log.specs.Passes.{IsSearchRound, IsSingleMove, saved}
use Rattle.refiner.specs.declared.pass.Task.{Task}
use Rattle.refiner.specs.declared.pass.Tally.{Tally}

-- a round of searches of the task's level, which leads from p to q and records the cost of q
pub record IsLoggedRound (h : Hyper) (task : Task) (p q : Parted) (r : LoggedRound) : Type 0 where
  pub legal : IsSearchRound h p.k p.limit task.workers p.blocks r
  pub kind : r.kind ≡ Search
  pub level : r.level ≡ task.level
  pub leads : q ≡ record p { blocks = after_round p.blocks r }
  pub fits : Fits h q.k q.limit q.blocks
  pub after : r.after ≡ cost h q.blocks
  pub lower : r.after ≤ r.before
  pub small : r.before < 2 ^ 57

-- the log gained one
pub record LogsSearchRound (h : Hyper) (task : Task) (p q : Parted) (old new : List LoggedRound) : Type 0 where
  pub round : LoggedRound
  pub log : new ≡ old ++ round ∷ []
  pub logged : IsLoggedRound h task p q round

-- the tally counts it, and so many of its moves were kept
pub record TalliesRound (h : Hyper) (task : Task) (p q : Parted) (old new : List LoggedRound) (before after : Tally) (most : ℕ) : Type 0 where
  pub logs : LogsSearchRound h task p q old new
  pub kept : most ≡ logs.round.kept
  pub count : after.rounds ≡ before.rounds + 1
  pub gain : after.gain ≡ before.gain + saved logs.round

-- the last round of a log that isn't empty
abbrev pub last_of : List LoggedRound → LoggedRound → LoggedRound
last_of log d = slice_index_or log (length log - 1) d

-- the round is the single move of this partition, not yet logged
pub record IsSingleRound (h : Hyper) (at : ℕ) (p : Parted) (r : LoggedRound) : Type 0 where
  pub single : IsSingleMove h p.k p.limit p.blocks r
  pub kind : r.kind ≡ Search
  pub level : r.level ≡ at
