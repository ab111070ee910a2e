-- What one round of a pass of label propagation leaves.
use Rattle.std.specs.Prelude.{◌≡◌, ℕ, Bool, false, Option, Some, None, List, [], ◌∷◌, ◌++◌}
use Rattle.hg_defs.specs.Hypergraph.{Hyper}
use Rattle.hg_defs.specs.Moves.{IsSettled}
use Rattle.pin_plain.specs.Parted.{Parted}
use Rattle.round_log.specs.declared.record.Kind.TheVariants.{Label}
use Rattle.round_log.specs.declared.record.LoggedRound.{LoggedRound}
use Rattle.round_log.specs.Rounds.{after_round}
use Rattle.round_log.specs.Passes.{IsLabelRound, saved}
use Rattle.refiner.specs.declared.pass.Task.{Task}

-- the log gained one round of label propagation of the task's level, raced or swept, which saved so much and leads from p to q
pub record LogsLabelRound (raced : Bool) (h : Hyper) (task : Task) (p : Parted) (old new : List LoggedRound) (gain : ℕ) (q : Parted) : Type 0 where
  pub round : LoggedRound
  pub log : new ≡ old ++ round ∷ []
  pub kind : round.kind ≡ Label
  pub level : round.level ≡ task.level
  pub legal : IsLabelRound raced h p.k p.limit task.workers p.blocks round
  pub lower : gain ≡ saved round
  pub leads : q ≡ record p { blocks = after_round p.blocks round }

-- a sweep was logged, which saved so much; or the partition was settled, and nothing was done
abbrev pub SweepsOrRests : Hyper → Task → Parted → List LoggedRound → List LoggedRound → Option ℕ → Parted → Type 0
SweepsOrRests h task p old new None q = IsSettled h p.k p.limit p.blocks × (q ≡ p) × (new ≡ old)
SweepsOrRests h task p old new (Some gain) q = LogsLabelRound false h task p old new gain q
