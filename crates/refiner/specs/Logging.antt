-- What a refiner logs of a pass, and what it tallies.
use Rattle.std.specs.Prelude.{◌≡◌, ◌+◌, Bool, true, List, ◌++◌, length, All}
use Rattle.hg_defs.specs.Sums.{total}
use Rattle.hg_defs.specs.Hypergraph.{Hyper}
use Rattle.pin_plain.specs.Parted.{Parted}
use Rattle.round_log.specs.declared.record.Kind.{Kind}
use Rattle.round_log.specs.declared.record.LoggedRound.{LoggedRound}
use Rattle.round_log.specs.Rounds.{after_rounds}
use Rattle.round_log.specs.Passes.{ArePassRounds, saved}
use Rattle.refiner.specs.declared.pass.Task.{Task}
use Rattle.refiner.specs.declared.pass.Tally.{Tally}

-- the log gained rounds of the task's level, which are those of a pass from p, a whole one or its first ones, and the tally counts just them
pub record LogsRounds (whole : Bool) (kind : Kind) (h : Hyper) (task : Task) (p : Parted) (before after : Tally) (old new : List LoggedRound) : Type 0 where
  pub rounds : List LoggedRound
  pub log : new ≡ old ++ rounds
  pub pass : ArePassRounds whole kind h p.k p.limit task.workers p.blocks rounds
  pub level : All (λ r. r.level ≡ task.level) rounds
  pub count : after.rounds ≡ before.rounds + length rounds
  pub gain : after.gain ≡ before.gain + total saved rounds

-- they are those of a whole pass, which leads from p to q
pub record LogsPass (kind : Kind) (h : Hyper) (task : Task) (p : Parted) (before after : Tally) (old new : List LoggedRound) (q : Parted) : Type 0 where
  pub logged : LogsRounds true kind h task p before after old new
  pub leads : q ≡ record p { blocks = after_rounds p.blocks logged.rounds }
