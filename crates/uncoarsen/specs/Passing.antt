-- What refining one level does, and what refining all levels from one down to the file does: to the log, to the tallies and to the partition.
use Rattle.std.specs.Prelude.{◌≡◌, ℕ, List, ◌++◌}
use Rattle.hg_defs.specs.Hypergraph.{Hyper}
use Rattle.pin_plain.specs.Parted.{Parted}
use Rattle.round_log.specs.declared.record.Kind.{Kind}
use Rattle.round_log.specs.declared.record.LoggedRound.{LoggedRound}
use Rattle.round_log.specs.Trace.{IsDescent}
use Rattle.round_log.specs.TraceLaws.{IsSound}
use Rattle.level_stack.specs.Stack.{Stack}
use Rattle.refiner.specs.declared.pass.Task.{Task}
use Rattle.refiner.specs.declared.pass.Tally.{Tally}
use Rattle.uncoarsen.specs.Refined.{IsRefinedBy, tallies_with}

-- the log gained the rounds of the task's level, which lead from p to q, and each tally counts those of its kind
pub record RefinesLevel (kinds : List Kind) (h : Hyper) (task : Task) (p : Parted) (before after : List Tally) (old new : List LoggedRound)
    (q : Parted) : Type 0 where
  pub rounds : List LoggedRound
  pub log : new ≡ old ++ rounds
  pub refined : IsRefinedBy kinds p.k p.limit task.workers task.level h p.blocks rounds q.blocks
  pub leads : q ≡ record p { blocks = q.blocks }
  pub tallies : after ≡ tallies_with rounds kinds before

-- the log gained the rounds of all levels from that of a number down, which lead from its partition to q, a sound one of the file
pub record RefinesDown (kinds : List Kind) (s : Stack) (number : ℕ) (placed : List ℕ) (k l workers : ℕ) (before after : List Tally)
    (old new : List LoggedRound) (q : Parted) : Type 0 where
  pub rounds : List LoggedRound
  pub log : new ≡ old ++ rounds
  pub descent : IsDescent (IsRefinedBy kinds k l workers) s.base s.maps number placed rounds q.blocks
  pub leads : q ≡ record { hyper = s.base; k = k; limit = l; blocks = q.blocks }
  pub sound : IsSound s.base k l q.blocks
  pub tallies : after ≡ tallies_with rounds kinds before
