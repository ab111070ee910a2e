-- The record of a race.
use Rattle.std.specs.Prelude.{◌≡◌, ℕ, true, List, [], ◌∷◌, ◌++◌, ℤ}
use Rattle.hg_defs.specs.declared.moves.Move.{Move}
use Rattle.hg_defs.specs.Hypergraph.{Hyper}
use Rattle.pin_plain.specs.Parted.{Parted}
use Rattle.move_table.specs.Closing.{RacedEnd}
use Rattle.round_log.specs.declared.record.Kind.{Kind}
use Rattle.round_log.specs.declared.record.LoggedRound.{LoggedRound}
use Rattle.round_log.specs.Rounds.{IsRaced, after_round}

-- the round is marked, has this kind and level, these moves and gains, and is raced from the partition
pub record RecordsRace (kind : Kind) (level : ℕ) (h : Hyper) (k l : ℕ) (p : List ℕ) (moves : List Move) (gains : List ℤ) (r : LoggedRound) : Type 0 where
  pub tabled : r.tabled ≡ true
  pub same_kind : r.kind ≡ kind
  pub same_level : r.level ≡ level
  pub same_moves : r.moves ≡ moves
  pub same_gains : r.gains ≡ gains
  pub raced : IsRaced h k l p r

-- the log gained one round, which records the race from its opening, and q is the partition after what the round kept
pub record LogsRace (kind : Kind) (level : ℕ) (h : Hyper) (e : RacedEnd) (old new : List LoggedRound) (q : Parted) : Type 0 where
  pub round : LoggedRound
  pub log : new ≡ old ++ round ∷ []
  pub recorded : RecordsRace kind level h e.part.k e.part.limit e.opening e.moves e.gains round
  pub leads : q ≡ record e.part { blocks = after_round e.opening round }
