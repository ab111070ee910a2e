use Rattle.std.proofs.Common.{◌≡◌, length, pos, ◌-ℤ◌}
use Rattle.hg_defs.specs.Cost.{cost}
use Rattle.hg_defs.specs.Replay.{replay_first}
use Rattle.pin_plain.specs.Parted.{IsLoaded}
use Rattle.rollback_prefix.specs.Loads.{overloaded}
use Rattle.rollback_prefix.proofs.BestLaws.{IsBestUpTo}
use Rattle.rollback_prefix.proofs.prefix.best_kept.Given as goal

-- the loads and the cost after the moves so far, and the best prefix of them
abbrev pub invariant-loop-i : goal.invariant-loop-i
invariant-loop-i l = record {
  loaded : IsLoaded l.h (length l.fn.loads) (replay_first l.before l.moves l.i) l.loads;
  over : l.over ≡ overloaded l.limit l.loads;
  saved : l.saved ≡ pos (cost l.h l.before) -ℤ pos (cost l.h (replay_first l.before l.moves l.i));
  most : l.most ≡ pos (cost l.h l.before) -ℤ pos (cost l.h (replay_first l.before l.moves l.kept));
  best : IsBestUpTo l.h (length l.fn.loads) l.limit l.before l.moves l.i l.kept;
}
