-- The best moves so far, and those of the vertices that are left, are those of all.
use Rattle.std.proofs.Common.{◌≡◌, ◌++◌, drop}
use Rattle.pin_plain.specs.BestMoves.{best_moves}
use Rattle.pin_plain.specs.Scores.{IsClear}
use Rattle.pin_plain.proofs.partition.Partition.best_moves.Given as goal

abbrev pub invariant-loop-v : goal.invariant-loop-v
invariant-loop-v l = record {
  clear : IsClear l.scores.sums;
  rest : l.best.items ++ best_moves l.h l.self.k l.self.limit l.self.blocks (drop l.v-index l.listed)
      ≡ best_moves l.h l.self.k l.self.limit l.self.blocks l.listed;
}
