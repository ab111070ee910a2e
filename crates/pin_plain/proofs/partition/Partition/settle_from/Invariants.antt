use Rattle.std.proofs.Common.{◌≡◌, ◌+◌, ◌<◌, ◌≤◌, ◌^◌}
use Rattle.hg_defs.specs.Cost.{cost}
use Rattle.pin_plain.specs.Quiet.{AreQuiet}
use Rattle.pin_plain.specs.Settling.{AddsSweeps}
use Rattle.pin_plain.proofs.partition.Partition.settle_from.Given as goal

abbrev pub invariant-loop-moves : goal.invariant-loop-moves
invariant-loop-moves l = record {
  same : l.self ≡ record l.initial.self { blocks = l.self.blocks };
  quiet : AreQuiet l.h l.initial.self.k l.self.blocks l.marks.items;
  before : l.before ≡ cost l.h l.self.blocks;
  small : l.before < 2 ^ 57;
  number : l.rounds + l.before ≤ l.initial.before;
  added : AddsSweeps l.h l.initial.self.k l.initial.self.limit l.initial.self.blocks l.self.blocks l.initial.log l.log l.rounds;
}

abbrev pub decreases-loop-moves : goal.decreases-loop-moves
decreases-loop-moves l = l.before
