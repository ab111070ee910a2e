use Rattle.std.proofs.Common.{◌≡◌, ◌+◌, ◌-◌, ◌≤◌, vec_len}
use Rattle.std.specs.Vec.{vec_capacity}
use Rattle.pin_plain.specs.Quiet.{AreQuiet}
use Rattle.pin_plain.specs.Scores.{IsClear}
use Rattle.pin_plain.proofs.SweepLaws.{IsSweeping}
use Rattle.pin_plain.proofs.partition.Partition.sweep_marked.Given as goal

abbrev pub invariant-loop-v : goal.invariant-loop-v
invariant-loop-v l = record {
  same : l.self ≡ record l.initial.self { blocks = l.self.blocks };
  sweeping : IsSweeping l.h l.initial.self.k l.initial.self.limit l.initial.self.blocks l.self.blocks l.v l.initial.moves.items l.moves.items;
  clear : IsClear l.scores.sums;
  quiet : AreQuiet l.h l.initial.self.k l.self.blocks l.marks;
  room : vec_len l.moves + (l.count - l.v) ≤ vec_capacity l.moves;
}
