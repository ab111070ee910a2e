use Rattle.std.proofs.Common.{take}
use Rattle.hg_defs.specs.Moves.{moved}
use Rattle.pin_plain.specs.Counts.{HoldsCounts, HaveSpreadsBetween, counts_between}
use Rattle.pin_plain.proofs.counts.move_pin.Given as goal

abbrev pub invariant-loop-e : goal.invariant-loop-e
invariant-loop-e l = record {
  counted : HoldsCounts l.h l.k l.words (counts_between l.h l.blocks (moved l.blocks l.v l.to) (take l.e-index l.e-items));
  spreads : HaveSpreadsBetween l.h l.k l.blocks (moved l.blocks l.v l.to) (take l.e-index l.e-items) l.words;
}
