-- The rounds so far lead to the partition as it is now, whose cost is known.
use Rattle.std.proofs.Common.{◌≡◌}
use Rattle.hg_defs.specs.Partition.{Fits}
use Rattle.hg_defs.specs.Cost.{cost}
use Rattle.det_sync.proofs.LevelLaws.{LogsFirst}
use Rattle.det_sync.proofs.rounds.sync_level.Given as goal

abbrev pub invariant-rounds : goal.invariant-rounds
invariant-rounds g l = record {
  same : l.p ≡ record l.initial.p { blocks = l.p.blocks };
  cost_is : l.reached ≡ cost l.h l.p.blocks;
  fits : Fits l.h l.initial.p.k l.initial.p.limit l.p.blocks;
  logged : LogsFirst l.h l.initial.p.k l.initial.p.limit l.workers l.level l.initial.p.blocks l.p.blocks l.initial.log l.log l._made;
}
