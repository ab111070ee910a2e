-- The levels so far have their rounds, and the partition is one of the last of them, whose cost is known.
use Rattle.std.proofs.Common.{◌≡◌, ◌-◌}
use Rattle.hg_defs.specs.Cost.{cost}
use Rattle.level_stack.specs.Down.{Down}
use Rattle.det_sync.proofs.DescentLaws.{IsDown}
use Rattle.det_sync.proofs.descent.sync_down.Given as goal

abbrev pub invariant-loop-above : goal.invariant-loop-above
invariant-loop-above g l = record {
  on : (let d : Down = record { base = l.fn.levels.base; maps = l.fn.levels.maps; number = l.start - l.above } in l.levels ≡ d);
  down : IsDown l.fn.levels.base l.fn.levels.maps l.workers l.start l.fn.p l.fn.log (l.start - l.above) l.p l.log;
  cost_is : l.reached ≡ cost l.p.hyper l.p.blocks;
}
