use Rattle.std.proofs.Common.{◌≡◌}
use Rattle.flow_pair.proofs.ChangeLaws.{IsAssigning}
use Rattle.flow_pair.proofs.round.assign_region.Given as goal

abbrev pub invariant-loop-i : goal.invariant-loop-i
invariant-loop-i l = record {
  same : l.p ≡ record l.initial.p { blocks = l.p.blocks };
  assigning : IsAssigning l.h l.initial.p.blocks l.region l.blocks l.i l.p.blocks l.moves.items;
}
