-- What is left to be made leads from the partition now to that after all moves.
use Rattle.std.proofs.Common.{◌≡◌, drop}
use Rattle.hg_defs.specs.Replay.{replay}
use Rattle.det_sync.proofs.rounds.make.Given as goal

abbrev pub invariant-loop-step : goal.invariant-loop-step
invariant-loop-step l = record {
  same : l.p ≡ record l.fn.p { blocks = l.p.blocks };
  rest : replay l.p.blocks (drop l.step-index l.moves) ≡ replay l.fn.p.blocks l.moves;
}
