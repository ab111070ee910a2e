use Rattle.std.proofs.Common.{◌≡◌, take}
use Rattle.hg_defs.specs.Replay.{replay}
use Rattle.pin_plain.proofs.partition.replay.write_blocks.Given as goal

abbrev pub invariant-loop-step : goal.invariant-loop-step
invariant-loop-step l = l.blocks ≡ replay l.initial.blocks (take l.step-index l.moves)
