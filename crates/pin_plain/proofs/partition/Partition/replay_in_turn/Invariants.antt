use Rattle.std.proofs.Common.{◌≡◌, take}
use Rattle.hg_defs.specs.Replay.{replay}
use Rattle.pin_plain.proofs.partition.Partition.replay_in_turn.Given as goal

abbrev pub invariant-loop-step : goal.invariant-loop-step
invariant-loop-step l = l.self ≡ record l.initial.self { blocks = replay l.initial.self.blocks (take l.step-index l.moves) }
