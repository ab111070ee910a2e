use Rattle.std.proofs.Common.{length}
use Rattle.rollback_prefix.proofs.KernelLaws.{IsReplaying}
use Rattle.rollback_prefix.proofs.pins.add_net.Given as goal

abbrev pub invariant-loop-place : goal.invariant-loop-place
invariant-loop-place l = IsReplaying l.h (length l.fn.counts) l.blocks l.moves l.e l.places l.place-index l.counts l.touched l.fn.gains l.gains
