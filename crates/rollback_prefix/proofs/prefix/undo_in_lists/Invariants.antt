use Rattle.std.proofs.Common.{length}
use Rattle.rollback_prefix.proofs.LoadLaws.{IsUndoing}
use Rattle.rollback_prefix.proofs.prefix.undo_in_lists.Given as goal

abbrev pub invariant-loop-step : goal.invariant-loop-step
invariant-loop-step l = IsUndoing l.h (length l.fn.loads) l.fn.blocks l.moves l.step-index l.blocks l.loads
