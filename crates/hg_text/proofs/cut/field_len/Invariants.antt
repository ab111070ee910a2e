use Rattle.std.proofs.Common.{◌≤◌, ◌-◌, length}
use Rattle.hg_text.specs.Kept.{is_blank}
use Rattle.hg_text.specs.Cut.{FailsBelow}
use Rattle.hg_text.proofs.cut.field_len.Given as goal

abbrev pub invariant-loop-end : goal.invariant-loop-end
invariant-loop-end l = (1 ≤ l.end) × (l.end ≤ length l.line) × FailsBelow is_blank l.line l.end

abbrev pub decreases-loop-end : goal.decreases-loop-end
decreases-loop-end l = length l.line - l.end
