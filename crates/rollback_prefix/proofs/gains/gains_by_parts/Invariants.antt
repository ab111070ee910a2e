use Rattle.std.proofs.Common.{◌*◌}
use Rattle.rollback_prefix.specs.Gains.{AreSavingsOf}
use Rattle.rollback_prefix.proofs.gains.gains_by_parts.Given as goal

-- what the nets of the parts so far save
abbrev pub invariant-loop-part : goal.invariant-loop-part
invariant-loop-part g l = AreSavingsOf l.h l.before l.moves 0 (l.part-index * l.share) l.gains.items
