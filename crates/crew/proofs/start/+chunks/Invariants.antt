use Rattle.std.proofs.Common.{◌+◌, ◌-◌, ◌*◌}
use Rattle.crew.proofs.start.+chunks.Given as goal

abbrev pub decreases-chunks_from : goal.decreases-chunks_from
decreases-chunks_from g l = 4 * l.count

abbrev pub decreases-beside : goal.decreases-beside
decreases-beside g l = 4 * (l.few + l.many) - 1

abbrev pub decreases-beside-front : goal.decreases-beside-front
decreases-beside-front g l = 4 * l.few + 1

abbrev pub decreases-beside-back : goal.decreases-beside-back
decreases-beside-back g l = 4 * l.many + 1
