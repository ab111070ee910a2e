use Rattle.std.proofs.Common.{◌+◌, ◌*◌}
use Rattle.fm_search.proofs.beside.+runs.Given as goal

abbrev pub decreases-runs_beside : goal.decreases-runs_beside
decreases-runs_beside g l = 2 * l.count

abbrev pub decreases-back : goal.decreases-back
decreases-back g l = 2 * l.many + 1
