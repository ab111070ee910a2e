use Rattle.std.proofs.Common.{◌-◌, vec_len}
use Rattle.flow_pair.proofs.notes.make_runs.Given as goal

abbrev pub decreases-loop-alloc : goal.decreases-loop-alloc
decreases-loop-alloc l = l.count - vec_len l.runs
