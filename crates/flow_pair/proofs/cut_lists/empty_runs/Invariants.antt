use Rattle.std.proofs.Common.{◌≡◌, vec_len}
use Rattle.flow_pair.proofs.cut_lists.empty_runs.Given as goal

abbrev pub invariant-loop : goal.invariant-loop
invariant-loop l = vec_len l.runs ≡ l.counter
