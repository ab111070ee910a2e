-- The weights so far are 0.
use Rattle.std.proofs.Common.{◌≡◌, ◌≤◌, ◌^◌, ◌++◌, drop, replicate}
use Rattle.hg_defs.specs.Hypergraph.{total_weight}
use Rattle.contract_nets.proofs.vertices.clear_weights.Given as goal

abbrev pub invariant-loop-i : goal.invariant-loop-i
invariant-loop-i l = record {
  rest : l.coarse ≡ record l.initial.coarse { weights = l.coarse.weights };
  weights : l.coarse.weights ≡ replicate l.i 0 ++ drop l.i l.initial.coarse.weights;
  small : total_weight l.coarse ≤ 2 ^ 22;
}
