-- Each cluster has the weight of its vertices so far.
use Rattle.std.proofs.Common.{◌≡◌, map, take}
use Rattle.std.specs.List.{range_with_len}
use Rattle.hg_defs.specs.Sums.{total}
use Rattle.hg_defs.specs.Hypergraph.{vertex_count, total_weight}
use Rattle.hg_defs.specs.Partition.{weight_in}
use Rattle.contract_nets.proofs.vertices.add_weights.Given as goal

abbrev pub invariant-loop-v : goal.invariant-loop-v
invariant-loop-v l = record {
  rest : l.coarse ≡ record l.initial.coarse { weights = l.coarse.weights };
  weights : l.coarse.weights ≡ map (weight_in (take l.v l.h.weights) (take l.v l.clusters)) (range_with_len 0 (vertex_count l.initial.coarse));
  sum : total_weight l.coarse ≡ total (λ w. w) (take l.v l.h.weights);
}
