-- Each cluster has the fix of its vertices from v on.
use Rattle.std.proofs.Common.{◌≡◌, map, drop}
use Rattle.std.specs.List.{range_with_len}
use Rattle.hg_defs.specs.Hypergraph.{vertex_count}
use Rattle.hg_defs.specs.Contraction.{fix_in}
use Rattle.contract_nets.proofs.vertices.copy_fixes.Given as goal

abbrev pub invariant-loop-v : goal.invariant-loop-v
invariant-loop-v l = record {
  rest : l.coarse ≡ record l.initial.coarse { fixes = l.coarse.fixes };
  fixes : l.coarse.fixes ≡ map (fix_in (drop l.v l.h.fixes) (drop l.v l.clusters)) (range_with_len 0 (vertex_count l.initial.coarse));
}
