use Rattle.std.proofs.Common.{◌≡◌, ◌-◌, ◌^◌, ◌<◌, ◌≤◌, length, take, drop}
use Rattle.std.specs.List.{All}
use Rattle.hg_defs.specs.Hypergraph.{vertex_count}
use Rattle.hmetis_read.specs.Graph.{vertex_in, each}
use Rattle.hmetis_read.proofs.Each.{with_front}
use Rattle.hmetis_read.proofs.vertex.read_vertices.Given as goal

abbrev pub invariant-loop-vertex : goal.invariant-loop-vertex
invariant-loop-vertex l =
    record {
      read : with_front (take l.vertex l.hyper.weights) (each vertex_in (take (vertex_count l.fn.hyper - l.vertex) l.lines.kept))
          ≡ each vertex_in (take (vertex_count l.fn.hyper) l.fn.lines.kept);
      kept : l.lines.kept ≡ drop l.vertex l.fn.lines.kept;
      some : l.vertex ≤ length l.fn.lines.kept;
      count : l.lines.count ≡ l.fn.lines.count;
      weights : All (λ weight. weight < 2 ^ 32) l.hyper.weights;
      size : length l.hyper.weights ≡ vertex_count l.fn.hyper;
      others : l.hyper ≡ record l.fn.hyper { weights = l.hyper.weights };
    }
