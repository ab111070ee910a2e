use Rattle.std.proofs.Common.{◌≡◌, All, length}
use Rattle.hg_defs.specs.Hypergraph.{vertex_count}
use Rattle.fm_search.specs.Opened.{IsBelow}
use Rattle.fm_search.proofs.openings.forget_moved.Given as goal

abbrev pub invariant-vertices : goal.invariant-vertices
invariant-vertices l = record {
  known : length l.blocks ≡ vertex_count l.h;
  long : length l.all ≡ vertex_count l.h;
  below : All (IsBelow l.terms.part.k) l.all;
}

abbrev pub invariant-nets : goal.invariant-nets
invariant-nets l = record {
  known : length l.blocks ≡ vertex_count l.h;
  long : length l.all ≡ vertex_count l.h;
  below : All (IsBelow l.terms.part.k) l.all;
}

abbrev pub invariant-pins : goal.invariant-pins
invariant-pins l = record {
  known : length l.blocks ≡ vertex_count l.h;
  long : length l.all ≡ vertex_count l.h;
  below : All (IsBelow l.terms.part.k) l.all;
}
