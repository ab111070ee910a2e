use Rattle.std.proofs.Common.{◌≡◌, vec_len}
use Rattle.hg_defs.specs.Hypergraph.{vertex_count}
use Rattle.fm_search.proofs.seeds.united.Given as goal

abbrev pub invariant-lists : goal.invariant-lists
invariant-lists l = vec_len l.all ≡ vertex_count l.h
