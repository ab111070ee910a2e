use Rattle.std.proofs.Common.{◌≡◌, All, vec_len}
use Rattle.hg_defs.specs.Hypergraph.{vertex_count}
use Rattle.fm_search.proofs.seeds.blank_marks.Given as goal

abbrev pub invariant-lists : goal.invariant-lists
invariant-lists l = (All (λ cut. vec_len cut ≡ vertex_count l.h) l.cuts.items) × (vec_len l.cuts ≡ l._list)
