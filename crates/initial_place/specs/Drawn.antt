-- The words that are drawn for the free vertices.
use Rattle.std.specs.Prelude.{ℕ, List, map, filter, slice_index}
use Rattle.hg_defs.specs.Hypergraph.{Hyper, vertex_count, vertices, is_free}
use Rattle.hg_defs.specs.Placement.{words, generator}

-- the word of a vertex, beside the vertex
abbrev pub draw_of : List ℕ → ℕ → ℕ × ℕ
draw_of drawn v = (slice_index drawn v, v)

-- the free vertices in rising order, each beside its word
abbrev pub draws_of : Hyper → ℕ → ℕ → List (ℕ × ℕ)
draws_of h seed stream = map (draw_of (words (vertex_count h) (generator seed stream))) (filter (is_free h) (vertices h))
