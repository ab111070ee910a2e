-- The nets of a vertex.
use Rattle.std.specs.Prelude.{ℕ, List, filter, Bool, nat_eq}
use Rattle.std.specs.List.{range_with_len}
use Rattle.std.specs.Set.{is_member}
use Rattle.hg_defs.specs.Hypergraph.{Hyper, net_count, net_of}

-- whether the vertex is one of the pins
abbrev pub is_pin : List ℕ → ℕ → Bool
is_pin pins v = is_member nat_eq pins v

-- whether the net of this number holds the vertex
abbrev pub is_on : Hyper → ℕ → ℕ → Bool
is_on h v e = is_pin (net_of h e).pins v

-- the nets that hold the vertex, in rising number
abbrev pub nets_of : Hyper → ℕ → List ℕ
nets_of h v = filter (is_on h v) (range_with_len 0 (net_count h))
