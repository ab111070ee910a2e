-- The text of a hypergraph: lines of numbers in decimal digits, with one blank between them.
use Rattle.std.specs.Prelude.{ℕ, ◌+◌, Bool, not, ◌||◌, ◌==◌, if◌then◌else◌, List, [], ◌∷◌, ◌++◌, length, map}
use Rattle.std.specs.List.{flat_map, list_any}
use Rattle.hg_defs.specs.Hypergraph.{Net, Hyper, vertex_count, net_count}
use Rattle.part_text.specs.NumberLines.{numbers_line}

-- the weights of nets are written where one isn't 1, and where a net has no pins, since its line would be empty
abbrev pub needs_weight : Net → Bool
needs_weight e = not (e.weight == 1) || (length e.pins == 0)

abbrev pub are_nets_weighted : Hyper → Bool
are_nets_weighted h = list_any needs_weight h.nets

-- the weights of vertices are written where one isn't 1
abbrev pub are_vertices_weighted : Hyper → Bool
are_vertices_weighted h = list_any (λ w. not (w == 1)) h.weights

-- the format says whether nets and vertices have weights, and is left out where neither do
abbrev pub format : Bool → Bool → List ℕ
format nets vertices = if nets then (if vertices then 11 else 1) ∷ [] else (if vertices then 10 ∷ [] else [])

-- the vertices of a net are counted from 1, and its weight comes first
abbrev pub net_numbers : Bool → Net → List ℕ
net_numbers weighted e = let pins = map (λ v. v + 1) e.pins in if weighted then e.weight ∷ pins else pins

-- the numbers of each line: the header, the nets, and the weights of vertices
abbrev pub hypergraph_lines : Hyper → List (List ℕ)
hypergraph_lines h =
    (net_count h ∷ vertex_count h ∷ format (are_nets_weighted h) (are_vertices_weighted h))
    ∷ map (net_numbers (are_nets_weighted h)) h.nets
    ++ (if are_vertices_weighted h then map (λ w. w ∷ []) h.weights else [])

abbrev pub hypergraph_text : Hyper → List ℕ
hypergraph_text h = flat_map numbers_line (hypergraph_lines h)
