-- Lists of nets.
use Rattle.std.specs.Prelude.{List, [], ◌∷◌, ◌++◌}
use Rattle.hg_defs.specs.Hypergraph.{Net}

-- the nets of all lists, one list after the other
abbrev pub all_nets : List (List Net) → List Net
all_nets [] = []
all_nets (nets ∷ lists) = nets ++ all_nets lists
