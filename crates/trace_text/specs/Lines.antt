-- The lines of reports: a label and numbers in decimal digits, with one blank between them, and a line feed.
use Rattle.std.specs.Prelude.{ℕ, List, [], ◌++◌, map, codes, Bool, true, false}
use Rattle.std.specs.List.{flat_map, enumerate_from, range_with_len}
use Rattle.std.specs.Fmt.{decimal}
use Rattle.hg_defs.specs.declared.objective.Objective.{Objective}
use Rattle.hg_defs.specs.declared.objective.Objective.TheVariants.{Connectivity, CutNet, ExternalDegree}
use Rattle.hg_defs.specs.Hypergraph.{Hyper, vertex_count, net_count, total_weight}
use Rattle.hg_defs.specs.Partition.{load}

-- a label, which ends with a blank, and a number
abbrev pub number_line : List ℕ → ℕ → List ℕ
number_line label n = label ++ decimal n ++ codes "\n"

-- the sizes of a hypergraph, the number of blocks and the limit on their loads
abbrev pub sizes_text : Hyper → ℕ → ℕ → List ℕ
sizes_text h k limit =
    number_line (codes "vertices ") (vertex_count h)
    ++ number_line (codes "nets ") (net_count h)
    ++ number_line (codes "weight ") (total_weight h)
    ++ number_line (codes "blocks ") k
    ++ number_line (codes "limit ") limit

-- the objective has a line where it isn't connectivity
abbrev pub objective_text : Objective → List ℕ
objective_text Connectivity = []
objective_text CutNet = codes "objective cut\n"
objective_text ExternalDegree = codes "objective soed\n"

-- a block and its load
abbrev pub load_line : ℕ × ℕ → List ℕ
load_line load = codes "load " ++ decimal load.0 ++ number_line (codes " ") load.1

-- the loads of the blocks from 0 on
abbrev pub loads_text : List ℕ → List ℕ
loads_text loads = flat_map load_line (enumerate_from 0 loads)

-- the loads of all blocks of a partition
abbrev pub loads_of : Hyper → ℕ → List ℕ → List ℕ
loads_of h k p = map (load h p) (range_with_len 0 k)

-- whether the partition fits
abbrev pub fits_text : Bool → List ℕ
fits_text true = codes "fits yes\n"
fits_text false = codes "fits no\n"
