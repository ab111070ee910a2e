-- The text that evaluates a partition: its exact cost, its loads, and whether it fits.
use Rattle.std.specs.Prelude.{ℕ, List, ◌++◌, codes}
use Rattle.hg_defs.specs.Hypergraph.{Hyper, total_weight}
use Rattle.hg_defs.specs.Partition.{limit, is_fitting}
use Rattle.hg_defs.specs.Cost.{cost}
use Rattle.trace_text.specs.Lines.{number_line, sizes_text, objective_text, loads_text, loads_of, fits_text}

-- the partition p into k blocks, against the limit with eps thousandths
abbrev pub evaluation_text : Hyper → ℕ → ℕ → List ℕ → List ℕ
evaluation_text h k eps p =
    let l = limit (total_weight h) k eps in
    sizes_text h k l
    ++ objective_text h.objective
    ++ number_line (codes "cost ") (cost h p)
    ++ loads_text (loads_of h k p)
    ++ fits_text (is_fitting h k l p)
