-- The text that sums up a run on a made hypergraph: what is the same at each run.
use Rattle.std.specs.Prelude.{ℕ, List, ◌++◌, codes}
use Rattle.hg_defs.specs.Hypergraph.{Hyper, vertex_count, net_count}
use Rattle.hg_defs.specs.Cost.{cost}
use Rattle.hg_defs.specs.LeastLoaded.{greedy}
use Rattle.trace_text.specs.Lines.{number_line}

-- what holds of every outcome
abbrev pub outcome_text : List ℕ
outcome_text = codes "fits yes\nsettled yes\nabove greedy no\ngains exact yes\n"

-- a run with k blocks and this limit on their loads
abbrev pub summary_text : Hyper → ℕ → ℕ → List ℕ
summary_text h k limit =
    number_line (codes "vertices ") (vertex_count h)
    ++ number_line (codes "nets ") (net_count h)
    ++ number_line (codes "blocks ") k
    ++ number_line (codes "limit ") limit
    ++ number_line (codes "greedy ") (cost h (greedy h k))
    ++ outcome_text
