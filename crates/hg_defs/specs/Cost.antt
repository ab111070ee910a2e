-- The cost of a partition: what each net pays for the number of blocks that it touches.
use Rattle.std.specs.Prelude.{ℕ, zero, suc, ◌*◌, List, map, nat_eq}
use Rattle.std.specs.Set.{distinct_count}
use Rattle.hg_defs.specs.declared.objective.Objective.{Objective}
use Rattle.hg_defs.specs.declared.objective.Objective.TheVariants.{Connectivity, CutNet, ExternalDegree}
use Rattle.hg_defs.specs.Sums.{total}
use Rattle.hg_defs.specs.Hypergraph.{Net, Hyper}
use Rattle.hg_defs.specs.Partition.{block_of}

-- how many blocks the pins touch: the connectivity of a net
abbrev pub connectivity : List ℕ → List ℕ → ℕ
connectivity p pins = distinct_count nat_eq (map (block_of p) pins)

-- what a net of weight 1 pays where it touches two blocks or more
abbrev pub cut_price : Objective → ℕ → ℕ
cut_price Connectivity blocks = blocks
cut_price CutNet blocks = 1
cut_price ExternalDegree blocks = suc blocks

-- what a net of weight 1 pays for the number of blocks that it touches: nothing for one or none
abbrev pub price : Objective → ℕ → ℕ
price o zero = 0
price o (suc zero) = 0
price o (suc (suc n)) = cut_price o (suc n)

abbrev pub net_cost : Objective → List ℕ → Net → ℕ
net_cost o p e = e.weight * price o (connectivity p e.pins)

abbrev pub cost : Hyper → List ℕ → ℕ
cost h p = total (net_cost h.objective p) h.nets
