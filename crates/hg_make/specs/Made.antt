-- Made hypergraphs: of n vertices and n nets, the same at each run.
use Rattle.std.specs.Prelude.{ℕ, ◌+◌, ◌*◌, ◌%◌, [], ◌∷◌, map, replicate}
use Rattle.std.specs.List.{range_with_len}
use Rattle.std.specs.Ordering.{nat_cmp}
use Rattle.hg_defs.specs.declared.objective.TheConstants.{FREE}
use Rattle.hg_defs.specs.declared.objective.Objective.TheVariants.{Connectivity}
use Rattle.hg_defs.specs.Hypergraph.{Net, Hyper}
use Rattle.hg_defs.specs.Sorting.{set_of}

-- net i of n has the vertices i, i + 1 and i * i + 3, modulo n
abbrev pub made_net : ℕ → ℕ → Net
made_net n i = record { weight = 1; pins = set_of nat_cmp (i ∷ (i + 1) % n ∷ (i * i + 3) % n ∷ []) }

-- all weights are 1, and all vertices are free
abbrev pub made : ℕ → Hyper
made n = record {
  weights = replicate n 1;
  nets = map (made_net n) (range_with_len 0 n);
  objective = Connectivity;
  fixes = replicate n FREE;
}
