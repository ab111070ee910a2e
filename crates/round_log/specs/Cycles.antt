-- Cycles: a partition is coarsened inside its blocks, refined from the coarsest level down, and swept.
use Rattle.std.specs.Prelude.{◌≡◌, ℕ, List, [], ◌∷◌, length}
use Rattle.hg_defs.specs.Hypergraph.{Hyper, total_weight}
use Rattle.hg_defs.specs.Clustering.{cluster_cap, IsInside}
use Rattle.hg_defs.specs.Levels.{lifted_to}
use Rattle.round_log.specs.declared.record.Chosen.TheVariants.{Levels}
use Rattle.round_log.specs.declared.record.Trace.{Trace}
use Rattle.round_log.specs.Trace.{IsRefined, IsDescended}

-- a clustering of the level of a number inside the blocks of the partition p of the file, carried up to that level
abbrev pub IsInsideAt : ℕ → List (List ℕ) → List ℕ → ℕ → Hyper → List ℕ → Type 0
IsInsideAt k maps p number h clusters = IsInside h (cluster_cap (total_weight h) k) (lifted_to p maps number) clusters

-- a cycle that leads from p to q
pub record IsCycle (h : Hyper) (k l workers : ℕ) (trace : Trace) (p q : List ℕ) : Type 0 where
  pub start : trace.start ≡ length trace.maps
  pub first : trace.first ≡ lifted_to p trace.maps trace.start
  pub chosen : trace.chosen ≡ Levels
  pub descended : IsDescended (IsInsideAt k trace.maps p) (IsRefined k l workers) h k l trace trace.last q

-- cycles that lead from p to q, one after the other
abbrev pub AreCycles : Hyper → ℕ → ℕ → ℕ → List Trace → List ℕ → List ℕ → Type 0
AreCycles h k l workers [] p q = q ≡ p
AreCycles h k l workers (trace ∷ cycles) p q =
    (reached : List ℕ) × IsCycle h k l workers trace p reached × AreCycles h k l workers cycles reached q
