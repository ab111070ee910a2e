-- Cycles by refiners of given kinds, and the rounds of several cycles.
use Rattle.std.specs.Prelude.{◌≡◌, ℕ, List, [], ◌∷◌, length}
use Rattle.std.specs.List.{flat_map}
use Rattle.hg_defs.specs.Hypergraph.{Hyper}
use Rattle.hg_defs.specs.Levels.{lifted_to}
use Rattle.round_log.specs.declared.record.Kind.{Kind}
use Rattle.round_log.specs.declared.record.Chosen.TheVariants.{Levels}
use Rattle.round_log.specs.declared.record.LoggedRound.{LoggedRound}
use Rattle.round_log.specs.declared.record.Trace.{Trace}
use Rattle.round_log.specs.Trace.{IsDescended}
use Rattle.round_log.specs.Cycles.{IsInsideAt}
use Rattle.uncoarsen.specs.Refined.{IsRefinedBy}

-- a cycle that leads from p to q: p is coarsened inside its blocks, each level has a pass of each kind, and sweeps follow
pub record IsCycleBy (kinds : List Kind) (h : Hyper) (k l workers : ℕ) (trace : Trace) (p q : List ℕ) : Type 0 where
  pub start : trace.start ≡ length trace.maps
  pub first : trace.first ≡ lifted_to p trace.maps trace.start
  pub chosen : trace.chosen ≡ Levels
  pub descended : IsDescended (IsInsideAt k trace.maps p) (IsRefinedBy kinds k l workers) h k l trace trace.last q

-- cycles that lead from p to q, one after the other
abbrev pub AreCyclesBy : List Kind → Hyper → ℕ → ℕ → ℕ → List Trace → List ℕ → List ℕ → Type 0
AreCyclesBy kinds h k l workers [] p q = q ≡ p
AreCyclesBy kinds h k l workers (trace ∷ cycles) p q =
    (reached : List ℕ) × IsCycleBy kinds h k l workers trace p reached × AreCyclesBy kinds h k l workers cycles reached q

-- the rounds of several cycles, in order
abbrev pub rounds_of_cycles : List Trace → List LoggedRound
rounds_of_cycles cycles = flat_map (λ trace. trace.rounds) cycles
