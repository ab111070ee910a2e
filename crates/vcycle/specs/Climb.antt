-- The way up of a cycle.
use Rattle.std.specs.Prelude.{◌≡◌, ℕ, List, length}
use Rattle.hg_defs.specs.Hypergraph.{Hyper}
use Rattle.hg_defs.specs.Levels.{coarsest, lifted_to}
use Rattle.round_log.specs.declared.record.Stop.{Stop}
use Rattle.round_log.specs.Trace.{AreContracted, IsStop}
use Rattle.round_log.specs.Cycles.{IsInsideAt}
use Rattle.level_stack.specs.Stack.{Stack}
use Rattle.uncoarsen.specs.Start.{ArePartable}

-- the levels to which coarsening inside the blocks of p leads, why there are no more of them, and p carried up to the coarsest
pub record ClimbsInside (h : Hyper) (k : ℕ) (p : List ℕ) (s : Stack) (stop : Stop) (number : ℕ) (first : List ℕ) : Type 0 where
  pub base : s.base ≡ h
  pub levels : AreContracted (IsInsideAt k s.maps p) 0 h k s.maps
  pub stopped : IsStop (IsInsideAt k s.maps p) (length s.maps) (coarsest h s.maps) k stop
  pub on_top : number ≡ length s.maps
  pub carried : first ≡ lifted_to p s.maps number
  pub partable : ArePartable s k
