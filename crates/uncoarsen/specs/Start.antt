-- Where a descent begins.
use Rattle.std.specs.Prelude.{◌≡◌, ℕ, ◌<◌, ◌≤◌, List, length, None}
use Rattle.hg_defs.specs.Hypergraph.{Hyper, IsFixedWithin, Suits}
use Rattle.hg_defs.specs.Partition.{IsPartition, Fits, Obeys}
use Rattle.hg_defs.specs.Levels.{level}
use Rattle.hg_defs.specs.Placement.{named, named_best}
use Rattle.level_stack.specs.Stack.{Stack}
use Rattle.initial_place.specs.Cheapest.{IsNoDearer}

-- a level of the stack
abbrev pub level_of : Stack → ℕ → Hyper
level_of s i = level s.base s.maps i

-- a hypergraph that may be parted into k blocks
pub record IsPartable (h : Hyper) (k : ℕ) : Type 0 where
  pub suits : Suits h k
  pub fixed : IsFixedWithin h k

-- each level of the stack may be
abbrev pub ArePartable : Stack → ℕ → Type 0
ArePartable s k = (i : ℕ) → i ≤ length s.maps → IsPartable (level_of s i) k

-- no named placement of a level fits
abbrev pub NoneFitsAt : Stack → ℕ → ℕ → ℕ → ℕ → Type 0
NoneFitsAt s k l seed i = named_best (level_of s i) k l seed ≡ None

-- a partition of the coarsest level where a named placement fits; it fits, obeys the fixes, and is no dearer than any of them that fits
pub record IsStartAt (s : Stack) (k l seed number : ℕ) (first : List ℕ) : Type 0 where
  pub on_level : number ≤ length s.maps
  pub none_above : (i : ℕ) → number < i → i ≤ length s.maps → NoneFitsAt s k l seed i
  pub partition : IsPartition (level_of s number) k first
  pub fits : Fits (level_of s number) k l first
  pub obeys : Obeys (level_of s number) first
  pub cheapest : IsNoDearer (level_of s number) k l (named (level_of s number) k seed) first
