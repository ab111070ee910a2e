-- Lists that hold the cut nets of a partition, and maybe others.
use Rattle.std.specs.Prelude.{◌≡◌, ◌≢◌, ℕ, ◌+◌, ◌*◌, ◌/◌, ◌<◌, ◌≤◌, List, [], ◌++◌, All, Contains, true, ◌&&◌, length, slice_index_or, slice_set}
use Rattle.std.specs.List.{flat_map}
use Rattle.hg_defs.specs.declared.moves.Move.{Move}
use Rattle.hg_defs.specs.Hypergraph.{Hyper, net_count, net_of}
use Rattle.hg_defs.specs.Incidence.{nets_of}
use Rattle.round_log.specs.Rounds.{has_pin}

-- each net with pins in both blocks is in the list
abbrev pub HoldsTouching : Hyper → List ℕ → ℕ → ℕ → List ℕ → Type 0
HoldsTouching h p a b list = (e : ℕ) → e < net_count h → (has_pin p (net_of h e) a && has_pin p (net_of h e) b) ≡ true → Contains list e

-- a list of nets, in which each net is that touches the block and another one
pub record HoldsCutOf (h : Hyper) (p : List ℕ) (a : ℕ) (list : List ℕ) : Type 0 where
  pub nets : All (λ e. e < net_count h) list
  pub all : (b : ℕ) → b ≢ a → HoldsTouching h p a b list

-- for each of k blocks such a list
pub record AreCutLists (h : Hyper) (k : ℕ) (p : List ℕ) (lists : List (List ℕ)) : Type 0 where
  pub count : length lists ≡ k
  pub each : (a : ℕ) → a < k → HoldsCutOf h p a (slice_index_or lists a [])

-- for each of k blocks a list of nets, in which each net of a run is that touches it and another one
pub record AreCutListsIn (h : Hyper) (k : ℕ) (p : List ℕ) (from to : ℕ) (lists : List (List ℕ)) : Type 0 where
  pub count : length lists ≡ k
  pub nets : (a : ℕ) → a < k → All (λ e. e < net_count h) (slice_index_or lists a [])
  pub all : (a b : ℕ) → a < k → b ≢ a → (e : ℕ) → from ≤ e → e < to → (has_pin p (net_of h e) a && has_pin p (net_of h e) b) ≡ true
      → Contains (slice_index_or lists a []) e

-- such lists for run i, where the nets are cut into so many runs
abbrev pub AreCutListsOfRun : Hyper → ℕ → List ℕ → ℕ → ℕ → List (List ℕ) → Type 0
AreCutListsOfRun h k p runs i = AreCutListsIn h k p (net_count h * i / runs) (net_count h * (i + 1) / runs)

-- a net is in the list of each block that it touches beside another one
abbrev pub IsNotedIn : Hyper → List ℕ → ℕ → List (List ℕ) → Type 0
IsNotedIn h p e lists = (a b : ℕ) → b ≢ a → (has_pin p (net_of h e) a && has_pin p (net_of h e) b) ≡ true → Contains (slice_index_or lists a []) e

-- to each list the one at the same place was appended
pub record AreJoined (xs ys joined : List (List ℕ)) : Type 0 where
  pub count : length joined ≡ length xs
  pub each : (a : ℕ) → a < length xs → slice_index_or joined a [] ≡ slice_index_or xs a [] ++ slice_index_or ys a []

-- no list lost a number, and none got one that isn't below the bound
pub record KeepNets (m : ℕ) (old new : List (List ℕ)) : Type 0 where
  pub count : length new ≡ length old
  pub below : (a : ℕ) → All (λ e. e < m) (slice_index_or old a []) → All (λ e. e < m) (slice_index_or new a [])
  pub kept : (a e : ℕ) → Contains (slice_index_or old a []) e → Contains (slice_index_or new a []) e

-- the lists after the nets of moved vertices were appended to that of a block
abbrev pub with_nets : Hyper → List Move → List (List ℕ) → ℕ → List (List ℕ)
with_nets h moves lists a = slice_set lists a (slice_index_or lists a [] ++ flat_map (λ (m : Move). nets_of h m.vertex) moves)
