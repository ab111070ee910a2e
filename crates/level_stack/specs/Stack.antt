-- A stack of levels: each is the contraction of the one below it, and the books of each contraction are kept.
use Rattle.std.specs.Prelude.{◌≡◌, ℕ, suc, ◌+◌, ◌<◌, ◌^◌, List, [], length, slice_index_or}
use Rattle.hg_defs.specs.Hypergraph.{Hyper}
use Rattle.hg_defs.specs.Contraction.{IsFull, IsApart}
use Rattle.hg_defs.specs.Clustering.{cluster_count}
use Rattle.hg_defs.specs.Levels.{level, map_of}
use Rattle.contract_nets.specs.declared.ledger.Merged.{Merged}
use Rattle.contract_nets.specs.Ledger.{IsLedger}

-- the first level, the clusterings that lead from each level to the next, and the ledgers of these contractions
pub record Stack : Type 0 where
  pub base : Hyper
  pub maps : List (List ℕ)
  pub ledgers : List (List Merged)

-- the ledger of a number
abbrev pub ledger_of : Stack → ℕ → List Merged
ledger_of s i = let no_ledger : List Merged = [] in slice_index_or s.ledgers i no_ledger

-- the first of some levels, given those below the last one, and the last one
abbrev pub first_of : List Hyper → Hyper → Hyper
first_of below last = slice_index_or below 0 last

-- a clustering and a ledger that lead from a level to the next
pub record LeadsUp (fine : Hyper) (clusters : List ℕ) (coarse : Hyper) (ledger : List Merged) : Type 0 where
  pub full : IsFull fine clusters (cluster_count clusters)
  pub apart : IsApart fine clusters
  pub books : IsLedger fine clusters coarse ledger

-- all levels are kept, and each clustering and ledger leads to the next level
pub record IsStacked (s : Stack) (kept : List Hyper) : Type 0 where
  pub levels : length kept ≡ length s.maps + 1
  pub ledgers : length s.ledgers ≡ length s.maps
  pub few : length s.maps + 1 < 2 ^ 32
  pub at : (i : ℕ) (h : Hyper) → i < length kept → slice_index_or kept i h ≡ level s.base s.maps i
  pub leads : (i : ℕ) → i < length s.maps → LeadsUp (level s.base s.maps i) (map_of s.maps i) (level s.base s.maps (suc i)) (ledger_of s i)
