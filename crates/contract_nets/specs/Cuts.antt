-- Sorted keys cut into parts that can be merged by themselves.
use Rattle.std.specs.Prelude.{◌≡◌, ◌≢◌, ℕ, ◌+◌, ◌-◌, ◌<◌, ◌≤◌, ◌↔◌, Bool, false, IsTrue, List, length, map, slice_index, slice_index_or, slice_range}
use Rattle.hg_defs.specs.Hypergraph.{Net, Hyper}
use Rattle.contract_nets.specs.Merging.{merged}
use Rattle.contract_nets.specs.Keys.{Key, net_of_key}

-- the nets before a place and from it on have different pins where they meet
abbrev pub IsCut : Hyper → List Key → ℕ → Type 0
IsCut nets keys i =
    0 < i → i < length keys → (d : Key) →
    (net_of_key nets (slice_index_or keys (i - 1) d)).pins ≢ (net_of_key nets (slice_index_or keys i d)).pins

-- the net of a key has other pins than that of the next key, if there is one
abbrev pub IsEnd : Hyper → List Key → ℕ → Type 0
IsEnd nets keys i =
    i + 1 < length keys → (d : Key) →
    (net_of_key nets (slice_index_or keys i d)).pins ≢ (net_of_key nets (slice_index_or keys (i + 1) d)).pins

-- an entry for each key: whether it ends its net
pub record AreEnds (nets : Hyper) (keys : List Key) (ends : List Bool) : Type 0 where
  pub count : length ends ≡ length keys
  pub each : (i : ℕ) → i < length keys → IsTrue (slice_index_or ends i false) ↔ IsEnd nets keys i

-- places that cut the keys below an end into parts
pub record AreCuts (nets : Hyper) (keys : List Key) (end : ℕ) (cuts : List ℕ) : Type 0 where
  pub some : 0 < length cuts
  pub first : slice_index cuts 0 ≡ 0
  pub last : slice_index cuts (length cuts - 1) ≡ end
  pub rising : (j : ℕ) → j + 1 < length cuts → slice_index cuts j ≤ slice_index cuts (j + 1)
  pub within : (j : ℕ) → j < length cuts → slice_index cuts j ≤ length keys
  pub each : (j : ℕ) → j < length cuts → IsCut nets keys (slice_index cuts j)

-- the nets of the keys between two cuts, merged
abbrev pub part_of : Hyper → List Key → List ℕ → ℕ → List Net
part_of nets keys cuts j = merged (map (net_of_key nets) (slice_range keys (slice_index cuts j) (slice_index cuts (j + 1))))
