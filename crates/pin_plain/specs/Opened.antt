-- The words of a partition as a round begins with them: nothing is claimed, no number and no seed is drawn, and the names, the
-- loads, the number of blocks of each net and its counts are those of the partition.
use Rattle.std.specs.Prelude.{◌≡◌, ◌⊎◌, ℕ, ◌+◌, ◌*◌, ◌<◌, ◌≤◌, List, length, slice_index}
use Rattle.hg_defs.specs.Hypergraph.{Hyper, vertex_count, net_count}
use Rattle.hg_defs.specs.Partition.{block_of, load}
use Rattle.pin_plain.specs.Counts.{all_words, HoldsCounts, counts_of, HaveSpreads}

-- the words before a place, and from another one on, are as they were
abbrev pub SameOutside : ℕ → ℕ → List ℕ → List ℕ → Type 0
SameOutside from to old new = (i : ℕ) → (i < from) ⊎ (to ≤ i) → slice_index new i ≡ slice_index old i

-- so many names, those of the vertices from a first one on
pub record AreNamesFrom (p : List ℕ) (first n : ℕ) (names : List ℕ) : Type 0 where
  pub all : length names ≡ n
  pub each : (i : ℕ) → i < n → slice_index names i ≡ slice_index p (first + i)

-- so many of the words that stand before the loads, those from a first place on: zeros, and then names
pub record IsFrontFrom (p : List ℕ) (first n : ℕ) (words : List ℕ) : Type 0 where
  pub all : length words ≡ n
  pub zeros : (i : ℕ) → i < n → first + i < length p + 2 → slice_index words i ≡ 0
  pub names : (i v : ℕ) → i < n → first + i ≡ length p + 2 + v → slice_index words i ≡ slice_index p v

pub record IsOpened (h : Hyper) (k : ℕ) (p words : List ℕ) : Type 0 where
  pub wide : length words ≡ all_words h k
  pub zeros : (i : ℕ) → i < vertex_count h + 2 → slice_index words i ≡ 0
  pub names : (v : ℕ) → v < vertex_count h → slice_index words (vertex_count h + 2 + v) ≡ block_of p v
  pub loads : (b : ℕ) → b < k → slice_index words (2 * vertex_count h + 2 + b) ≡ load h p b
  pub spreads : HaveSpreads h k p (net_count h) words
  pub counts : HoldsCounts h k words (counts_of h p)
