-- The words of a run of nets as a part of all words, which begins at a place among them.
use Rattle.std.specs.Prelude.{◌≡◌, ℕ, ◌+◌, ◌*◌, ◌^◌, ◌<◌, ◌≤◌, List, length, slice_index}
use Rattle.hg_defs.specs.Hypergraph.{Hyper, net_count, net_of}
use Rattle.hg_defs.specs.Cost.{connectivity}
use Rattle.hg_base.specs.Packed.{fields_of, count_at}
use Rattle.pin_plain.specs.Counts.{net_bits, net_words, net_place, net_start, counts_of}

-- the nets from one up to below another one have their words among these, of which the first has a place
pub record HaveRoom (h : Hyper) (k from to place : ℕ) (words : List ℕ) : Type 0 where
  pub ordered : from ≤ to
  pub nets : to ≤ net_count h
  pub begins : place ≤ net_place h k from
  pub ends : net_place h k to ≤ place + length words
  pub few : place + length words < 2 ^ 32

-- each of these nets has its pin counts there, and before them 64 and the number of blocks that it touches
pub record AreTallied (h : Hyper) (k : ℕ) (p : List ℕ) (from to place : ℕ) (words : List ℕ) : Type 0 where
  pub counted : (e at b : ℕ) → from ≤ e → e < to → place + at ≡ net_start h k e → b < net_words h k e * fields_of (net_bits h e) →
      count_at words at (net_bits h e) b ≡ counts_of h p e b
  pub spreads : (e at : ℕ) → from ≤ e → e < to → place + at ≡ net_place h k e → slice_index words at ≡ 64 + connectivity p (net_of h e).pins
