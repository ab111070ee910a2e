-- The pin counts of all nets, packed into words: the words of each net stand after those of the nets before it. Between them
-- there is room for all else that a round has in its words.
use Rattle.std.specs.Prelude.{◌≡◌, ℕ, ◌+◌, ◌*◌, ◌<◌, List, length, slice_index, nat_eq, if◌then◌else◌}
use Rattle.std.specs.Set.{is_member}
use Rattle.hg_defs.specs.Sums.{sum_below}
use Rattle.hg_defs.specs.Hypergraph.{Hyper, vertex_count, net_count, net_of}
use Rattle.hg_defs.specs.Pins.{pins_in}
use Rattle.hg_defs.specs.Cost.{connectivity}
use Rattle.hg_base.specs.Packed.{bits_of, fields_of, words_of, count_at}

-- the bits and words of a net's counts
abbrev pub net_bits : Hyper → ℕ → ℕ
net_bits h e = bits_of (length (net_of h e).pins)

abbrev pub net_words : Hyper → ℕ → ℕ → ℕ
net_words h k e = words_of (length (net_of h e).pins) k

-- where the words of a net begin: one for the number of its blocks, and then its counts. Before those of all nets a round has
-- two words a vertex, two more, and one a block
abbrev pub words_at_net : Hyper → ℕ → ℕ → ℕ
words_at_net h k e = 1 + net_words h k e

abbrev pub net_place : Hyper → ℕ → ℕ → ℕ
net_place h k e = 2 * vertex_count h + 2 + k + sum_below (words_at_net h k) e

abbrev pub net_start : Hyper → ℕ → ℕ → ℕ
net_start h k e = net_place h k e + 1

-- how many words there are
abbrev pub all_words : Hyper → ℕ → ℕ
all_words h k = net_place h k (net_count h)

-- where the counts of each net start
pub record HasStarts (h : Hyper) (k : ℕ) (starts : List ℕ) : Type 0 where
  pub nets : length starts ≡ net_count h
  pub starts_at : (e : ℕ) → e < net_count h → slice_index starts e ≡ net_start h k e

-- how many bits a count of each net takes
pub record HasWidths (h : Hyper) (widths : List ℕ) : Type 0 where
  pub nets : length widths ≡ net_count h
  pub width_of : (e : ℕ) → e < net_count h → slice_index widths e ≡ net_bits h e

-- the counts of all nets are of one width, so that each net has as many words as any other
pub record HasStride (h : Hyper) (k bits first words : ℕ) : Type 0 where
  pub width_of : (e : ℕ) → e < net_count h → net_bits h e ≡ bits
  pub place_at : (e : ℕ) → e < net_count h → net_place h k e ≡ first + e * words

-- each net has a part of the words
pub record HasLayout (h : Hyper) (k : ℕ) (starts words : List ℕ) : Type 0 where
  pub nets : length starts ≡ net_count h
  pub starts_at : (e : ℕ) → e < net_count h → slice_index starts e ≡ net_start h k e
  pub all : length words ≡ all_words h k

-- the words hold these counts, also in the fields past block k
abbrev pub HoldsCounts : Hyper → ℕ → List ℕ → (ℕ → ℕ → ℕ) → Type 0
HoldsCounts h k words counts =
    (e b : ℕ) → e < net_count h → b < net_words h k e * fields_of (net_bits h e) → count_at words (net_start h k e) (net_bits h e) b ≡ counts e b

-- the pin counts of a partition
abbrev pub counts_of : Hyper → List ℕ → ℕ → ℕ → ℕ
counts_of h p e b = pins_in p (net_of h e).pins b

-- the nets among these hold the counts after a move, and the others those before it
abbrev pub counts_between : Hyper → List ℕ → List ℕ → List ℕ → ℕ → ℕ → ℕ
counts_between h before after nets e b = if is_member nat_eq nets e then counts_of h after e b else counts_of h before e b

-- the word before its counts has 64 and the number of blocks that a net touches, for the nets below a bound
abbrev pub HaveSpreads : Hyper → ℕ → List ℕ → ℕ → List ℕ → Type 0
HaveSpreads h k p nets words = (e : ℕ) → e < nets → slice_index words (net_place h k e) ≡ 64 + connectivity p (net_of h e).pins

-- the nets among these have the number of blocks after a move, and the others that before it
abbrev pub HaveSpreadsBetween : Hyper → ℕ → List ℕ → List ℕ → List ℕ → List ℕ → Type 0
HaveSpreadsBetween h k before after nets words =
    (e : ℕ) → e < net_count h → slice_index words (net_place h k e) ≡ 64 + (if is_member nat_eq nets e then connectivity after (net_of h e).pins else
    connectivity before (net_of h e).pins)
