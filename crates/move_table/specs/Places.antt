-- Where each word of a round stands in the table: the claims, the next number, the cursor, the names, the loads, and
-- then for each net its spread and its counts, packed into fields.
use Rattle.std.specs.Prelude.{ℕ, ◌+◌, ◌*◌, ◌/◌, ◌%◌, List, slice_index}
use Rattle.hg_defs.specs.Sums.{sum_below}
use Rattle.hg_defs.specs.Hypergraph.{vertex_count, net_count}
use Rattle.hg_base.specs.Packed.{fields_of, field}
use Rattle.pin_plain.specs.Counts.{net_bits, net_words}
use Rattle.move_core.specs.declared.events.Word.{Word}
use Rattle.move_core.specs.declared.events.Word.TheVariants as word
use Rattle.move_core.specs.State.{Setup, Readings}

-- how many words a net has: its spread, and its counts
abbrev pub words_at_net : Setup → ℕ → ℕ
words_at_net s e = 1 + net_words s.graph s.blocks e

abbrev pub next_place : Setup → ℕ
next_place s = vertex_count s.graph

abbrev pub cursor_place : Setup → ℕ
cursor_place s = vertex_count s.graph + 1

abbrev pub name_place : Setup → ℕ → ℕ
name_place s v = vertex_count s.graph + 2 + v

abbrev pub load_place : Setup → ℕ → ℕ
load_place s b = 2 * vertex_count s.graph + 2 + b

-- where the words of a net begin, the first being its spread
abbrev pub net_place : Setup → ℕ → ℕ
net_place s e = 2 * vertex_count s.graph + 2 + s.blocks + sum_below (words_at_net s) e

abbrev pub spread_place : Setup → ℕ → ℕ
spread_place = net_place

abbrev pub counts_place : Setup → ℕ → ℕ → ℕ
counts_place s e b = net_place s e + 1 + b / fields_of (net_bits s.graph e)

-- how many words the table has
abbrev pub word_count : Setup → ℕ
word_count s = net_place s (net_count s.graph)

-- where a word stands
abbrev pub word_place : Setup → Word → ℕ
word_place s (word.Claim v) = v
word_place s (word.Name v) = name_place s v
word_place s (word.Load b) = load_place s b
word_place s (word.Count e b) = counts_place s e b
word_place s (word.Spread e) = spread_place s e
word_place s word.Next = next_place s
word_place s word.Cursor = cursor_place s

-- the field of a count in its word
abbrev pub field_place : Setup → ℕ → ℕ → ℕ
field_place s e b = b % fields_of (net_bits s.graph e)

-- the number that a word of the table tells of a word of the round
abbrev pub number_in : Setup → Word → ℕ → ℕ
number_in s (word.Claim v) n = n
number_in s (word.Name v) n = n
number_in s (word.Load b) n = n
number_in s (word.Count e b) n = field n (net_bits s.graph e) (field_place s e b)
number_in s (word.Spread e) n = n
number_in s word.Next n = n
number_in s word.Cursor n = n

-- the words of the round, as those of the table tell them
abbrev pub table_readings : Setup → List ℕ → Readings
table_readings s words = record {
  claim = λ v. slice_index words v;
  name = λ v. slice_index words (name_place s v);
  load = λ b. slice_index words (load_place s b);
  count = λ e b. field (slice_index words (counts_place s e b)) (net_bits s.graph e) (field_place s e b);
  spread = λ e. slice_index words (net_place s e);
  next = slice_index words (next_place s);
  cursor = slice_index words (cursor_place s);
}
