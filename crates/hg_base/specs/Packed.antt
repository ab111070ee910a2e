-- Counts packed into words of 64 bits: fields of 8, 16 or 32 bits, the first in the lowest bits.
use Rattle.std.specs.Prelude.{◌≡◌, ◌⊎◌, ℕ, ◌+◌, ◌*◌, ◌/◌, ◌%◌, ◌^◌, List, slice_index, nat_le, if◌then◌else◌}
use Rattle.hg_defs.specs.Partition.{divided_up}

-- how many bits the counts of a net of this many pins take
abbrev pub bits_of : ℕ → ℕ
bits_of pins = if nat_le pins 255 then 8 else (if nat_le pins 65535 then 16 else 32)

-- a field has 8, 16 or 32 bits
abbrev pub IsWidth : ℕ → Type 0
IsWidth bits = (bits ≡ 8) ⊎ ((bits ≡ 16) ⊎ (bits ≡ 32))

-- how many fields a word has
abbrev pub fields_of : ℕ → ℕ
fields_of bits = 64 / bits

-- how many words the counts of k blocks take
abbrev pub words_of : ℕ → ℕ → ℕ
words_of pins k = divided_up (k * bits_of pins) 64

-- the number in a field of a word
abbrev pub field : ℕ → ℕ → ℕ → ℕ
field word bits place = word / 2 ^ (place * bits) % 2 ^ bits

-- the word with 1 in this field and 0 elsewhere
abbrev pub unit : ℕ → ℕ → ℕ
unit bits place = 2 ^ (place * bits)

-- the count of block b, where the counts of its net start at a word and take so many bits: the field at place b % fields_of bits of word b / fields_of bits
-- from there on
abbrev pub count_at : List ℕ → ℕ → ℕ → ℕ → ℕ
count_at words start bits b = field (slice_index words (start + b / fields_of bits)) bits (b % fields_of bits)
