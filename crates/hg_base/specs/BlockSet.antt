-- A set of numbers below 256 as four words: bit b % 64 of word b / 64 is set where b is in it.
use Rattle.std.specs.Prelude.{ℕ, ◌/◌, ◌%◌, Bool, List, nat_eq, slice_index}
use Rattle.std.specs.Int.{bit_at}

abbrev pub has : List ℕ → ℕ → Bool
has words b = nat_eq (bit_at (slice_index words (b / 64)) (b % 64)) 1
