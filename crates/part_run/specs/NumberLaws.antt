-- What the words of numbers and of imbalances spell, said by the values of their digits.
use Rattle.std.specs.Prelude.{◌≡◌, ℕ, ◌+◌, ◌-◌, ◌*◌, ◌^◌, ◌<◌, ◌≤◌, ◌⊎◌, ◌↔◌, List, [], ◌∷◌, ◌++◌, length, All, Some, None, codes}
use Rattle.part_run.specs.Wanted.{number_within, imbalance}

-- a byte is one of `0` to `9`
abbrev pub IsDigit : ℕ → Type 0
IsDigit byte = (48 ≤ byte) × (byte ≤ 57)

-- the number that digits spell: each counts by the power of ten of its place
abbrev pub decimal_value : List ℕ → ℕ
decimal_value [] = 0
decimal_value (digit ∷ digits) = (digit - 48) * 10 ^ length digits + decimal_value digits

-- a word is one digit or more, zeros in front included, and they spell this number
pub record Spells (word : List ℕ) (n : ℕ) : Type 0 where
  pub some : 0 < length word
  pub digits : All IsDigit word
  pub value : decimal_value word ≡ n

-- a word is digits, a point and one to three digits more, and all of them spell so many thousandths
pub record SpellsThousandths (word : List ℕ) (x : ℕ) : Type 0 where
  pub whole : List ℕ
  pub part : List ℕ
  pub point : word ≡ whole ++ 46 ∷ part
  pub before : 0 < length whole
  pub behind : 0 < length part
  pub few : length part ≤ 3
  pub digits : All IsDigit (whole ++ part)
  pub value : x * 10 ^ length part ≡ 1000 * decimal_value (whole ++ part)

-- a word is the imbalance of so many thousandths, a hundred wholes at most: it is a number, or one with a point
abbrev pub IsImbalance : List ℕ → ℕ → Type 0
IsImbalance word x = (x ≤ 100000) × (((n : ℕ) × Spells word n × (x ≡ 1000 * n)) ⊎ SpellsThousandths word x)

-- ---- the laws

-- a word is taken as a number just where its digits spell one within the bounds
abbrev pub NumbersAreSpelled : Type 0
NumbersAreSpelled = (low high n : ℕ) (word : List ℕ) → high < 2 ^ 64 →
    (number_within low high word ≡ Some n) ↔ (Spells word n × (low ≤ n) × (n ≤ high))

-- and as an imbalance just where it is one
abbrev pub ImbalancesAreSpelled : Type 0
ImbalancesAreSpelled = (word : List ℕ) (x : ℕ) → (imbalance word ≡ Some x) ↔ IsImbalance word x

-- some of them
abbrev pub ImbalancesAreThese : Type 0
ImbalancesAreThese = (imbalance (codes "0.03") ≡ Some 30) × (imbalance (codes "0.3") ≡ Some 300) × (imbalance (codes "5") ≡ Some 5000)
    × (imbalance (codes "007.125") ≡ Some 7125) × (imbalance (codes "100.000") ≡ Some 100000) × (imbalance (codes "100.001") ≡ None)
