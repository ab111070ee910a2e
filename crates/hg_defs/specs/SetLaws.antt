-- What a set made of a list is.
use Rattle.std.specs.Prelude.{◌≡◌, ℕ, List, Contains, ◌↔◌}
use Rattle.std.specs.List.Sorted.{IsStrictlyIncreasing}
use Rattle.std.specs.Ordering.{nat_cmp}
use Rattle.hg_defs.specs.Sorting.{set_of}

-- ---- the laws

-- it rises, it has the members of the list, and no other rising list has them
abbrev pub SetRises : Type 0
SetRises = (xs : List ℕ) → IsStrictlyIncreasing (set_of nat_cmp xs)

abbrev pub SetHasMembers : Type 0
SetHasMembers = (xs : List ℕ) (x : ℕ) → Contains (set_of nat_cmp xs) x ↔ Contains xs x

abbrev pub OnlySetHasMembers : Type 0
OnlySetHasMembers =
    (xs ys : List ℕ) → IsStrictlyIncreasing ys → ((x : ℕ) → Contains ys x ↔ Contains xs x) → ys ≡ set_of nat_cmp xs
