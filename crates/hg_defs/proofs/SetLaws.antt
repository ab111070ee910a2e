-- The laws of sets of numbers.
use Rattle.std.proofs.lemmas.Cmp.{nat_cmp_total}
use Rattle.std.proofs.lemmas.Map.Keys.{sorted_from_strictly_increasing}
use Rattle.hg_defs.specs.SetLaws.{SetRises, SetHasMembers, OnlySetHasMembers}
use Rattle.hg_defs.proofs.SortLaws.{increasing-set_of, Contains-set_of, Contains-from_set_of, set_is, nat_cmp_exact}

pub set_rises : SetRises
set_rises xs = increasing-set_of xs

pub set_has_members : SetHasMembers
set_has_members xs x = (Contains-from_set_of nat_cmp_total nat_cmp_exact xs x, Contains-set_of nat_cmp_total nat_cmp_exact xs x)

pub only_set_has_members : OnlySetHasMembers
only_set_has_members xs ys rises same =
    set_is nat_cmp_total nat_cmp_exact xs ys (sorted_from_strictly_increasing ys rises) (λ x c. (same x).1 c) (λ x c. (same x).0 c)
