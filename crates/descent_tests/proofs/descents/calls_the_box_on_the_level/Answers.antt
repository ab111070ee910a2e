use Rattle.std.proofs.Common.{◌<◌, ◌^◌, arith}
use Rattle.descent_tests.proofs.BoxLemmas.{of_one}
use Rattle.descent_tests.proofs.descents.calls_the_box_on_the_level.OwnLists as own
use Rattle.descent_tests.proofs.descents.calls_the_box_on_the_level.Goals as goal

pub uncoarsen-requires-clause-may_run : goal.uncoarsen-requires-clause-may_run
uncoarsen-requires-clause-may_run g c κs =
    λ k d low. of_one (λ x v. (own.own-1.entry x).1.may_run v) (λ v. tt) _ _

pub uncoarsen-requires-clause-tallied : goal.uncoarsen-requires-clause-tallied
uncoarsen-requires-clause-tallied g c κs =
    λ k d low. of_one
    (λ x v. ((own.own-1.entry x).1.tally v).rounds < 2 ^ 61
    × ((own.own-1.entry x).1.tally v).gain < 2 ^ 61)
    (λ v. let none : 0 < 2 ^ 61 = omega arith in (none, none)) _ _
