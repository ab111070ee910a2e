-- The next number was found in the map.
use Rattle.std.proofs.Common.{ℕ, get_or, Contains, below_more}
use Rattle.std.proofs.lemmas.Bool.{eqb-true}
use Rattle.coarsening_tests.proofs.levels.uses_all.Goals as goal

pub loop-i-preserved : goal.loop-i-preserved
loop-i-preserved c =
    let i = c.loop-i.i-counter in
    let found = c.if-not-contains.ensures.cases in
    below_more (λ j. Contains c.args.map.now j) i c.loop-i.invariant
    (found.0, found.1, eqb-true (get_or c.args.map.now found.0 i) i (found.2 i))
