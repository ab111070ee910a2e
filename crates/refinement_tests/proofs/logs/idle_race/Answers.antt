use Rattle.refiner.proofs.FreshLaws.{fresh_passes}
use Rattle.refinement_tests.proofs.logs.idle_race.Goals as goal

pub close-requires-clause-passes : goal.close-requires-clause-passes
close-requires-clause-passes g c κs within = fresh_passes c.in-Ok.round c.in-Ok.passes c.in-Ok.ensures.passes
