use Rattle.cluster_core.specs.declared.events.ClusterEvent.TheVariants.{Take}
use Rattle.cluster_core.specs.State.{setup_of}
use Rattle.cluster_claim.proofs.pass.Pass.take.Given as goal

abbrev pub ghosts-take_as : goal.ghosts-take_as
ghosts-take_as a = record { setup = setup_of a.h.now a.cap; event = Take a.pass.now.seat.id a.vertex }
