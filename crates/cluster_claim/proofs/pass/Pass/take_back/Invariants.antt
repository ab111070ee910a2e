use Rattle.cluster_core.specs.declared.events.ClusterEvent.TheVariants.{TakeBack}
use Rattle.cluster_core.specs.State.{setup_of}
use Rattle.cluster_claim.proofs.pass.Pass.take_back.Given as goal

abbrev pub ghosts-take_back_as : goal.ghosts-take_back_as
ghosts-take_back_as a = record { setup = setup_of a.h.now a.cap; event = TakeBack a.pass.now.seat.id }
