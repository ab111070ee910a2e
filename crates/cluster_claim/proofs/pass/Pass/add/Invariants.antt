use Rattle.cluster_core.specs.declared.events.ClusterEvent.TheVariants.{Add}
use Rattle.cluster_core.specs.State.{setup_of}
use Rattle.cluster_claim.proofs.pass.Pass.add.Given as goal

abbrev pub ghosts-add_as : goal.ghosts-add_as
ghosts-add_as a = record { setup = setup_of a.h.now a.cap; event = Add a.pass.now.seat.id a.vertex a.root }
