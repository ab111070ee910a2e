use Rattle.cluster_core.specs.declared.events.ClusterEvent.TheVariants.{Root}
use Rattle.cluster_core.specs.State.{setup_of}
use Rattle.cluster_claim.proofs.pass.Pass.root.Given as goal

abbrev pub ghosts-root_as : goal.ghosts-root_as
ghosts-root_as a = record { setup = setup_of a.h.now a.cap; event = Root a.pass.now.seat.id a.vertex }
