use Rattle.cluster_core.specs.declared.events.ClusterEvent.TheVariants.{Follow}
use Rattle.cluster_core.specs.State.{setup_of}
use Rattle.cluster_claim.proofs.pass.Pass.follow.Given as goal

abbrev pub ghosts-follow_as : goal.ghosts-follow_as
ghosts-follow_as a = record { setup = setup_of a.h.now a.cap; event = Follow a.pass.now.seat.id }
