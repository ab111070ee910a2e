use Rattle.cluster_core.specs.declared.events.ClusterEvent.TheVariants.{Peek}
use Rattle.cluster_core.specs.State.{setup_of}
use Rattle.cluster_claim.proofs.pass.Pass.peek.Given as goal

abbrev pub ghosts-peek_as : goal.ghosts-peek_as
ghosts-peek_as a = record { setup = setup_of a.h.now a.cap; event = Peek a.pass.now.seat.id a.vertex }
