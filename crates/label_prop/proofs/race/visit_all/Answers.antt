-- The workers may share the round.
use denote.Param.Send.{sendable}
use Rattle.std.proofs.Crossing.{crosses}
use Rattle.label_prop.proofs.SharingLaws.{shared_sync}
use Rattle.label_prop.proofs.race.visit_all.Goals as goal

pub each-requires-sync-F : goal.each-requires-sync-F
each-requires-sync-F g c κs within = search (sendable, crosses, shared_sync) depth 20
