-- The threads may share the round.
use denote.Param.Send.{sendable}
use Rattle.std.proofs.Crossing.{crosses}
use Rattle.move_table.proofs.SharingLaws.{round_sync}
use Rattle.move_table.proofs.tests.race.Goals as goal

pub for_each_mut-requires-sync-F : goal.for_each_mut-requires-sync-F
for_each_mut-requires-sync-F g c κs within = search (sendable, crosses, round_sync) depth 20
