-- The step is a Take.
use Rattle.cluster_core.specs.State.{setup_of}
use Rattle.cluster_claim.proofs.StepLaws.{take_asks, take_vertex}
use Rattle.cluster_claim.proofs.pass.take_as.Goals as goal

pub compare_exchange-requires : goal.compare_exchange-requires
compare_exchange-requires g c = take_asks c.args.words.now.key c.args.words.now.table_id c.args.h.now c.args.cap c.requires.board g.D.Deed.setup
    g.D.Deed.event
    c.requires.setup c.args.pass.now c.args.vertex c.requires.event c.requires.can (take_vertex (setup_of c.args.h.now c.args.cap) c.args.pass.now.seat.id
    c.args.vertex c.args.pass.now.seat.me.0.account c.requires.can.may)
