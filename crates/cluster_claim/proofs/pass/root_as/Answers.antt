-- The step is a Root.
use Rattle.cluster_core.specs.State.{setup_of}
use Rattle.cluster_claim.proofs.StepLaws.{root_asks, root_vertex}
use Rattle.cluster_claim.proofs.pass.root_as.Goals as goal

pub store-requires : goal.store-requires
store-requires g c = root_asks c.args.words.now.key c.args.words.now.table_id c.args.h.now c.args.cap c.requires.board g.D.Deed.setup g.D.Deed.event
    c.requires.setup c.args.pass.now c.args.vertex c.from.result c.from.ensures c.requires.event c.requires.can
    (root_vertex (setup_of c.args.h.now c.args.cap)
    c.args.pass.now.seat.id c.args.vertex c.args.pass.now.seat.me.0.account c.requires.can.may)
