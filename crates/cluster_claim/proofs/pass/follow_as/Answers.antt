-- The step is a Follow.
use Rattle.cluster_claim.proofs.StepLaws.{follow_asks}
use Rattle.cluster_claim.proofs.pass.follow_as.Goals as goal

pub store-requires : goal.store-requires
store-requires g c = follow_asks c.args.words.now.key c.args.words.now.table_id c.args.h.now c.args.cap c.requires.board g.D.Deed.setup g.D.Deed.event
    c.requires.setup c.args.pass.now c.args.vertex c.args.root c.from.result c.from.ensures c.requires.event c.requires.pass c.requires.vertex
