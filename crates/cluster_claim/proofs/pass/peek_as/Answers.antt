-- The step is a Peek.
use Rattle.std.proofs.lemmas.Bool.{ltb-true}
use Rattle.hg_defs.specs.Hypergraph.{vertex_count}
use Rattle.cluster_claim.proofs.StepLaws.{peek_asks}
use Rattle.cluster_claim.proofs.pass.peek_as.Goals as goal

pub load-requires : goal.load-requires
load-requires g c = peek_asks c.args.words.now.key c.args.words.now.table_id c.args.h.now c.args.cap c.requires.board g.D.Deed.setup g.D.Deed.event
    c.requires.setup c.args.pass.now c.args.vertex c.requires.event c.requires.can (ltb-true c.args.vertex (vertex_count c.args.h.now) c.requires.can.may)
