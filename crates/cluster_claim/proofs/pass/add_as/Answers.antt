-- The step is an Add.
use Rattle.std.proofs.Common.{◌+◌, ap}
use Rattle.cluster_core.specs.State.{setup_of}
use Rattle.cluster_claim.proofs.StepLaws.{add_asks, add_parts}
use Rattle.cluster_claim.proofs.pass.add_as.Goals as goal

pub fetch_add-requires : goal.fetch_add-requires
fetch_add-requires g c = add_asks c.args.words.now.key c.args.words.now.table_id c.args.h.now c.args.cap c.requires.board g.D.Deed.setup g.D.Deed.event
    c.requires.setup c.args.pass.now c.args.vertex c.args.root c.vertex_weight.result _ c.requires.event c.requires.can
    (add_parts (setup_of c.args.h.now c.args.cap) c.args.pass.now.seat.id c.args.vertex c.args.root c.args.pass.now.seat.me.0.account c.requires.can.may).1
    c.vertex_weight.ensures.value c.vertex_weight.ensures.bound (ap (λ n. n + c.args.root) c.vertices.ensures.count)
