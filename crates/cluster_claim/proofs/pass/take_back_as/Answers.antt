-- The step is a TakeBack.
use Rattle.std.proofs.Common.{◌+◌, ap}
use Rattle.cluster_claim.proofs.StepLaws.{take_back_asks}
use Rattle.cluster_claim.proofs.pass.take_back_as.Goals as goal

pub fetch_sub-requires : goal.fetch_sub-requires
fetch_sub-requires g c = take_back_asks c.args.words.now.key c.args.words.now.table_id c.args.h.now c.args.cap c.requires.board g.D.Deed.setup
    g.D.Deed.event
    c.requires.setup c.args.pass.now c.args.vertex c.args.root c.vertex_weight.result _ c.requires.event c.requires.pass c.requires.root
    c.vertex_weight.ensures.value c.vertex_weight.ensures.bound (ap (λ n. n + c.args.root) c.vertices.ensures.count)
