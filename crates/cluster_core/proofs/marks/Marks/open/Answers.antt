-- The balance holds at the opening.
use Rattle.std.proofs.Common.{arith}
use Rattle.std.proofs.lemmas.Grind.{common_steps}
use Rattle.cluster_core.specs.State.{setup_of}
use Rattle.cluster_core.proofs.StateLaws.{opened_from}
use Rattle.cluster_core.proofs.marks.Marks.open.Goals as goal

pub returns-clause-balance : goal.returns-clause-balance
returns-clause-balance c =
    opened_from (setup_of c.args.h.now c.args._cap) c.args.passes c.in_ok-vec.field-0.items c.in_ok-weights_of.field-0.items
    c.in_ok-blank_passes.field-0.items
    c.requires.vertex c.vertices.ensures.bounds c.requires.few
    (grind (arith, common_steps))
    c.in_ok-weights_of.ensures
    c.in_ok-blank_passes.ensures
