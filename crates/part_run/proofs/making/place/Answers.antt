use Rattle.std.proofs.Common.{◌<◌, arith}
use Rattle.hg_defs.specs.Hypergraph.{vertex_count}
use Rattle.part_run.proofs.Unplaced.{unplaced_below}
use Rattle.part_run.proofs.making.place.Goals as goal

pub overflow_add-result : goal.overflow_add-result
overflow_add-result c =
    let below : c.in-Err-Overfills.vertex < vertex_count c.args.h.now =
    unplaced_below c.args.h.now c.args.job.now.k c.args.limit c.in-Err-Overfills.vertex c.requires.sound c.requires.fixed (omega arith)
    (rw c.in-Err-Overfills.field-0-is at c.in-Err-Overfills.ensures.cause) in
    omega (arith, c.requires.bounds.vertices)
