use Rattle.std.proofs.Common.{refl, arith}
use Rattle.hg_defs.proofs.NamedLaws.{one_fits}
use Rattle.part_run.proofs.deterministic.synchronize.Goals as goal

pub unreachable-requires : goal.unreachable-requires
unreachable-requires g c =
    let s = c.args.stack in
    let j = c.args.job.now in
    let none = rw c.in-Err-NoneFits.field-0-is at c.in-Err-NoneFits.ensures.none in
    one_fits s.base j.k c.args.limit j.seed c.requires.sound c.requires.fixed (omega arith) c.requires.placed (none refl 0 (omega arith))
