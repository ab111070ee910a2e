use Rattle.std.proofs.Common.{sym, subst}
use Rattle.pin_plain.specs.Quiet.{AreQuiet}
use Rattle.pin_plain.proofs.partition.Partition.sweep_with.Goals as goal

pub sweep_marked-requires-clause-quiet : goal.sweep_marked-requires-clause-quiet
sweep_marked-requires-clause-quiet g c =
    let p = c.args.self.now in
    subst (AreQuiet c.args.h.now p.k p.blocks) (sym c.as_mut_slice.ensures.value) c.in_ok-marks.ensures.quiet
