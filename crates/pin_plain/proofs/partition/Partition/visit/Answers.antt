use Rattle.std.proofs.Common.{◌∙◌, List, ℕ, option_map, sym, ap, arith}
use Rattle.hg_defs.specs.Partition.{block_of}
use Rattle.hg_defs.specs.Moves.{move_of}
use Rattle.pin_plain.proofs.BestLaws.{best_below, best_other, lent_best}
use Rattle.pin_plain.proofs.QuietLaws.{quiet_stays}
use Rattle.pin_plain.proofs.partition.Partition.visit.Goals as goal

pub returns-then-marks-v-clause-made : goal.returns-then-marks-v-clause-made
returns-then-marks-v-clause-made c =
    let p = c.args.self.now in
    ap (option_map (move_of c.args.h.now p.blocks c.args.v))
    (sym (quiet_stays c.args.h.now p.k p.limit p.blocks c.args.v c.requires.vertex (c.requires.quiet.each c.args.v c.requires.vertex c.if-marks-v.true)))

pub wake-requires-clause-block : goal.wake-requires-clause-block
wake-requires-clause-block c =
    let p = c.args.self.now in
    let lent = c.lend.ensures in
    let best = lent_best c.args.h.now _ p.k _ p.limit _ p.blocks _ c.args.v c.in-Some.to c.in-Some.gain c.seek-sought.result.best lent.hyper lent.k lent.limit
    lent.blocks c.in-Some.is c.seek-sought.ensures.best in
    let low = best_below c.args.h.now p.k p.limit p.blocks c.args.v c.in-Some.to c.requires.vertex best in
    let same = c.lend-2.ensures.k in
    omega arith

pub wake-requires-clause-other : goal.wake-requires-clause-other
wake-requires-clause-other c e =
    let p = c.args.self.now in
    let lent = c.lend.ensures in
    let best = lent_best c.args.h.now _ p.k _ p.limit _ p.blocks _ c.args.v c.in-Some.to c.in-Some.gain c.seek-sought.result.best lent.hyper lent.k lent.limit
    lent.blocks c.in-Some.is c.seek-sought.ensures.best in
    best_other c.args.h.now p.k p.limit p.blocks c.args.v c.in-Some.to c.requires.vertex best
    (e ∙ ap (λ (q : List ℕ). block_of q c.args.v) c.lend-2.ensures.blocks)

pub shift-requires-clause-block : goal.shift-requires-clause-block
shift-requires-clause-block c =
    let p = c.args.self.now in
    let lent = c.lend.ensures in
    best_below c.args.h.now p.k p.limit p.blocks c.args.v c.in-Some.to c.requires.vertex
    (lent_best c.args.h.now _ p.k _ p.limit _ p.blocks _ c.args.v c.in-Some.to c.in-Some.gain c.seek-sought.result.best lent.hyper lent.k lent.limit
    lent.blocks c.in-Some.is c.seek-sought.ensures.best)
