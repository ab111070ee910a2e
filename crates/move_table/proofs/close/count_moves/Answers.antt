use Rattle.std.proofs.Common.{rules, ◌≡◌, ◌<◌, List, length, get_or, ap, arith}
use Rattle.std.proofs.lemmas.List.{length-map}
use Rattle.hg_defs.specs.declared.moves.Move.{Move}
use Rattle.move_table.specs.declared.grant.Done.{Done}
use Rattle.move_table.proofs.LaidLaws.{counted_more}
use Rattle.move_table.proofs.close.count_moves.Goals as goal

pub loop-pass-preserved : goal.loop-pass-preserved
loop-pass-preserved c =
    let ps = c.args.passes.now in
    let i = c.loop-pass.pass-index in
    let p = c.pass-item.result in
    let l : i < length ps = search rules in
    let at : p ≡ get_or ps i p = search rules in
    let n = length-map c.done.result.now (λ (d : Done). d.action) in
    let m = ap (λ (xs : List Move). length xs) c.done.ensures.moves in
    counted_more ps i c.loop-pass.count c.in-Some.more p (omega (arith, c.in-Some.ensures.1)) at l c.loop-pass.invariant
