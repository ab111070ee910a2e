-- One cut more.
use Rattle.std.proofs.Common.{◌≡◌, ◌+◌, ◌++◌, ℕ, List, length, take, drop, sym, subst, ap, arith}
use Rattle.std.proofs.lemmas.List.{take_rest, length-drop}
use Rattle.hg_text.specs.Kept.{field_lists}
use Rattle.hmetis_read.specs.Shares.{AreCuts}
use Rattle.hmetis_read.proofs.ShareLaws.{cuts_more}
use Rattle.hmetis_read.proofs.shares.cuts_of.Goals as goal

pub parts-preserved : goal.parts-preserved
parts-preserved c =
    let text : List ℕ = c.args.text.now in
    let end : ℕ = c.parts.end in
    let count : ℕ = c.end_of_line-end.result in
    let rest = take_rest text end in
    let size = length-drop end text in
    let long = ap length rest in
    let part = c.end_of_line-end.ensures.part in
    let kept = subst (λ (xs : List ℕ). field_lists xs ≡ field_lists (take count xs) ++ field_lists (drop count xs)) rest c.end_of_line-end.ensures.kept in
    subst (AreCuts text (end + count)) (sym c.in_ok-push.ensures.items)
    (cuts_more text end count c.parts.cuts.items c.parts.invariant (omega arith) kept)
