use Rattle.std.proofs.Common.{◌≡◌, ◌<◌, ◌-◌, ◌∙◌, Ok, IfOk, vec_len, length, get_or, sym, ap, subst, arith}
use Rattle.std.specs.List.{range_with_len}
use Rattle.pin_plain.specs.BestMoves.{best_moves}
use Rattle.det_sync.specs.Wishes.{part_at}
use Rattle.det_sync.proofs.WishLaws.{parts_more}
use Rattle.det_sync.proofs.wishes.all_wishes.Goals as goal

pub loop-part-init : goal.loop-part-init
loop-part-init g c =
    c.new-wishes.ensures.items
    ∙ ap (λ n. best_moves c.args.h.now c.args.p.now.k c.args.p.now.limit c.args.p.now.blocks (range_with_len 0 n)) (sym c.requires.cuts.first)

pub loop-part-preserved : goal.loop-part-preserved
loop-part-preserved g c =
    let h = c.args.h.now in
    let p = c.args.p.now in
    let i = c.loop-part.part-index in
    let cuts = c.args.cuts.now in
    let here : i < vec_len c.in_ok-parts.parts = omega arith in
    let same : get_or c.in_ok-parts.parts.items i c.part-item.result ≡ Ok c.in-Ok.part =
    ap (λ xs. get_or xs i c.part-item.result) (sym c.as_slice-part-items.ensures.value) ∙ sym c.part-item.is ∙ c.in-Ok.is in
    let part = subst (λ r. IfOk r (λ v. v.items ≡ best_moves h p.k p.limit p.blocks (part_at cuts i))) same
    (c.in_ok-parts.ensures.parts i c.part-item.result here) in
    let many = c.in_ok-parts.ensures.whole in
    c.in_ok-extend_from_slice-in-Ok.ensures.items
    ∙ parts_more h p.k p.limit p.blocks cuts _ i c.loop-part.wishes.items c.as_slice.result.now c.requires.cuts (omega arith)
    c.loop-part.invariant (c.as_slice.ensures.value ∙ part)

pub returns : goal.returns
returns g c =
    let h = c.args.h.now in
    let p = c.args.p.now in
    let cuts = c.args.cuts.now in
    let many = c.in_ok-parts.ensures.whole in
    let all : c.loop-part.part-index ≡ length cuts - 1 = omega arith in
    c.loop-part.invariant
    ∙ ap (λ i. best_moves h p.k p.limit p.blocks (range_with_len 0 (get_or cuts i 0))) all
    ∙ ap (λ n. best_moves h p.k p.limit p.blocks (range_with_len 0 n)) c.requires.cuts.last
