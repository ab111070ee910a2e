use Rattle.std.proofs.Common.{◌≡◌, ◌<◌, ◌≤◌, ◌+◌, ◌*◌, ◌+ℤ◌, ℕ, ℤ, pos, List, length, get_or, arith, sym, ap, ◌∙◌, subst}
use Rattle.std.proofs.lemmas.Grind.{div_ceil_times}
use Rattle.std.proofs.Math.Nat.{div-le_self}
use Rattle.rollback_prefix.specs.Gains.{AreSavingsOf, AreSmall}
use Rattle.rollback_prefix.proofs.SavingLaws.{no_parts, parts_more, part_small, all_gains, value_at, written}
use Rattle.rollback_prefix.proofs.gains.gains_by_parts.Goals as goal

pub fill_parts-requires-clause-share : goal.fill_parts-requires-clause-share
fill_parts-requires-clause-share g c κs l =
    let least = div-le_self c.nets.result c.args.parts in
    let is = c.div_ceil-share.ensures in
    let few = c.nets.ensures.bounds.nets in
    let count = c.nets.ensures.count in
    omega arith

pub add_part-requires-clause-small : goal.add_part-requires-clause-small
add_part-requires-clause-small g c =
    subst AreSmall (sym c.as_mut_slice-in-Ok.ensures.value)
    (part_small c.args.h.now c.args.before.now c.args.moves.now 0 (c.loop-part.part-index * c.div_ceil-share.result) c.loop-part.gains.items
    c.requires.replay.bounds c.loop-part.invariant)

pub add_part-requires-clause-part : goal.add_part-requires-clause-part
add_part-requires-clause-part g c =
    let all = c.fill_parts.new.all in
    let share = c.div_ceil-share.result in
    let long : length all ≡ c.in_ok-all.all.len = omega arith in
    let items_are = c.as_slice-part-items.ensures.value ∙ written c.in_ok-all.all.len all c.in_ok-all.all.items long in
    let here : c.loop-part.part-index < length c.as_mut_slice.result.now = (let t = c.loop-part-test.true in let e = ap length items_are in omega arith) in
    let part = value_at (λ v. AreSavingsOf c.args.h.now c.args.before.now c.args.moves.now (c.loop-part.part-index * share)
    ((c.loop-part.part-index + 1) * share) v.items)
    c.as_slice-part-items.result.now all c.loop-part.part-index c.part-item.result c.in-Ok.part items_are (sym c.part-item.is ∙ c.in-Ok.is)
    (c.fill_parts.ensures.parts c.loop-part.part-index c.part-item.result here) in
    subst AreSmall (sym c.as_slice.ensures.value)
    (part_small c.args.h.now c.args.before.now c.args.moves.now (c.loop-part.part-index * share) ((c.loop-part.part-index + 1) * share) c.in-Ok.part.items
    c.requires.replay.bounds part)

pub loop-part-init : goal.loop-part-init
loop-part-init g c =
    subst (AreSavingsOf c.args.h.now c.args.before.now c.args.moves.now 0 (0 * c.div_ceil-share.result))
    (sym (c.in_ok-gains.ensures.items_if_clones_equal (λ y e. e)))
    (no_parts c.args.h.now c.args.before.now c.args.moves.now (0 * c.div_ceil-share.result) (omega arith))

pub loop-part-preserved : goal.loop-part-preserved
loop-part-preserved g c =
    let all = c.fill_parts.new.all in
    let share = c.div_ceil-share.result in
    let long : length all ≡ c.in_ok-all.all.len = omega arith in
    let items_are = c.as_slice-part-items.ensures.value ∙ written c.in_ok-all.all.len all c.in_ok-all.all.items long in
    let here : c.loop-part.part-index < length c.as_mut_slice.result.now = (let t = c.loop-part-test.true in let e = ap length items_are in omega arith) in
    let part = value_at (λ v. AreSavingsOf c.args.h.now c.args.before.now c.args.moves.now (c.loop-part.part-index * share)
    ((c.loop-part.part-index + 1) * share) v.items)
    c.as_slice-part-items.result.now all c.loop-part.part-index c.part-item.result c.in-Ok.part items_are (sym c.part-item.is ∙ c.in-Ok.is)
    (c.fill_parts.ensures.parts c.loop-part.part-index c.part-item.result here) in
    let same : length c.add_part.new.gains ≡ c.loop-part.gains.len = omega arith in
    subst (AreSavingsOf c.args.h.now c.args.before.now c.args.moves.now 0 ((c.loop-part.part-index + 1) * share))
    (sym (written c.loop-part.gains.len c.add_part.new.gains c.loop-part.gains.items same))
    (parts_more c.args.h.now c.args.before.now c.args.moves.now (c.loop-part.part-index * share) ((c.loop-part.part-index + 1) * share)
    c.loop-part.gains.items c.in-Ok.part.items c.add_part.new.gains (omega arith) c.loop-part.invariant part
    (let s = c.loop-part.invariant.savings.size in omega arith)
    (λ i m. c.add_part.ensures i (let s = c.loop-part.invariant.savings.size in omega arith)
    ∙ ap (λ (xs : List ℤ). get_or xs i (pos 0) +ℤ get_or c.as_slice.result.now i (pos 0)) c.as_mut_slice-in-Ok.ensures.value
    ∙ ap (λ (xs : List ℤ). get_or c.loop-part.gains.items i (pos 0) +ℤ get_or xs i (pos 0)) c.as_slice.ensures.value))

pub returns : goal.returns
returns g c =
    let all = c.fill_parts.new.all in
    let share = c.div_ceil-share.result in
    let long : length all ≡ c.in_ok-all.all.len = omega arith in
    let items_are = c.as_slice-part-items.ensures.value ∙ written c.in_ok-all.all.len all c.in_ok-all.all.items long in
    let end : c.loop-part.part-index ≡ c.args.parts = (let t = c.loop-part-test.false in let e = ap length items_are in omega arith) in
    let whole : c.nets.result ≤ share * c.args.parts =
    subst (λ (n : ℕ). c.nets.result ≤ n * c.args.parts) (sym c.div_ceil-share.ensures) (div_ceil_times c.nets.result c.args.parts c.requires.parts.0).0 in
    all_gains c.args.h.now c.args.before.now c.args.moves.now (c.args.parts * share) c.loop-part.gains.items
    (let count = c.nets.ensures.count in omega arith)
    (subst (λ (j : ℕ). AreSavingsOf c.args.h.now c.args.before.now c.args.moves.now 0 (j * share) c.loop-part.gains.items) end c.loop-part.invariant)
