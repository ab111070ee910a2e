use Rattle.std.proofs.Common.{◌∙◌, length, ap, arith}
use Rattle.hg_base.specs.Packed.{words_of}
use Rattle.pin_plain.proofs.CountLaws.{net_part, all_words-le}
use Rattle.pin_plain.proofs.counts.lay_out.Goals as goal

pub overflow_add-words-in-loop-e : goal.overflow_add-words-in-loop-e
overflow_add-words-in-loop-e c =
    let h = c.args.h.now in
    let part = net_part h c.args.k c.loop-e.e (omega arith) in
    let all = all_words-le h c.args.k c.requires.some c.requires.few c.nets-nets.ensures.bounds c.requires.suits in
    let next = c.loop-e.invariant.next in
    omega arith

pub overflow_add-words-in-loop-e-3 : goal.overflow_add-words-in-loop-e-3
overflow_add-words-in-loop-e-3 c =
    let h = c.args.h.now in
    let part = net_part h c.args.k c.loop-e.e (omega arith) in
    let all = all_words-le h c.args.k c.requires.some c.requires.few c.nets-nets.ensures.bounds c.requires.suits in
    let same = c.words_of.ensures ∙ ap (λ ps. words_of (length ps) c.args.k) c.pins.ensures.value in
    let next = c.loop-e.invariant.next in
    omega arith
