use Rattle.std.proofs.Common.{◌≡◌, ◌∙◌, ◌/◌, ◌<◌, length, ap, subst, sym, arith}
use Rattle.hg_base.specs.Packed.{bits_of, fields_of}
use Rattle.pin_plain.specs.Counts.{net_bits, net_words}
use Rattle.pin_plain.proofs.OpeningLaws.{touched_is}
use Rattle.pin_plain.proofs.RunLaws.{block_word}
use Rattle.pin_plain.proofs.tallies.touched.Goals as goal

pub touched_by_counts-requires-clause-inside : goal.touched_by_counts-requires-clause-inside
touched_by_counts-requires-clause-inside c b low =
    let h = c.args.nets.now.h.now in
    let e = c.args.e in
    let bits : c.bits_of.result ≡ net_bits h e = c.bits_of.ensures.value ∙ ap (λ ps. bits_of (length ps)) c.pins-pins.ensures.value in
    let word = subst (λ w. b / fields_of w < net_words h c.args.nets.now.k e) (sym bits) (block_word h c.args.nets.now.k e b low) in
    let room = c.requires.inside in
    omega arith

pub returns-then-nets-pins : goal.returns-then-nets-pins
returns-then-nets-pins c =
    let h = c.args.nets.now.h.now in
    let e = c.args.e in
    let bits : c.bits_of.result ≡ net_bits h e = c.bits_of.ensures.value ∙ ap (λ ps. bits_of (length ps)) c.pins-pins.ensures.value in
    c.touched_by_counts.ensures
    ∙ touched_is h c.args.nets.now.k c.args.nets.now.blocks.now c.args.words.now e c.bits_of.result c.args.start c.args.nets.now.parted c.requires.net bits
    c.requires.counted
