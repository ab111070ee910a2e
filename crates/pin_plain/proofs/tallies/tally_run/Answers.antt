use Rattle.std.proofs.Common.{◌≡◌, ◌⊎◌, ◌∙◌, ◌+◌, ◌-◌, ◌/◌, ◌<◌, ◌≤◌, length, slice_index, get_or, ap, subst, sym, arith}
use Rattle.hg_base.specs.Packed.{bits_of, fields_of, words_of}
use Rattle.pin_plain.specs.Counts.{net_bits, net_words}
use Rattle.pin_plain.proofs.OpeningLaws.{few_blocks}
use Rattle.pin_plain.proofs.RunLaws.{block_word, spot_of, tallied_more}
use Rattle.pin_plain.proofs.tallies.tally_run.Goals as goal

pub overflow_sub-start : goal.overflow_sub-start
overflow_sub-start c =
    let nets = c.args.nets.now in
    let e = c.loop-e.e in
    let start = slice_index nets.starts.now e in
    let room = c.requires in
    let within = room.nets in
    let spot = spot_of nets.h.now nets.k c.args.from c.args.to c.args.place c.args.words.now e start room (omega arith) (omega arith)
    (nets.placed.starts_at e (omega arith)) in
    let some = spot.1.0 in
    omega arith

pub overflow_add-end : goal.overflow_add-end
overflow_add-end c =
    let nets = c.args.nets.now in
    let e = c.loop-e.e in
    let start = slice_index nets.starts.now e in
    let room = c.requires in
    let within = room.nets in
    let spot = spot_of nets.h.now nets.k c.args.from c.args.to c.args.place c.args.words.now e start room (omega arith) (omega arith)
    (nets.placed.starts_at e (omega arith)) in
    let high = spot.1.1 in
    let size : c.words_of.result ≡ net_words nets.h.now nets.k e = c.words_of.ensures ∙ ap (λ ps. words_of (length ps) nets.k) c.pins-pins.ensures.value in
    let few = room.few in
    omega arith

pub write_zeros-requires-clause-inside : goal.write_zeros-requires-clause-inside
write_zeros-requires-clause-inside c =
    let nets = c.args.nets.now in
    let e = c.loop-e.e in
    let start = slice_index nets.starts.now e in
    let room = c.requires in
    let within = room.nets in
    let spot = spot_of nets.h.now nets.k c.args.from c.args.to c.args.place c.args.words.now e start room (omega arith) (omega arith)
    (nets.placed.starts_at e (omega arith)) in
    let high = spot.1.1 in
    let size : c.words_of.result ≡ net_words nets.h.now nets.k e = c.words_of.ensures ∙ ap (λ ps. words_of (length ps) nets.k) c.pins-pins.ensures.value in
    omega arith

pub count_net-requires-clause-inside : goal.count_net-requires-clause-inside
count_net-requires-clause-inside c i d l =
    let nets = c.args.nets.now in
    let e = c.loop-e.e in
    let start = slice_index nets.starts.now e in
    let room = c.requires in
    let within = room.nets in
    let spot = spot_of nets.h.now nets.k c.args.from c.args.to c.args.place c.args.words.now e start room (omega arith) (omega arith)
    (nets.placed.starts_at e (omega arith)) in
    let high = spot.1.1 in
    let b = get_or nets.blocks.now i d in
    let bits : c.bits_of.result ≡ net_bits nets.h.now e = c.bits_of.ensures.value ∙ ap (λ ps. bits_of (length ps)) c.pins-pins.ensures.value in
    let word = subst (λ w. b / fields_of w < net_words nets.h.now nets.k e) (sym bits)
    (block_word nets.h.now nets.k e b (nets.parted.partition.blocks i d l)) in
    omega arith

pub touched-touched-requires-clause-inside : goal.touched-touched-requires-clause-inside
touched-touched-requires-clause-inside c =
    let nets = c.args.nets.now in
    let e = c.loop-e.e in
    let start = slice_index nets.starts.now e in
    let room = c.requires in
    let within = room.nets in
    let spot = spot_of nets.h.now nets.k c.args.from c.args.to c.args.place c.args.words.now e start room (omega arith) (omega arith)
    (nets.placed.starts_at e (omega arith)) in
    let high = spot.1.1 in
    omega arith

pub overflow_add-words : goal.overflow_add-words
overflow_add-words c =
    let nets = c.args.nets.now in
    let within = c.requires.nets in
    let few = few_blocks nets.h.now nets.k nets.blocks.now c.loop-e.e nets.parted (omega arith) in
    let is = c.touched-touched.ensures in
    omega arith

pub overflow_sub-words : goal.overflow_sub-words
overflow_sub-words c =
    let nets = c.args.nets.now in
    let e = c.loop-e.e in
    let start = slice_index nets.starts.now e in
    let room = c.requires in
    let within = room.nets in
    let spot = spot_of nets.h.now nets.k c.args.from c.args.to c.args.place c.args.words.now e start room (omega arith) (omega arith)
    (nets.placed.starts_at e (omega arith)) in
    let some = spot.1.0 in
    omega arith

pub bounds-words-start : goal.bounds-words-start
bounds-words-start c =
    let nets = c.args.nets.now in
    let e = c.loop-e.e in
    let start = slice_index nets.starts.now e in
    let room = c.requires in
    let within = room.nets in
    let spot = spot_of nets.h.now nets.k c.args.from c.args.to c.args.place c.args.words.now e start room (omega arith) (omega arith)
    (nets.placed.starts_at e (omega arith)) in
    let some = spot.1.0 in
    let high = spot.1.1 in
    omega arith

pub loop-e-preserved : goal.loop-e-preserved
loop-e-preserved c =
    let nets = c.args.nets.now in
    let h = nets.h.now in
    let k = nets.k in
    let p = nets.blocks.now in
    let e = c.loop-e.e in
    let start = slice_index nets.starts.now e in
    let place = c.args.place in
    let words = c.loop-e.words in
    let mid = c.count_net.new.words in
    let pins = c.pins-pins.result.now in
    let t = c.touched-touched.result in
    let room = c.requires in
    let within = room.nets in
    let spot = spot_of h k c.args.from c.args.to place c.args.words.now e start room (omega arith) (omega arith) (nets.placed.starts_at e (omega arith)) in
    let some = spot.1.0 in
    let high = spot.1.1 in
    let pinned = c.pins-pins.ensures.value in
    let bits : c.bits_of.result ≡ net_bits h e = c.bits_of.ensures.value ∙ ap (λ ps. bits_of (length ps)) pinned in
    let size : c.words_of.result ≡ net_words h k e = c.words_of.ensures ∙ ap (λ ps. words_of (length ps) k) pinned in
    tallied_more h k e p place (start - place) c.bits_of.result words c.write_zeros.new.words mid pins spot.0 bits pinned nets.parted.partition.blocks
    (λ i l m. c.write_zeros.ensures.zeros i l (omega arith))
    (λ i apart. c.write_zeros.ensures.others i (subst (λ n. (i < start - place) ⊎ (start - place + n ≤ i)) (sym size) apart))
    c.count_net.ensures.counts c.count_net.ensures.others t c.touched-touched.ensures some (omega arith) c.args.from c.loop-e.invariant
