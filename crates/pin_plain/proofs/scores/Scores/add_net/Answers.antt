use Rattle.std.proofs.Common.{◌∙◌, slice_index, get_or, refl, sym, arith}
use Rattle.pin_plain.proofs.ScoreLaws.{told_inside, told_count, told_few, part_within, part_counts, part_all, whole_elsewhere, saved_none}
use Rattle.pin_plain.proofs.scores.Scores.add_net.Goals as goal

pub count-own-requires-clause-inside : goal.count-own-requires-clause-inside
count-own-requires-clause-inside c =
    let l = c.args.lent.now in
    told_inside l.h.now l.k l.blocks.now l.starts.now l.words.now c.args.lent.now.told c.args.e 0 c.bits_of.result c.pins-pins.result.now c.requires.net
    c.pins-pins.ensures.value c.bits_of.ensures.value c.args.from c.requires.from

pub count-own-requires-clause-few : goal.count-own-requires-clause-few
count-own-requires-clause-few c = let l = c.args.lent.now in told_few l.h.now l.k l.blocks.now l.starts.now l.words.now c.args.lent.now.told

pub returns-then-own-size-clause-sums : goal.returns-then-own-size-clause-sums
returns-then-own-size-clause-sums c b q =
    let l = c.args.lent.now in
    let own =
    sym (told_count l.h.now l.k l.blocks.now l.starts.now l.words.now c.args.lent.now.told c.args.e 0 c.bits_of.result c.pins-pins.result.now c.requires.net
    c.pins-pins.ensures.value c.bits_of.ensures.value c.args.from c.requires.from)
    ∙ sym c.count-own.ensures.value ∙ c.if-own-size.true in
    let none =
    saved_none l.h.now l.blocks.now b c.args.e
    (whole_elsewhere l.h.now l.k l.blocks.now l.starts.now l.words.now c.args.lent.now.told c.args.e (slice_index l.starts.now c.args.e) _ c.bits_of.result
    c.pins-pins.result.now c.requires.net c.pins-pins.ensures.value
    c.bits_of.ensures.value refl refl c.args.from b c.requires.from q own) in
    omega arith

pub add_by_pins-requires-clause-few : goal.add_by_pins-requires-clause-few
add_by_pins-requires-clause-few c = let l = c.args.lent.now in told_few l.h.now l.k l.blocks.now l.starts.now l.words.now c.args.lent.now.told

pub add_by_pins-requires-clause-inside : goal.add_by_pins-requires-clause-inside
add_by_pins-requires-clause-inside c i d m =
    let l = c.args.lent.now in
    told_inside l.h.now l.k l.blocks.now l.starts.now l.words.now c.args.lent.now.told c.args.e 0 c.bits_of.result c.pins-pins.result.now c.requires.net
    c.pins-pins.ensures.value c.bits_of.ensures.value (get_or l.blocks.now i d)
    (c.args.lent.now.told.parted.partition.blocks i d m)

pub slice_bounds-add_by_words-end : goal.slice_bounds-add_by_words-end
slice_bounds-add_by_words-end c =
    let l = c.args.lent.now in
    let within =
    part_within l.h.now l.k l.blocks.now l.starts.now l.words.now c.args.lent.now.told c.args.e (slice_index l.starts.now c.args.e) c.words_of-words.result
    c.bits_of.result c.pins-pins.result.now c.requires.net c.pins-pins.ensures.value
    c.bits_of.ensures.value refl c.words_of-words.ensures in
    omega arith

pub add_by_words-requires-clause-counts : goal.add_by_words-requires-clause-counts
add_by_words-requires-clause-counts c =
    let l = c.args.lent.now in
    part_counts l.h.now l.k l.blocks.now l.starts.now l.words.now c.args.lent.now.told c.args.e (slice_index l.starts.now c.args.e) c.words_of-words.result
    c.bits_of.result c.pins-pins.result.now c.requires.net c.pins-pins.ensures.value
    c.bits_of.ensures.value refl c.words_of-words.ensures

pub add_by_words-requires-clause-all : goal.add_by_words-requires-clause-all
add_by_words-requires-clause-all c =
    let l = c.args.lent.now in
    part_all l.h.now l.k l.blocks.now l.starts.now l.words.now c.args.lent.now.told c.args.e (slice_index l.starts.now c.args.e) c.words_of-words.result
    c.bits_of.result c.pins-pins.result.now c.requires.net c.pins-pins.ensures.value
    c.bits_of.ensures.value refl c.words_of-words.ensures
