-- The first word of a net has 64 and the number of blocks that the net touches.
use Rattle.std.proofs.Common.{slice_index, ap, ◌∙◌, arith}
use Rattle.std.proofs.lemmas.Bool.{ltb-true, lt-ltb}
use Rattle.pin_plain.proofs.CountLaws.{net_part}
use Rattle.fm_search.proofs.seeds.is_cut.Goals as goal

pub bounds-words-place : goal.bounds-words-place
bounds-words-place c =
    let p = c.args.terms.now.part in
    let start = c.place_of_net-place.ensures.start in
    let wide = c.words.ensures.wide in
    let part = net_part p.hyper p.k c.args.e c.requires in
    omega arith

pub overflow_sub-touched : goal.overflow_sub-touched
overflow_sub-touched c =
    let spread = ap (slice_index c.words.result.now) c.place_of_net-place.ensures.start ∙ c.words.ensures.spreads c.args.e c.requires in
    omega arith

pub returns : goal.returns
returns c =
    let spread = ap (slice_index c.words.result.now) c.place_of_net-place.ensures.start ∙ c.words.ensures.spreads c.args.e c.requires in
    (λ more. let two = ltb-true 1 _ more in omega arith, λ two. lt-ltb 1 _ (omega arith))
