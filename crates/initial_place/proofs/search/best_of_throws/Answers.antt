-- The threads judged all that they made.
use Rattle.std.proofs.Common.{◌≡◌, length, vec_len, arith}
use Rattle.initial_place.proofs.WorseLaws.{answer_takes}
use Rattle.initial_place.proofs.search.best_of_throws.Goals as goal

pub returns : goal.returns
returns g c =
    let judged = c.in_ok-thrown.thrown in
    answer_takes c.args.h.now c.args.k c.args.limit c.args.best judged.items c.cheapest.result c.requires.best
    (λ i d low.
    let count = c.in_ok-thrown.ensures.len in
    let long : length judged.items ≡ vec_len judged = omega arith in
    (c.in_ok-thrown.ensures.each i d (omega arith)).1.met)
    c.cheapest.ensures
