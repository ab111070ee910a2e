use Rattle.std.proofs.Common.{arith}
use Rattle.flow_round.proofs.TableLaws.{place_below, square_small}
use Rattle.flow_round.proofs.table.place_of.Goals as goal

pub overflow_mul-result : goal.overflow_mul-result
overflow_mul-result c =
    let p = place_below c.args.k c.args.a c.args.b c.requires.first c.requires.second in
    let s = square_small c.args.k c.requires.few in
    omega (arith, p, s)

pub overflow_add-result : goal.overflow_add-result
overflow_add-result c =
    let p = place_below c.args.k c.args.a c.args.b c.requires.first c.requires.second in
    let s = square_small c.args.k c.requires.few in
    omega (arith, p, s)

pub returns-clause-below : goal.returns-clause-below
returns-clause-below c = place_below c.args.k c.args.a c.args.b c.requires.first c.requires.second
