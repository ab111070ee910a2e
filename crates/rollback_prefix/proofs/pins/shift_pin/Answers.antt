use Rattle.std.proofs.Common.{arith, get_or, nat_eq}
use Rattle.rollback_prefix.proofs.PinLaws.{shift_told, counted-le, tested-le}
use Rattle.rollback_prefix.proofs.pins.shift_pin.Goals as goal

pub overflow_add-joined : goal.overflow_add-joined
overflow_add-joined c =
    let few = counted-le c.args.counts.now in
    let one = tested-le (nat_eq (get_or c.args.counts.now c.args.to 0) 0) in
    omega arith

pub overflow_sub-result : goal.overflow_sub-result
overflow_sub-result c =
    let told = shift_told c.args.counts.now c.args.from c.args.to c.from.result c.from-2.result c.requires.from c.requires.to c.requires.pin c.from.ensures
    c.from-2.ensures in
    omega arith

pub returns-clause-touched : goal.returns-clause-touched
returns-clause-touched c =
    let told = shift_told c.args.counts.now c.args.from c.args.to c.from.result c.from-2.result c.requires.from c.requires.to c.requires.pin c.from.ensures
    c.from-2.ensures in
    let is = c.requires.touched in
    omega arith
