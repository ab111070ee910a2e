use Rattle.std.proofs.Common.{arith, get_or, nat_lt}
use Rattle.rollback_prefix.proofs.LoadLaws.{overloaded-le, overloaded_set}
use Rattle.rollback_prefix.proofs.PinLaws.{tested, tested-le}
use Rattle.rollback_prefix.proofs.prefix.set_load.Goals as goal

pub overflow_sub-others : goal.overflow_sub-others
overflow_sub-others c =
    let law = overloaded_set c.args.limit c.args.loads.now c.args.b c.args.load c.requires.block in
    let old = tested (nat_lt c.args.limit (get_or c.args.loads.now c.args.b 0)) in
    let is = c.requires.over in
    omega arith

pub overflow_add-result : goal.overflow_add-result
overflow_add-result c =
    let few = overloaded-le c.args.limit c.args.loads.now in
    let new = tested-le (nat_lt c.args.limit c.args.load) in
    let is = c.requires.over in
    omega arith

pub returns-clause-over : goal.returns-clause-over
returns-clause-over c =
    let law = overloaded_set c.args.limit c.args.loads.now c.args.b c.args.load c.requires.block in
    let old = tested (nat_lt c.args.limit (get_or c.args.loads.now c.args.b 0)) in
    let new = tested (nat_lt c.args.limit c.args.load) in
    let is = c.requires.over in
    omega arith
