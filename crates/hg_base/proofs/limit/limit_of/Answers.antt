-- The limit is below 2^61.
use Rattle.std.proofs.Common.{arith}
use Rattle.hg_base.proofs.LimitLaws.{limit-lt}
use Rattle.hg_base.proofs.limit.limit_of.Goals as goal

pub overflow_cast-result : goal.overflow_cast-result
overflow_cast-result c =
    let bound = limit-lt c.args.total c.args.k c.args.eps c.requires.total c.requires.k c.requires.eps in
    rw (c.from.ensures, c.from-2.ensures, c.from-k.ensures) (omega arith)

pub returns-clause-bound : goal.returns-clause-bound
returns-clause-bound c =
    rw (c.from.ensures, c.from-2.ensures, c.from-k.ensures)
    (limit-lt c.args.total c.args.k c.args.eps c.requires.total c.requires.k c.requires.eps)
