use Rattle.crew.proofs.Shares.{share_even}
use Rattle.crew.proofs.work.span_of.Goals as goal

pub returns-clause-even : goal.returns-clause-even
returns-clause-even c =
    rw (c.from-share.ensures, c.from-all.ensures, c.from-place.ensures)
    (share_even c.args.n c.args.worker c.args.workers c.requires.workers.0)
