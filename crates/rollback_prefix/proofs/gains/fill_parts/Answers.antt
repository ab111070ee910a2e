use Rattle.std.proofs.Common.{IfOk, ◌+◌, ◌*◌, subst}
use Rattle.rollback_prefix.specs.Gains.{AreSavingsOf}
use Rattle.rollback_prefix.proofs.gains.fill_parts.Goals as goal

pub returns-clause-parts : goal.returns-clause-parts
returns-clause-parts g c j d l =
    let x = c.each.ensures.changes j d l in
    subst (λ one. IfOk one (λ gains. AreSavingsOf c.args.h.now c.args.before.now c.args.moves.now (j * c.args.share) ((j + 1) * c.args.share) gains.items))
    x.1.left x.1.call
