use Rattle.std.proofs.Common.{arith}
use Rattle.std.proofs.lemmas.Result.{IfOk-weaker}
use Rattle.rollback_prefix.specs.Gains.{AreSavingsOf}
use Rattle.rollback_prefix.specs.Steps.{AreReplayGains}
use Rattle.rollback_prefix.proofs.SavingLaws.{all_gains}
use Rattle.rollback_prefix.proofs.gains.gains_with.Goals as goal

pub returns-then-parts-eq1 : goal.returns-then-parts-eq1
returns-then-parts-eq1 g c =
    IfOk-weaker c.part_gains.result (λ gains. AreSavingsOf c.args.h.now c.args.before.now c.args.moves.now 0 c.nets.result gains.items)
    (λ gains. AreReplayGains c.args.h.now c.args.before.now c.args.moves.now gains.items)
    (λ gains s. all_gains c.args.h.now c.args.before.now c.args.moves.now c.nets.result gains.items (let n = c.nets.ensures.count in omega arith) s)
    c.part_gains.ensures
