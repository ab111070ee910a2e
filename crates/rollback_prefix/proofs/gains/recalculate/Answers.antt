use Rattle.std.proofs.Common.{List, ℤ, subst, sym}
use Rattle.rollback_prefix.specs.Steps.{AreReplayGains}
use Rattle.rollback_prefix.proofs.gains.recalculate.Goals as goal

pub returns : goal.returns
returns g c =
    subst (λ (xs : List ℤ). AreReplayGains c.args.h.now c.args.before.now c.args.moves.now xs) (sym c.from_vec.ensures) c.in_ok-gains.ensures
