-- One bit is tested and set.
use Rattle.std.proofs.Common.{List, ℕ, not, ◌||◌, nat_eq, ap, ◌∙◌, arith}
use Rattle.hg_base.specs.BlockSet.{has}
use Rattle.hg_base.proofs.BlockSetLaws.{has-set, is_new}
use Rattle.hg_base.proofs.block_set.BlockSet.insert.Goals as goal

pub returns-clause-new : goal.returns-clause-new
returns-clause-new c = is_new c.self.inside.words c.args.block ∙ ap (λ (ws : List ℕ). not (has ws c.args.block)) c.self.view_is

pub returns-clause-joined : goal.returns-clause-joined
returns-clause-joined c b =
    has-set c.self.inside.words c.args.block b (omega arith) ∙ ap (λ (ws : List ℕ). nat_eq b c.args.block || has ws b) c.self.view_is
