use Rattle.std.proofs.Common.{◌∙◌, refl, sym, arith, true≢false}
use Rattle.pin_plain.proofs.BestLaws.{settled_between, unsettled_some}
use Rattle.pin_plain.proofs.partition.Partition.settled_within.Goals as goal

pub returns-then-is_some : goal.returns-then-is_some
returns-then-is_some c = (
  λ e. absurd (true≢false (sym e)),
  λ settled. absurd (unsettled_some c.args.h.now c.args.self.now.k c.args.self.now.limit c.args.self.now.blocks c.args.first c.args.end c.loop-v.v
      (let t = c.loop-v-test.true in let w = c.requires.within in omega arith) (omega arith) c.loop-v-test.true c.best_move.result
      (sym c.is_some.ensures ∙ c.if-is_some.true) c.best_move.ensures.best settled),
)

pub returns : goal.returns
returns c = (
  λ e. settled_between c.args.h.now c.args.self.now.k c.args.self.now.limit c.args.self.now.blocks c.args.first c.args.end
      (λ u l m. c.loop-v.invariant.none u l (let t = c.loop-v-test.false in omega arith)),
  λ s. refl,
)
