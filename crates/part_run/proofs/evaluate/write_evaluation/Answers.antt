use Rattle.part_run.proofs.Flushed.{flushed, unput}
use Rattle.part_run.proofs.Nonempty.{evaluation_text-some}
use Rattle.part_run.proofs.evaluate.write_evaluation.Goals as goal

pub returns-in_err-put_evaluation-clause-answer : goal.returns-in_err-put_evaluation-clause-answer
returns-in_err-put_evaluation-clause-answer g c =
    unput _ _ _ _ _ _ _ (evaluation_text-some c.args.h.now c.args.balance.k c.args.balance.eps c.args.blocks.now) c.in_err-put_evaluation.ensures.bytes
    c.in_err-put_evaluation.ensures.cause.failed c.from_residual.result c.from_residual.ensures.0

pub returns-clause-answer : goal.returns-clause-answer
returns-clause-answer g c =
    flushed _ _ _ _ _ _ _ _ _ (evaluation_text-some c.args.h.now c.args.balance.k c.args.balance.eps c.args.blocks.now) c.in_ok-put_evaluation.ensures.bytes
    c.in_ok-put_evaluation.ensures.cause.kept c.flush.result
    c.flush.ensures.bytes c.flush.ensures.cause c.flush.ensures.sent
