use Rattle.std.proofs.Common.{sym, ap, ◌∙◌, true≢false}
use Rattle.part_text.specs.Part.{part_text}
use Rattle.part_run.proofs.Nonempty.{part_text-some}
use Rattle.part_run.proofs.Flushed.{flushed, unput, respelt}
use Rattle.part_run.proofs.partition.write_blocks.Goals as goal

pub returns-in_err-put_part-clause-answer : goal.returns-in_err-put_part-clause-answer
returns-in_err-put_part-clause-answer g c =
    unput _ _ _ _ _ _ _ (part_text-some c.args.blocks.now (λ e. true≢false (sym (c.is_empty.ensures.1 e) ∙ c.if-is_empty.false)))
    (respelt (ap part_text c.slice.ensures) c.in_err-put_part.ensures.bytes) c.in_err-put_part.ensures.cause.failed
    c.from_residual.result c.from_residual.ensures.0

pub returns-clause-answer : goal.returns-clause-answer
returns-clause-answer g c =
    flushed _ _ _ _ _ _ _ _ _ (part_text-some c.args.blocks.now (λ e. true≢false (sym (c.is_empty.ensures.1 e) ∙ c.if-is_empty.false)))
    (respelt (ap part_text c.slice.ensures) c.in_ok-put_part.ensures.bytes) c.in_ok-put_part.ensures.cause.kept
    c.flush.result c.flush.ensures.bytes c.flush.ensures.cause c.flush.ensures.sent
