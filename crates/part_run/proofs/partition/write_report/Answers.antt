use Rattle.std.proofs.Common.{ap}
use Rattle.trace_text.specs.Report.{report_text}
use Rattle.part_run.proofs.Flushed.{flushed, unput, respelt}
use Rattle.part_run.proofs.Nonempty.{report_text-some}
use Rattle.part_run.proofs.partition.write_report.Goals as goal

pub returns-in_err-put_report-clause-answer : goal.returns-in_err-put_report-clause-answer
returns-in_err-put_report-clause-answer g c =
    let m = c.args.made.now in
    unput _ _ _ _ _ _ _ (report_text-some m.h c.args.job.now m.outcome.trace m.outcome.cycles m.outcome.blocks)
    (respelt (ap (report_text m.h c.args.job.now m.outcome.trace m.outcome.cycles) c.slice.ensures) c.in_err-put_report.ensures.bytes)
    c.in_err-put_report.ensures.cause.failed c.from_residual.result c.from_residual.ensures.0

pub returns-clause-answer : goal.returns-clause-answer
returns-clause-answer g c =
    let m = c.args.made.now in
    flushed _ _ _ _ _ _ _ _ _ (report_text-some m.h c.args.job.now m.outcome.trace m.outcome.cycles m.outcome.blocks)
    (respelt (ap (report_text m.h c.args.job.now m.outcome.trace m.outcome.cycles) c.slice.ensures) c.in_ok-put_report.ensures.bytes)
    c.in_ok-put_report.ensures.cause.kept c.flush.result c.flush.ensures.bytes c.flush.ensures.cause c.flush.ensures.sent
