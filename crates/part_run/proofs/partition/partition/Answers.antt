use Rattle.std.proofs.Common.{◌≡◌, Result, Ok, Err, inl, inr, refl, sym, subst}
use Rattle.std.specs.Prelude.{MatchResult, IsErrAnd}
use Rattle.hg_defs.specs.Hypergraph.{Hyper, IsFixedWithin, Suits}
use Rattle.round_log.specs.declared.record.Job.{Job}
use Rattle.part_text.specs.Part.{part_text}
use Rattle.part_run.specs.declared.status.Status.{Status}
use Rattle.part_run.specs.Answers.{IsPlaceRefusal, IsWritten, IsWriteRefusal, outputs_of, port_of, report_for}
use Rattle.part_run.specs.Spelled.{partitioning_of}
use Rattle.part_run.proofs.ModeLemmas.{spares_same}
use Rattle.part_run.proofs.Reportable.{reportable as made_reportable, outcome_over}
use Rattle.part_run.proofs.partition.partition.Goals as goal

-- an answer that is passed on is the refusal that it was
passed_on : {T : Type 0} (P : T → Type 0) (Q : Status → Type 0) (r : Result T Status) (s : Status) → IsErrAnd r (λ x. x ≡ s) → Q s → MatchResult r P Q
passed_on P Q (Ok x) s h q = absurd h
passed_on P Q (Err x) s h q = subst Q (sym h) q

pub returns-in_err-flat-clause-answer : goal.returns-in_err-flat-clause-answer
returns-in_err-flat-clause-answer g c =
    passed_on _ _ c.from_residual.result c.in_err-flat.field-0.0 c.from_residual.ensures.1
    (inl (record {
      cause = c.in_err-flat.ensures.answer;
      unwritten = refl;
    }))

pub run_in-requires-clause-fixed : goal.run_in-requires-clause-fixed
run_in-requires-clause-fixed g c κs within =
    subst (λ (j : Job). IsFixedWithin c.in_ok-flat.flat j.k) (sym c.job_of-job.ensures.value) c.in_ok-flat.ensures.within

pub run_in-requires-clause-suits : goal.run_in-requires-clause-suits
run_in-requires-clause-suits g c κs within =
    subst (λ (j : Job). Suits c.in_ok-flat.flat j.k) (sym c.job_of-job.ensures.value) c.in_ok-flat.ensures.suits

pub returns-in_err-made-clause-answer : goal.returns-in_err-made-clause-answer
returns-in_err-made-clause-answer g c =
    let s = c.in_err-made.field-0.0 in
    passed_on _ _ c.from_residual-in_err-made.result s c.from_residual-in_err-made.ensures.1
    (inr (inl (record {
      hypergraph = c.in_ok-flat.flat;
      accepted = c.in_ok-flat.ensures.answer;
      cause = subst (λ (j : Job). IsPlaceRefusal j c.in_ok-flat.flat s) c.job_of-job.ensures.value c.in_err-made.ensures.answer;
      unwritten = refl;
    })))

pub deliver-requires-clause-reportable : goal.deliver-requires-clause-reportable
deliver-requires-clause-reportable g c κs within =
    made_reportable c.args.p.now.mode _ c.job_of-job.result c.in_ok-flat.flat c.in_ok-made.made c.job_of-job.ensures.bounds
    c.in_ok-made.ensures.answer

pub returns-in_err-deliver-clause-answer : goal.returns-in_err-deliver-clause-answer
returns-in_err-deliver-clause-answer g c =
    let s = c.in_err-deliver.field-0.0 in
    let p = partitioning_of c.args.p.now in
    let made = c.in_ok-made.made in
    let old = outputs_of (port_of (g.K.Sink.got c.args.out.now) (g.K.Sink.faults c.args.out.now) (g.K.Sink.held c.args.out.now))
    (port_of (g.R.Sink.got c.args.report.now) (g.R.Sink.faults c.args.report.now) (g.R.Sink.held c.args.report.now)) in
    let new = outputs_of (port_of (g.K.Sink.got c.deliver.new.out) (g.K.Sink.faults c.deliver.new.out) (g.K.Sink.held c.deliver.new.out))
    (port_of (g.R.Sink.got c.deliver.new.report) (g.R.Sink.faults c.deliver.new.report) (g.R.Sink.held c.deliver.new.report)) in
    passed_on _ _ c.from_residual-in_err-deliver.result s c.from_residual-in_err-deliver.ensures.1
    (inr (inr (record {
      hypergraph = c.in_ok-flat.flat;
      outcome = made.outcome;
      accepted = c.in_ok-flat.ensures.answer;
      made = outcome_over c.job_of-job.ensures.value refl c.in_ok-made.ensures.answer.outcome;
      cause =
          subst (λ (j : Job). IsWriteRefusal old new (part_text made.outcome.blocks) (report_for j c.in_ok-flat.flat made.outcome) s) c.job_of-job.ensures.value
          (subst (λ (h : Hyper). IsWriteRefusal old new (part_text made.outcome.blocks) (report_for c.job_of-job.result h made.outcome) s)
          c.in_ok-made.ensures.answer.hypergraph c.in_err-deliver.ensures.answer);
    })))

pub returns-clause-answer : goal.returns-clause-answer
returns-clause-answer g c =
    let made = c.in_ok-made.made in
    let old = outputs_of (port_of (g.K.Sink.got c.args.out.now) (g.K.Sink.faults c.args.out.now) (g.K.Sink.held c.args.out.now))
    (port_of (g.R.Sink.got c.args.report.now) (g.R.Sink.faults c.args.report.now) (g.R.Sink.held c.args.report.now)) in
    let new = outputs_of (port_of (g.K.Sink.got c.deliver.new.out) (g.K.Sink.faults c.deliver.new.out) (g.K.Sink.held c.deliver.new.out))
    (port_of (g.R.Sink.got c.deliver.new.report) (g.R.Sink.faults c.deliver.new.report) (g.R.Sink.held c.deliver.new.report)) in
    record {
      hypergraph = c.in_ok-flat.flat;
      accepted = c.in_ok-flat.ensures.answer;
      made = outcome_over c.job_of-job.ensures.value refl c.in_ok-made.ensures.answer.outcome;
      written =
          subst (λ (j : Job). IsWritten old new (part_text made.outcome.blocks) (report_for j c.in_ok-flat.flat made.outcome)) c.job_of-job.ensures.value
          (subst (λ (h : Hyper). IsWritten old new (part_text made.outcome.blocks) (report_for c.job_of-job.result h made.outcome))
          c.in_ok-made.ensures.answer.hypergraph c.in_ok-deliver.ensures.answer);
    }

pub returns-in_err-flat-clause-spared : goal.returns-in_err-flat-clause-spared
returns-in_err-flat-clause-spared g c = spares_same c.args.p.now.mode _
