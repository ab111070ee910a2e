use Rattle.std.proofs.Common.{◌≡◌, ◌∙◌, ℕ, List, Result, Ok, Err, sym, ap, ap₂, subst}
use Rattle.std.specs.Prelude.{MatchResult, IsErrAnd}
use Rattle.hg_defs.specs.Hypergraph.{Hyper, Suits}
use Rattle.hg_defs.specs.Cost.{cost}
use Rattle.hg_defs.specs.LeastLoaded.{greedy}
use Rattle.hg_make.specs.Made.{made}
use Rattle.round_log.specs.declared.record.Job.{Job}
use Rattle.round_log.specs.Trace.{limit_of}
use Rattle.trace_text.specs.Summary.{summary_text}
use Rattle.part_run.specs.declared.status.Status.{Status}
use Rattle.part_run.specs.Answers.{IsPlaceRefusal, IsSent, IsCutOff, outputs_of, port_of, trial_job}
use Rattle.part_run.proofs.Flushed.{uncalled}
use Rattle.part_run.proofs.Reportable.{outcome_over}
use Rattle.part_run.proofs.TrialLemmas.{made_unfixed, trial_refusal}
use Rattle.part_run.proofs.selfrun.self_run.Goals as goal

passed_on : {T : Type 0} (P : T → Type 0) (Q : Status → Type 0) (r : Result T Status) (s : Status) → IsErrAnd r (λ x. x ≡ s) → Q s → MatchResult r P Q
passed_on P Q (Ok x) s h q = absurd h
passed_on P Q (Err x) s h q = subst Q (sym h) q

pub run_in-requires-clause-fixed : goal.run_in-requires-clause-fixed
run_in-requires-clause-fixed g c κs within =
    made_unfixed c.args.trial.vertices c.job_of-job.result.k c.in_ok-h.h c.in_ok-h.ensures

pub run_in-requires-clause-suits : goal.run_in-requires-clause-suits
run_in-requires-clause-suits g c κs within =
    subst (λ (j : Job). Suits c.in_ok-h.h j.k) (sym c.job_of-job.ensures.value) (c.suits.ensures.0 c.if-not-suits.false)

pub returns-in_err-made-clause-answer : goal.returns-in_err-made-clause-answer
returns-in_err-made-clause-answer g c =
    let s = c.in_err-made.field-0.0 in
    let t = c.args.trial in
    let old = outputs_of (port_of (g.K.Sink.got c.args.out.now) (g.K.Sink.faults c.args.out.now) (g.K.Sink.held c.args.out.now))
    (port_of (g.R.Sink.got c.args.report.now) (g.R.Sink.faults c.args.report.now) (g.R.Sink.held c.args.report.now)) in
    passed_on _ _ c.from_residual-in_err-made.result s c.from_residual-in_err-made.ensures.1
    (trial_refusal t.vertices t.k old s
    (subst (λ (h : Hyper). IsPlaceRefusal (trial_job t.k) h s) c.in_ok-h.ensures
    (subst (λ (j : Job). IsPlaceRefusal j c.in_ok-h.h s) c.job_of-job.ensures.value c.in_err-made.ensures.answer)))

pub write_summary-requires-clause-greedy : goal.write_summary-requires-clause-greedy
write_summary-requires-clause-greedy g c =
    c.in_ok-made.ensures.answer.greedy
    ∙ ap (λ (h : Hyper). cost h (greedy h c.job_of-job.result.k)) (sym c.in_ok-made.ensures.answer.hypergraph)

pub returns-in-Ok-clause-answer : goal.returns-in-Ok-clause-answer
returns-in-Ok-clause-answer g c =
    let t = c.args.trial in
    let m = c.in_ok-made.made in
    let base : m.h ≡ made t.vertices = c.in_ok-made.ensures.answer.hypergraph ∙ c.in_ok-h.ensures in
    let text = ap₂ (λ (x : Hyper) (j : Job). summary_text x j.k (limit_of x j)) base c.job_of-job.ensures.value in
    let out = port_of (g.K.Sink.got c.args.out.now) (g.K.Sink.faults c.args.out.now) (g.K.Sink.held c.args.out.now) in
    let old = port_of (g.R.Sink.got c.args.report.now) (g.R.Sink.faults c.args.report.now) (g.R.Sink.held c.args.report.now) in
    let new = port_of (g.R.Sink.got c.write_summary.new.report) (g.R.Sink.faults c.write_summary.new.report)
    (g.R.Sink.held c.write_summary.new.report) in
    record {
      suits = subst (λ (h : Hyper). Suits h t.k) c.in_ok-h.ensures (c.suits.ensures.0 c.if-not-suits.false);
      reached = outcome_over c.job_of-job.ensures.value c.in_ok-h.ensures c.in_ok-made.ensures.answer.outcome;
      written = record { out = uncalled out; report = subst (λ (x : List ℕ). IsSent old new x) text c.in-Ok.ensures.answer };
    }

pub returns-in-Err-clause-answer : goal.returns-in-Err-clause-answer
returns-in-Err-clause-answer g c =
    let t = c.args.trial in
    let m = c.in_ok-made.made in
    let base : m.h ≡ made t.vertices = c.in_ok-made.ensures.answer.hypergraph ∙ c.in_ok-h.ensures in
    let text = ap₂ (λ (x : Hyper) (j : Job). summary_text x j.k (limit_of x j)) base c.job_of-job.ensures.value in
    let out = port_of (g.K.Sink.got c.args.out.now) (g.K.Sink.faults c.args.out.now) (g.K.Sink.held c.args.out.now) in
    let old = port_of (g.R.Sink.got c.args.report.now) (g.R.Sink.faults c.args.report.now) (g.R.Sink.held c.args.report.now) in
    let new = port_of (g.R.Sink.got c.write_summary.new.report) (g.R.Sink.faults c.write_summary.new.report)
    (g.R.Sink.held c.write_summary.new.report) in
    record { out = uncalled out; report = subst (λ (x : List ℕ). IsCutOff old new x) text c.in-Err.ensures.answer }
