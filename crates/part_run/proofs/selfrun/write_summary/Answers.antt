use Rattle.std.proofs.Common.{◌≡◌, ℕ, ap, ap₂, ◌∙◌, sym}
use Rattle.hg_defs.specs.Hypergraph.{Hyper, total_weight}
use Rattle.hg_defs.specs.Partition.{limit}
use Rattle.hg_defs.specs.Cost.{cost}
use Rattle.hg_defs.specs.LeastLoaded.{greedy}
use Rattle.round_log.specs.Trace.{limit_of}
use Rattle.trace_text.specs.Summary.{summary_text}
use Rattle.part_run.proofs.Flushed.{flushed, unput, respelt}
use Rattle.part_run.proofs.Nonempty.{summary_text-some}
use Rattle.part_run.proofs.selfrun.write_summary.Goals as goal

pub put_summary-requires : goal.put_summary-requires
put_summary-requires g c = c.requires.greedy ∙ ap (λ (h : Hyper). cost h (greedy h c.args.job.now.k)) (sym c.flat-h.ensures)

pub returns-in_err-put_summary-clause-answer : goal.returns-in_err-put_summary-clause-answer
returns-in_err-put_summary-clause-answer g c =
    let j = c.args.job.now in
    let h = c.args.made.now.h in
    let same = c.flat-h.ensures in
    let bound : c.limit_of-limit.result ≡ limit_of h j =
    c.limit_of-limit.ensures.value ∙ ap (λ (w : ℕ). limit w j.k j.eps) (c.total_weight.ensures ∙ ap (λ (f : Hyper). total_weight f) same) in
    let text = ap₂ (λ (f : Hyper) (l : ℕ). summary_text f j.k l) same bound in
    unput _ _ _ _ _ _ _ (summary_text-some h j.k (limit_of h j)) (respelt text c.in_err-put_summary.ensures.bytes)
    c.in_err-put_summary.ensures.cause.failed c.from_residual.result c.from_residual.ensures.0

pub returns-clause-answer : goal.returns-clause-answer
returns-clause-answer g c =
    let j = c.args.job.now in
    let h = c.args.made.now.h in
    let same = c.flat-h.ensures in
    let bound : c.limit_of-limit.result ≡ limit_of h j =
    c.limit_of-limit.ensures.value ∙ ap (λ (w : ℕ). limit w j.k j.eps) (c.total_weight.ensures ∙ ap (λ (f : Hyper). total_weight f) same) in
    let text = ap₂ (λ (f : Hyper) (l : ℕ). summary_text f j.k l) same bound in
    flushed _ _ _ _ _ _ _ _ _ (summary_text-some h j.k (limit_of h j)) (respelt text c.in_ok-put_summary.ensures.bytes)
    c.in_ok-put_summary.ensures.cause.kept c.flush.result c.flush.ensures.bytes c.flush.ensures.cause c.flush.ensures.sent
