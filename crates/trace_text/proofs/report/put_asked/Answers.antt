use Rattle.std.proofs.Common.{ℕ, List, ap, ◌∙◌, codes}
use Rattle.hg_defs.specs.Partition.{limit}
use Rattle.hg_defs.specs.Cost.{cost}
use Rattle.hg_defs.specs.LeastLoaded.{greedy}
use Rattle.trace_text.specs.Lines.{number_line, sizes_text, objective_text}
use Rattle.hg_io.proofs.PenLemmas.{wrote, cut, exit, spelt}
use Rattle.trace_text.proofs.report.put_asked.Goals as goal

abbrev seed_line : ℕ → List ℕ
seed_line n = number_line (codes "seed ") n

abbrev workers_line : ℕ → List ℕ
workers_line n = number_line (codes "workers ") n

abbrev greedy_line : ℕ → List ℕ
greedy_line n = number_line (codes "greedy ") n

pub returns-in_err-put_sizes-clause-bytes : goal.returns-in_err-put_sizes-clause-bytes
returns-in_err-put_sizes-clause-bytes g c =
    let h = c.args.h.now in
    let j = c.args.job.now in
    let bound = c.limit_of-limit.ensures.value ∙ ap (λ (w : ℕ). limit w j.k j.eps) c.total_weight.ensures in
    exit c.from_residual.result c.from_residual.ensures.0
    (cut (greedy_line (cost h (greedy h j.k))) (cut (objective_text h.objective) (cut (workers_line j.workers) (cut (seed_line j.seed) (spelt (ap
    (sizes_text h j.k) bound) c.in_err-put_sizes.ensures.bytes)))))

pub returns-in_err-put_line-clause-bytes : goal.returns-in_err-put_line-clause-bytes
returns-in_err-put_line-clause-bytes g c =
    let h = c.args.h.now in
    let j = c.args.job.now in
    let bound = c.limit_of-limit.ensures.value ∙ ap (λ (w : ℕ). limit w j.k j.eps) c.total_weight.ensures in
    exit c.from_residual-in_err-put_line.result c.from_residual-in_err-put_line.ensures.0
    (cut (greedy_line (cost h (greedy h j.k))) (cut (objective_text h.objective) (cut (workers_line j.workers) (wrote (spelt (ap
    (sizes_text h j.k) bound) c.in_ok-put_sizes.ensures.bytes)
    c.in_err-put_line.ensures.bytes))))

pub returns-in_err-put_line-2-clause-bytes : goal.returns-in_err-put_line-2-clause-bytes
returns-in_err-put_line-2-clause-bytes g c =
    let h = c.args.h.now in
    let j = c.args.job.now in
    let bound = c.limit_of-limit.ensures.value ∙ ap (λ (w : ℕ). limit w j.k j.eps) c.total_weight.ensures in
    exit c.from_residual-in_err-put_line-2.result c.from_residual-in_err-put_line-2.ensures.0
    (cut (greedy_line (cost h (greedy h j.k))) (cut (objective_text h.objective) (wrote (wrote (spelt (ap
    (sizes_text h j.k) bound) c.in_ok-put_sizes.ensures.bytes)
    c.in_ok-put_line.ensures.bytes)
    (spelt (ap workers_line c.from.ensures) c.in_err-put_line-2.ensures.bytes))))

pub returns-in_err-put_objective-clause-bytes : goal.returns-in_err-put_objective-clause-bytes
returns-in_err-put_objective-clause-bytes g c =
    let h = c.args.h.now in
    let j = c.args.job.now in
    let bound = c.limit_of-limit.ensures.value ∙ ap (λ (w : ℕ). limit w j.k j.eps) c.total_weight.ensures in
    exit c.from_residual-in_err-put_objective.result c.from_residual-in_err-put_objective.ensures.0
    (cut (greedy_line (cost h (greedy h j.k))) (wrote (wrote (wrote (spelt (ap (sizes_text h j.k) bound) c.in_ok-put_sizes.ensures.bytes)
    c.in_ok-put_line.ensures.bytes)
    (spelt (ap workers_line c.from.ensures) c.in_ok-put_line-2.ensures.bytes))
    (spelt (ap objective_text c.objective.ensures) c.in_err-put_objective.ensures.bytes)))

pub returns-clause-bytes : goal.returns-clause-bytes
returns-clause-bytes g c =
    let h = c.args.h.now in
    let j = c.args.job.now in
    let bound = c.limit_of-limit.ensures.value ∙ ap (λ (w : ℕ). limit w j.k j.eps) c.total_weight.ensures in
    wrote (wrote (wrote (wrote (spelt (ap (sizes_text h j.k) bound) c.in_ok-put_sizes.ensures.bytes)
    c.in_ok-put_line.ensures.bytes)
    (spelt (ap workers_line c.from.ensures) c.in_ok-put_line-2.ensures.bytes))
    (spelt (ap objective_text c.objective.ensures) c.in_ok-put_objective.ensures.bytes))
    (spelt (ap greedy_line c.requires.greedy) c.put_line-3.ensures.bytes)
