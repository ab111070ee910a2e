use Rattle.std.proofs.Common.{ℕ, List, ap, codes}
use Rattle.trace_text.specs.Lines.{number_line}
use Rattle.trace_text.specs.Rounds.{refined_text, swept_text}
use Rattle.trace_text.specs.Report.{first_cost, chosen_text}
use Rattle.hg_io.proofs.PenLemmas.{wrote, cut, exit, spelt}
use Rattle.trace_text.proofs.report.put_descent.Goals as goal

abbrev levels_line : ℕ → List ℕ
levels_line n = number_line (codes "levels ") n

abbrev start_line : ℕ → List ℕ
start_line n = number_line (codes "start ") n

abbrev first_line : ℕ → List ℕ
first_line n = number_line (codes "first ") n

pub returns-in_err-put_line-clause-bytes : goal.returns-in_err-put_line-clause-bytes
returns-in_err-put_line-clause-bytes g c =
    let h = c.args.h.now in
    let t = c.args.trace.now in
    exit c.from_residual.result c.from_residual.ensures.0
    (cut (swept_text t.rounds) (cut (chosen_text t.chosen) (cut (refined_text t.rounds) (cut (first_line (first_cost h t)) (cut (start_line t.start)
    (spelt (ap levels_line c.level_count.ensures) c.in_err-put_line.ensures.bytes))))))

pub returns-in_err-put_line-2-clause-bytes : goal.returns-in_err-put_line-2-clause-bytes
returns-in_err-put_line-2-clause-bytes g c =
    let h = c.args.h.now in
    let t = c.args.trace.now in
    exit c.from_residual-in_err-put_line-2.result c.from_residual-in_err-put_line-2.ensures.0
    (cut (swept_text t.rounds) (cut (chosen_text t.chosen) (cut (refined_text t.rounds) (cut (first_line (first_cost h t)) (wrote (spelt
    (ap levels_line c.level_count.ensures) c.in_ok-put_line.ensures.bytes)
    (spelt (ap start_line c.from.ensures) c.in_err-put_line-2.ensures.bytes))))))

pub returns-in_err-put_line-3-clause-bytes : goal.returns-in_err-put_line-3-clause-bytes
returns-in_err-put_line-3-clause-bytes g c =
    let h = c.args.h.now in
    let t = c.args.trace.now in
    exit c.from_residual-in_err-put_line-3.result c.from_residual-in_err-put_line-3.ensures.0
    (cut (swept_text t.rounds) (cut (chosen_text t.chosen) (cut (refined_text t.rounds) (wrote (wrote (spelt
    (ap levels_line c.level_count.ensures) c.in_ok-put_line.ensures.bytes)
    (spelt (ap start_line c.from.ensures) c.in_ok-put_line-2.ensures.bytes))
    (spelt (ap first_line c.first_cost.ensures) c.in_err-put_line-3.ensures.bytes)))))

pub returns-in_err-put_refined-clause-bytes : goal.returns-in_err-put_refined-clause-bytes
returns-in_err-put_refined-clause-bytes g c =
    let h = c.args.h.now in
    let t = c.args.trace.now in
    exit c.from_residual-in_err-put_refined.result c.from_residual-in_err-put_refined.ensures.0
    (cut (swept_text t.rounds) (cut (chosen_text t.chosen) (wrote (wrote (wrote (spelt (ap levels_line c.level_count.ensures) c.in_ok-put_line.ensures.bytes)
    (spelt (ap start_line c.from.ensures) c.in_ok-put_line-2.ensures.bytes))
    (spelt (ap first_line c.first_cost.ensures) c.in_ok-put_line-3.ensures.bytes))
    (spelt (ap refined_text c.slice.ensures) c.in_err-put_refined.ensures.bytes))))

pub returns-in_err-put_chosen-clause-bytes : goal.returns-in_err-put_chosen-clause-bytes
returns-in_err-put_chosen-clause-bytes g c =
    let h = c.args.h.now in
    let t = c.args.trace.now in
    exit c.from_residual-in_err-put_chosen.result c.from_residual-in_err-put_chosen.ensures.0
    (cut (swept_text t.rounds) (wrote (wrote (wrote (wrote (spelt (ap levels_line c.level_count.ensures) c.in_ok-put_line.ensures.bytes)
    (spelt (ap start_line c.from.ensures) c.in_ok-put_line-2.ensures.bytes))
    (spelt (ap first_line c.first_cost.ensures) c.in_ok-put_line-3.ensures.bytes))
    (spelt (ap refined_text c.slice.ensures) c.in_ok-put_refined.ensures.bytes))
    c.in_err-put_chosen.ensures.bytes))

pub returns-clause-bytes : goal.returns-clause-bytes
returns-clause-bytes g c =
    let h = c.args.h.now in
    let t = c.args.trace.now in
    wrote (wrote (wrote (wrote (wrote (spelt (ap levels_line c.level_count.ensures) c.in_ok-put_line.ensures.bytes)
    (spelt (ap start_line c.from.ensures) c.in_ok-put_line-2.ensures.bytes))
    (spelt (ap first_line c.first_cost.ensures) c.in_ok-put_line-3.ensures.bytes))
    (spelt (ap refined_text c.slice.ensures) c.in_ok-put_refined.ensures.bytes))
    c.in_ok-put_chosen.ensures.bytes)
    (spelt (ap swept_text c.slice-2.ensures) c.put_swept.ensures.bytes)
