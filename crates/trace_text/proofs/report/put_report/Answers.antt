use Rattle.std.proofs.Common.{ℕ, List, ap, ap₂, ◌∙◌, sym, codes}
use Rattle.hg_defs.specs.Hypergraph.{Hyper}
use Rattle.hg_defs.specs.Cost.{cost}
use Rattle.hg_defs.specs.LeastLoaded.{greedy}
use Rattle.trace_text.specs.Lines.{number_line, loads_text, loads_of}
use Rattle.trace_text.specs.Report.{asked_text, descent_text, cycles_text}
use Rattle.hg_io.proofs.PenLemmas.{wrote, cut, ended, unfinished, spelt}
use Rattle.trace_text.proofs.LoadLemmas.{loads_of-take}
use Rattle.trace_text.proofs.report.put_report.Goals as goal

abbrev cost_line : ℕ → List ℕ
cost_line n = number_line (codes "cost ") n

pub put_asked-requires-clause-greedy : goal.put_asked-requires-clause-greedy
put_asked-requires-clause-greedy g c =
    c.requires.greedy ∙ ap (λ (h : Hyper). cost h (greedy h c.args.job.now.k)) (sym c.flat-flat.ensures)

pub returns-in_err-put_asked-clause-bytes : goal.returns-in_err-put_asked-clause-bytes
returns-in_err-put_asked-clause-bytes g c =
    let h = c.args.h.now in
    let j = c.args.job.now in
    let t = c.args.trace.now in
    let p = c.args.blocks.now in
    let same = c.flat-flat.ensures in
    unfinished c.from_residual.result c.from_residual.ensures.0 c.new-pen.ensures
    (cut (loads_text (loads_of h j.k p)) (cut (cost_line (cost h p)) (cut (cycles_text h c.args.cycles.now) (cut (descent_text h t) (spelt (ap (λ
    (f : Hyper). asked_text f j) same) c.in_err-put_asked.ensures.bytes)))))

pub returns-in_err-put_descent-clause-bytes : goal.returns-in_err-put_descent-clause-bytes
returns-in_err-put_descent-clause-bytes g c =
    let h = c.args.h.now in
    let j = c.args.job.now in
    let t = c.args.trace.now in
    let p = c.args.blocks.now in
    let same = c.flat-flat.ensures in
    unfinished c.from_residual-in_err-put_descent.result c.from_residual-in_err-put_descent.ensures.0 c.new-pen.ensures
    (cut (loads_text (loads_of h j.k p)) (cut (cost_line (cost h p)) (cut (cycles_text h c.args.cycles.now) (wrote (spelt (ap (λ
    (f : Hyper). asked_text f j) same) c.in_ok-put_asked.ensures.bytes)
    (spelt (ap (λ (f : Hyper). descent_text f t) same) c.in_err-put_descent.ensures.bytes)))))

pub returns-in_err-put_cycles-clause-bytes : goal.returns-in_err-put_cycles-clause-bytes
returns-in_err-put_cycles-clause-bytes g c =
    let h = c.args.h.now in
    let j = c.args.job.now in
    let t = c.args.trace.now in
    let p = c.args.blocks.now in
    let same = c.flat-flat.ensures in
    unfinished c.from_residual-in_err-put_cycles.result c.from_residual-in_err-put_cycles.ensures.0 c.new-pen.ensures
    (cut (loads_text (loads_of h j.k p)) (cut (cost_line (cost h p)) (wrote (wrote (spelt (ap (λ
    (f : Hyper). asked_text f j) same) c.in_ok-put_asked.ensures.bytes)
    (spelt (ap (λ (f : Hyper). descent_text f t) same) c.in_ok-put_descent.ensures.bytes))
    (spelt (ap₂ cycles_text same c.slice.ensures) c.in_err-put_cycles.ensures.bytes))))

pub returns-in_err-put_line-clause-bytes : goal.returns-in_err-put_line-clause-bytes
returns-in_err-put_line-clause-bytes g c =
    let h = c.args.h.now in
    let j = c.args.job.now in
    let t = c.args.trace.now in
    let p = c.args.blocks.now in
    let same = c.flat-flat.ensures in
    unfinished c.from_residual-in_err-put_line.result c.from_residual-in_err-put_line.ensures.0 c.new-pen.ensures
    (cut (loads_text (loads_of h j.k p)) (wrote (wrote (wrote (spelt (ap (λ (f : Hyper). asked_text f j) same) c.in_ok-put_asked.ensures.bytes)
    (spelt (ap (λ (f : Hyper). descent_text f t) same) c.in_ok-put_descent.ensures.bytes))
    (spelt (ap₂ cycles_text same c.slice.ensures) c.in_ok-put_cycles.ensures.bytes))
    (spelt (ap cost_line (c.cost_with-cost.ensures.value ∙ ap (λ (f : Hyper). cost f p) same)) c.in_err-put_line.ensures.bytes)))

pub returns-in_err-put_loads-clause-bytes : goal.returns-in_err-put_loads-clause-bytes
returns-in_err-put_loads-clause-bytes g c =
    let h = c.args.h.now in
    let j = c.args.job.now in
    let t = c.args.trace.now in
    let p = c.args.blocks.now in
    let same = c.flat-flat.ensures in
    unfinished c.from_residual-in_err-put_loads.result c.from_residual-in_err-put_loads.ensures.0 c.new-pen.ensures
    (wrote (wrote (wrote (wrote (spelt (ap (λ (f : Hyper). asked_text f j) same) c.in_ok-put_asked.ensures.bytes)
    (spelt (ap (λ (f : Hyper). descent_text f t) same) c.in_ok-put_descent.ensures.bytes))
    (spelt (ap₂ cycles_text same c.slice.ensures) c.in_ok-put_cycles.ensures.bytes))
    (spelt (ap cost_line (c.cost_with-cost.ensures.value ∙ ap (λ (f : Hyper). cost f p) same)) c.in_ok-put_line.ensures.bytes))
    (spelt (ap loads_text (loads_of-take h p c.sum_loads-all_loads.result j.k c.requires.job.few
    (c.sum_loads-all_loads.ensures.loads ∙ ap (λ (f : Hyper). loads_of f 256 p) same))) c.in_err-put_loads.ensures.bytes))

pub returns-clause-bytes : goal.returns-clause-bytes
returns-clause-bytes g c =
    let h = c.args.h.now in
    let j = c.args.job.now in
    let t = c.args.trace.now in
    let p = c.args.blocks.now in
    let same = c.flat-flat.ensures in
    ended c.end.result c.new-pen.ensures (wrote (wrote (wrote (wrote (spelt (ap (λ (f : Hyper). asked_text f j) same) c.in_ok-put_asked.ensures.bytes)
    (spelt (ap (λ (f : Hyper). descent_text f t) same) c.in_ok-put_descent.ensures.bytes))
    (spelt (ap₂ cycles_text same c.slice.ensures) c.in_ok-put_cycles.ensures.bytes))
    (spelt (ap cost_line (c.cost_with-cost.ensures.value ∙ ap (λ (f : Hyper). cost f p) same)) c.in_ok-put_line.ensures.bytes))
    (spelt (ap loads_text (loads_of-take h p c.sum_loads-all_loads.result j.k c.requires.job.few
    (c.sum_loads-all_loads.ensures.loads ∙ ap (λ (f : Hyper). loads_of f 256 p) same))) c.in_ok-put_loads.ensures.bytes)) c.end.ensures.bytes
