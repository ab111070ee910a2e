use Rattle.std.proofs.Common.{ℕ, List, ◌∙◌, ap, take, codes}
use Rattle.std.specs.Prelude.{nat_le}
use Rattle.std.specs.List.{list_all}
use Rattle.hg_defs.specs.Hypergraph.{Hyper, total_weight}
use Rattle.hg_defs.specs.Partition.{limit, is_fitting}
use Rattle.hg_defs.specs.Cost.{cost}
use Rattle.trace_text.specs.Lines.{number_line, sizes_text, objective_text, loads_text, loads_of, fits_text}
use Rattle.hg_io.proofs.PenLemmas.{wrote, cut, ended, unfinished, spelt}
use Rattle.trace_text.proofs.LoadLemmas.{loads_of-take, fits-loads}
use Rattle.trace_text.proofs.evaluation.put_evaluation.Goals as goal

abbrev cost_line : ℕ → List ℕ
cost_line n = number_line (codes "cost ") n

abbrev fits_line : Hyper → ℕ → ℕ → List ℕ → List ℕ
fits_line h k eps p = fits_text (is_fitting h k (limit (total_weight h) k eps) p)

pub returns-in_err-put_sizes-clause-bytes : goal.returns-in_err-put_sizes-clause-bytes
returns-in_err-put_sizes-clause-bytes g c =
    let h = c.args.h.now in
    let k = c.args.k in
    let p = c.args.blocks.now in
    let bound = c.limit_of-limit.ensures.value ∙ ap (λ (w : ℕ). limit w k c.args.eps) c.total_weight.ensures in
    unfinished c.from_residual.result c.from_residual.ensures.0 c.new-pen.ensures
    (cut (fits_line h k c.args.eps p) (cut (loads_text (loads_of h k p)) (cut (cost_line (cost h p)) (cut (objective_text h.objective)
    (spelt (ap (sizes_text h k) bound) c.in_err-put_sizes.ensures.bytes)))))

pub returns-in_err-put_objective-clause-bytes : goal.returns-in_err-put_objective-clause-bytes
returns-in_err-put_objective-clause-bytes g c =
    let h = c.args.h.now in
    let k = c.args.k in
    let p = c.args.blocks.now in
    let bound = c.limit_of-limit.ensures.value ∙ ap (λ (w : ℕ). limit w k c.args.eps) c.total_weight.ensures in
    let sizes = spelt (ap (sizes_text h k) bound) c.in_ok-put_sizes.ensures.bytes in
    unfinished c.from_residual-in_err-put_objective.result c.from_residual-in_err-put_objective.ensures.0 c.new-pen.ensures
    (cut (fits_line h k c.args.eps p) (cut (loads_text (loads_of h k p)) (cut (cost_line (cost h p))
    (wrote sizes (spelt (ap objective_text c.objective.ensures) c.in_err-put_objective.ensures.bytes)))))

pub returns-in_err-put_line-clause-bytes : goal.returns-in_err-put_line-clause-bytes
returns-in_err-put_line-clause-bytes g c =
    let h = c.args.h.now in
    let k = c.args.k in
    let p = c.args.blocks.now in
    let bound = c.limit_of-limit.ensures.value ∙ ap (λ (w : ℕ). limit w k c.args.eps) c.total_weight.ensures in
    let sizes = spelt (ap (sizes_text h k) bound) c.in_ok-put_sizes.ensures.bytes in
    let objective = wrote sizes (spelt (ap objective_text c.objective.ensures) c.in_ok-put_objective.ensures.bytes) in
    unfinished c.from_residual-in_err-put_line.result c.from_residual-in_err-put_line.ensures.0 c.new-pen.ensures
    (cut (fits_line h k c.args.eps p) (cut (loads_text (loads_of h k p))
    (wrote objective (spelt (ap cost_line c.cost_of.ensures.value) c.in_err-put_line.ensures.bytes))))

pub returns-in_err-put_loads-clause-bytes : goal.returns-in_err-put_loads-clause-bytes
returns-in_err-put_loads-clause-bytes g c =
    let h = c.args.h.now in
    let k = c.args.k in
    let p = c.args.blocks.now in
    let bound = c.limit_of-limit.ensures.value ∙ ap (λ (w : ℕ). limit w k c.args.eps) c.total_weight.ensures in
    let sizes = spelt (ap (sizes_text h k) bound) c.in_ok-put_sizes.ensures.bytes in
    let objective = wrote sizes (spelt (ap objective_text c.objective.ensures) c.in_ok-put_objective.ensures.bytes) in
    let costs = wrote objective (spelt (ap cost_line c.cost_of.ensures.value) c.in_ok-put_line.ensures.bytes) in
    let loads = loads_of-take h p c.sum_loads-all_loads.result k c.requires.most_k c.sum_loads-all_loads.ensures.loads in
    unfinished c.from_residual-in_err-put_loads.result c.from_residual-in_err-put_loads.ensures.0 c.new-pen.ensures
    (cut (fits_line h k c.args.eps p)
    (wrote costs (spelt (ap loads_text loads) c.in_err-put_loads.ensures.bytes)))

pub returns-in_err-put_fits-clause-bytes : goal.returns-in_err-put_fits-clause-bytes
returns-in_err-put_fits-clause-bytes g c =
    let h = c.args.h.now in
    let k = c.args.k in
    let p = c.args.blocks.now in
    let bound = c.limit_of-limit.ensures.value ∙ ap (λ (w : ℕ). limit w k c.args.eps) c.total_weight.ensures in
    let sizes = spelt (ap (sizes_text h k) bound) c.in_ok-put_sizes.ensures.bytes in
    let objective = wrote sizes (spelt (ap objective_text c.objective.ensures) c.in_ok-put_objective.ensures.bytes) in
    let costs = wrote objective (spelt (ap cost_line c.cost_of.ensures.value) c.in_ok-put_line.ensures.bytes) in
    let loads = loads_of-take h p c.sum_loads-all_loads.result k c.requires.most_k c.sum_loads-all_loads.ensures.loads in
    let lines = wrote costs (spelt (ap loads_text loads) c.in_ok-put_loads.ensures.bytes) in
    let fits = c.all_within.ensures ∙ ap (λ (l : ℕ). list_all (λ x. nat_le x l) (take k c.sum_loads-all_loads.result)) bound ∙
    fits-loads h p _ k (limit (total_weight h) k c.args.eps) loads in
    unfinished c.from_residual-in_err-put_fits.result c.from_residual-in_err-put_fits.ensures.0 c.new-pen.ensures
    (wrote lines (spelt (ap fits_text fits) c.in_err-put_fits.ensures.bytes))

pub returns-clause-bytes : goal.returns-clause-bytes
returns-clause-bytes g c =
    let h = c.args.h.now in
    let k = c.args.k in
    let p = c.args.blocks.now in
    let bound = c.limit_of-limit.ensures.value ∙ ap (λ (w : ℕ). limit w k c.args.eps) c.total_weight.ensures in
    let sizes = spelt (ap (sizes_text h k) bound) c.in_ok-put_sizes.ensures.bytes in
    let objective = wrote sizes (spelt (ap objective_text c.objective.ensures) c.in_ok-put_objective.ensures.bytes) in
    let costs = wrote objective (spelt (ap cost_line c.cost_of.ensures.value) c.in_ok-put_line.ensures.bytes) in
    let loads = loads_of-take h p c.sum_loads-all_loads.result k c.requires.most_k c.sum_loads-all_loads.ensures.loads in
    let lines = wrote costs (spelt (ap loads_text loads) c.in_ok-put_loads.ensures.bytes) in
    let fits = c.all_within.ensures ∙ ap (λ (l : ℕ). list_all (λ x. nat_le x l) (take k c.sum_loads-all_loads.result)) bound ∙
    fits-loads h p _ k (limit (total_weight h) k c.args.eps) loads in
    ended c.end.result c.new-pen.ensures (wrote lines (spelt (ap fits_text fits) c.in_ok-put_fits.ensures.bytes)) c.end.ensures.bytes
