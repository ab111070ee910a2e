use Rattle.std.proofs.Common.{◌≡◌, ℕ, ◌-◌, ◌<◌, slice_index, ap, subst, ◌∙◌, arith}
use Rattle.hg_defs.specs.Hypergraph.{net_count}
use Rattle.pin_plain.specs.Costs.{IsCostOfRun}
use Rattle.pin_plain.specs.Counts.{net_place}
use Rattle.pin_plain.proofs.OpeningLaws.{net_pays}
use Rattle.pin_plain.proofs.CostLaws.{one_more-lt, one_more, run_cost}
use Rattle.pin_plain.proofs.costs.cost_of_run.Goals as goal

pub cost_at-sum-requires-clause-fits : goal.cost_at-sum-requires-clause-fits
cost_at-sum-requires-clause-fits c =
    let nets = c.args.nets.now in
    let h = nets.h.now in
    let p = nets.blocks.now in
    let e = c.loop-e.e in
    let run = c.requires.run in
    let l : e < net_count h = omega arith in
    let at : slice_index nets.starts.now e - 1 ≡ net_place h nets.k e = (let s = nets.placed.starts_at e l in omega arith) in
    let told = ap (slice_index c.args.words.now) at ∙ c.requires.spreads e l in
    let t : ℕ = slice_index c.args.words.now (slice_index nets.starts.now e - 1) - 64 in
    let pays = net_pays h p c.objective-objective.result e t c.objective-objective.ensures (omega arith) in
    let most = one_more-lt h p nets.parted.bounds c.args.from e c.loop-e.sum l c.loop-e.invariant in
    omega arith

pub overflow_add-sum : goal.overflow_add-sum
overflow_add-sum c =
    let nets = c.args.nets.now in
    let h = nets.h.now in
    let p = nets.blocks.now in
    let e = c.loop-e.e in
    let run = c.requires.run in
    let l : e < net_count h = omega arith in
    let at : slice_index nets.starts.now e - 1 ≡ net_place h nets.k e = (let s = nets.placed.starts_at e l in omega arith) in
    let told = ap (slice_index c.args.words.now) at ∙ c.requires.spreads e l in
    let t : ℕ = slice_index c.args.words.now (slice_index nets.starts.now e - 1) - 64 in
    let pays = c.cost_at-sum.ensures ∙ net_pays h p c.objective-objective.result e t c.objective-objective.ensures (omega arith) in
    let most = one_more-lt h p nets.parted.bounds c.args.from e c.loop-e.sum l c.loop-e.invariant in
    omega arith

pub loop-e-preserved : goal.loop-e-preserved
loop-e-preserved c =
    let nets = c.args.nets.now in
    let h = nets.h.now in
    let p = nets.blocks.now in
    let e = c.loop-e.e in
    let run = c.requires.run in
    let l : e < net_count h = omega arith in
    let at : slice_index nets.starts.now e - 1 ≡ net_place h nets.k e = (let s = nets.placed.starts_at e l in omega arith) in
    let told = ap (slice_index c.args.words.now) at ∙ c.requires.spreads e l in
    let t : ℕ = slice_index c.args.words.now (slice_index nets.starts.now e - 1) - 64 in
    let pays = c.cost_at-sum.ensures ∙ net_pays h p c.objective-objective.result e t c.objective-objective.ensures (omega arith) in
    one_more h p nets.parted.bounds c.args.from e c.loop-e.sum c.cost_at-sum.result l pays c.loop-e.invariant

pub returns : goal.returns
returns c =
    let nets = c.args.nets.now in
    let done : c.loop-e.e ≡ c.args.to = omega arith in
    subst (λ n. IsCostOfRun nets.h.now nets.blocks.now c.args.from n c.loop-e.sum) done
    (run_cost nets.h.now nets.blocks.now nets.parted.bounds c.args.from c.loop-e.e c.loop-e.sum c.loop-e.invariant)
