use Rattle.std.proofs.Common.{ℕ, ◌+◌, arith}
use Rattle.hg_defs.proofs.SumLaws.{total-take_more, total-take-le}
use Rattle.exact_cost.proofs.costs.add_all.Goals as goal

pub overflow_add-all : goal.overflow_add-all
overflow_add-all c =
    let i = c.sums.sum-index in
    let more = total-take_more (λ (s : ℕ). s) c.args.sums.now i 0 (omega arith) in
    let part = total-take-le (λ (s : ℕ). s) c.args.sums.now (i + 1) in
    omega (arith, more, part, c.sums.invariant, c.requires)

pub sums-preserved : goal.sums-preserved
sums-preserved c =
    let i = c.sums.sum-index in
    let more = total-take_more (λ (s : ℕ). s) c.args.sums.now i 0 (omega arith) in
    omega (arith, more, c.sums.invariant)
