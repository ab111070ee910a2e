-- The arrays of a new hypergraph have no nets, and the vertices weigh 1.
use Rattle.std.proofs.Common.{ap, ◌∙◌, arith}
use Rattle.hg_defs.specs.Sums.{total}
use Rattle.hg_defs.proofs.SumLaws.{total-replicate}
use Rattle.hg_base.proofs.FlatLaws.{IsLaidOut-bare, IsKept-bare}
use Rattle.hg_base.proofs.hyper.FlatHyper.start.Goals as goal

pub invariant_of-result : goal.invariant_of-result
invariant_of-result c =
    let weights = c.in_ok-vec.ensures.items_if_clones_equal (λ y e. e) in
    let fixes = c.in_ok-vec-2.ensures.items_if_clones_equal (λ y e. e) in
    rw (weights, fixes, c.in_ok-vec-3.ensures.items, c.new.ensures.items, c.new-2.ensures.items, c.from.ensures)
    (IsLaidOut-bare, IsKept-bare _ c.args.vertices c.requires)

pub returns-clause-total : goal.returns-clause-total
returns-clause-total c =
    let sum = total-replicate (λ w. w) c.args.vertices 1 in
    ap (total (λ w. w)) (c.in_ok-vec.ensures.items_if_clones_equal (λ y e. e)) ∙ omega arith
