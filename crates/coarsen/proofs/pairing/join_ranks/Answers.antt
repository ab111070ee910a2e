-- One pair more.
use Rattle.std.proofs.Common.{◌≡◌, ℕ, ◌+◌, ◌≤◌, List, Bool, false, max, min, get_or, set, refl, sym, subst, arith}
use Rattle.hg_defs.specs.Hypergraph.{weight_of}
use Rattle.coarsen.proofs.PairLaws.{IsJoining, joining_more, joining_end}
use Rattle.coarsen.proofs.pairing.join_ranks.Goals as goal

pub loop-i-preserved : goal.loop-i-preserved
loop-i-preserved c =
    let h = c.args.h.now in
    let ranks = c.args.ranks.now in
    let i = c.loop-i.i in
    let u = (get_or ranks i (0, 0)).1 in
    let v = (get_or ranks (i + 1) (0, 0)).1 in
    let marks = set (set c.loop-i.single u false) v false in
    let a = c.vertex_weight.ensures.value in
    let b = c.vertex_weight-in-loop-i.ensures.value in
    let light : weight_of h u + weight_of h v ≤ c.args.cap = omega (arith, c.if-vertex_weight-cap.false) in
    subst (λ (x : ℕ). IsJoining h c.args.cap ranks c.args.roots.now c.args.single.now (i + 2) (set c.loop-i.roots x c.min.result) marks) (sym c.max.ensures)
    (subst (λ (x : ℕ). IsJoining h c.args.cap ranks c.args.roots.now c.args.single.now (i + 2) (set c.loop-i.roots (max u v) x) marks) (sym c.min.ensures)
    (joining_more h c.args.cap ranks c.args.roots.now c.args.single.now i c.loop-i.roots c.loop-i.single c.loop-i.invariant c.loop-i-test.true u v refl refl c.requires.apart
    light))

pub returns-clause-paired : goal.returns-clause-paired
returns-clause-paired c = joining_end c.args.h.now c.args.cap c.args.ranks.now c.args.roots.now c.args.single.now c.loop-i.i c.loop-i.roots c.loop-i.single c.loop-i.invariant
    c.loop-i-test.false
