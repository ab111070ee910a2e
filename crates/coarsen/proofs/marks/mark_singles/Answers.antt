-- All vertices were looked at.
use Rattle.std.proofs.Common.{◌≡◌, ℕ, length, subst, arith}
use Rattle.hg_defs.specs.Hypergraph.{vertex_count}
use Rattle.coarsen.proofs.MarkLaws.{AreMarkedUpto, marked_all}
use Rattle.coarsen.proofs.marks.mark_singles.Goals as goal

pub returns : goal.returns
returns c =
    let all : c.loop-v.v ≡ vertex_count c.args.h.now = omega (arith, c.vertices-v-end.ensures.count, c.loop-v-test.false, c.loop-v.auto.v-end) in
    marked_all c.args.h.now c.args.roots.now c.loop-v.single c.requires.roots (omega arith)
    (subst (λ (i : ℕ). AreMarkedUpto c.args.h.now c.args.roots.now i c.loop-v.single) all c.loop-v.invariant)
