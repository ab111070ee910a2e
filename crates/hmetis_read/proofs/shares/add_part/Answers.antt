-- All nets together are nets of the vertices, and within the limits.
use Rattle.std.proofs.Common.{ℕ, ◌++◌, List, length, All, sym, subst, arith}
use Rattle.std.proofs.lemmas.List.{length-replicate}
use Rattle.hg_defs.specs.Hypergraph.{Net, Hyper, IsNet, IsWithinLimits}
use Rattle.hmetis_read.proofs.ShareLaws.{within_limits}
use Rattle.hmetis_read.proofs.shares.add_part.Goals as goal

pub overflow_add-nets : goal.overflow_add-nets
overflow_add-nets c =
    let others = c.nets.ensures.bounds.nets in
    let part = c.requires.part.count in
    omega arith

pub add_to-requires-clause-nets : goal.add_to-requires-clause-nets
add_to-requires-clause-nets c =
    let nets : List Net = c.args.part.now.nets in
    subst (λ (h : Hyper). All (IsNet (length h.weights)) nets) (sym c.requires.hyper)
    (subst (λ (n : ℕ). All (IsNet n) nets) (sym (length-replicate {A = ℕ} c.args.shape.now.vertices 1)) c.requires.part.sound)

pub add_to-requires-clause-limits : goal.add_to-requires-clause-limits
add_to-requires-clause-limits c =
    let old : List Net = c.args.hyper.now.nets in
    let nets : List Net = c.args.part.now.nets in
    subst (λ (h : Hyper). IsWithinLimits (record h { nets = h.nets ++ nets })) (sym c.requires.hyper)
    (within_limits c.args.shape.now old nets c.args.others c.args.part.now.pins c.requires.others c.requires.part (omega arith) (omega arith)
    c.requires.vertices)
