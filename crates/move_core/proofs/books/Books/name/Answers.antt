-- A name is a block.
use Rattle.std.proofs.Common.{◌<◌, subst, sym, arith}
use Rattle.hg_defs.specs.Hypergraph.{vertex_count}
use Rattle.move_core.specs.State.{State, readings}
use Rattle.move_core.proofs.ReadBack.{name_below}
use Rattle.move_core.proofs.books.Books.name.Goals as goal

pub overflow_cast-result : goal.overflow_cast-result
overflow_cast-result c =
    let s : State = c.self.inside.ledger in
    let k = c.self.invariant in
    let e = c.read.ensures in
    let l = name_below s.setup (readings s) s.accounts k.balance k.setup c.args.v
    (subst (λ (z : State). c.args.v < vertex_count z.setup.graph) (sym c.self.view_is) c.requires) in
    let n = k.setup.blocks in
    omega arith
