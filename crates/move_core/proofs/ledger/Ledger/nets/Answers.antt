-- The index has the nets of each vertex.
use Rattle.std.proofs.Common.{◌≡◌, length, ap, arith, ◌∙◌}
use Rattle.hg_defs.specs.Hypergraph.{vertex_count}
use Rattle.hg_defs.specs.Incidence.{nets_of}
use Rattle.move_core.specs.State.{State}
use Rattle.move_core.proofs.IndexLaws.{index-length, index-at, nets_of-small}
use Rattle.move_core.proofs.ledger.Ledger.nets.Goals as goal
use Rattle.move_core.proofs.ledger.Ledger.nets.Goals.{After-slice}

pub index-requires : goal.index-requires
index-requires c =
    let l = index-length c.self.inside.graph.value c.self.inside.index.items c.self.invariant.0 in
    let e = ap (λ (s : State). vertex_count s.setup.graph) c.self.view_is in
    omega arith

are-nets : (c : After-slice) → c.slice.result.now ≡ nets_of c.args.self.now.setup.graph c.args.v
are-nets c =
    let e = ap (λ (s : State). vertex_count s.setup.graph) c.self.view_is in
    let n = index-at c.self.inside.graph.value c.self.inside.index.items c.self.invariant.0 c.args.v c.index.result.now (omega arith) in
    c.slice.ensures ∙ (c.index.ensures ∙ (n ∙ ap (λ (s : State). nets_of s.setup.graph c.args.v) c.self.view_is))

pub returns-clause-nets : goal.returns-clause-nets
returns-clause-nets c = are-nets c

pub returns-clause-few : goal.returns-clause-few
returns-clause-few c =
    let b = nets_of-small c.self.inside.graph.value c.args.v c.self.invariant.1.bounds in
    let e = ap length (are-nets c) in
    let f = ap (λ (s : State). length (nets_of s.setup.graph c.args.v)) c.self.view_is in
    omega arith
