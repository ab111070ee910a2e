-- The vertex of a stage exists.
use Rattle.std.proofs.Common.{◌≡◌, ap, ◌∙◌, subst, true, arith}
use Rattle.hg_defs.specs.Hypergraph.{vertex_count}
use Rattle.move_core.specs.State.{State, account}
use Rattle.move_core.specs.Stages.{vertex_at}
use Rattle.move_core.specs.Events.{is_enabled, pass_of}
use Rattle.move_core.proofs.StepFacts.{take_back_vertex, give_back_vertex}
use Rattle.move_core.proofs.books.Books.value.Goals as goal

pub vertex_weight-requires-in-TakeBack : goal.vertex_weight-requires-in-TakeBack
vertex_weight-requires-in-TakeBack c =
    let s : State = c.args.self.now in
    let l = take_back_vertex s c.stage-stage.ensures.balance c.in-TakeBack.pass (subst (λ x. is_enabled s x ≡ true) c.in-TakeBack.is c.requires.enabled) in
    let e = c.vertex.ensures ∙ ap vertex_at c.stage-stage.ensures.stage ∙ ap (λ i. vertex_at (account s i).stage)
    (c.pass.ensures ∙ ap pass_of c.in-TakeBack.is) in
    let n = ap vertex_count c.requires.graph in
    omega arith

pub vertex_weight-requires-in-GiveBack : goal.vertex_weight-requires-in-GiveBack
vertex_weight-requires-in-GiveBack c =
    let s : State = c.args.self.now in
    let l = give_back_vertex s c.stage-stage.ensures.balance c.in-GiveBack.pass (subst (λ x. is_enabled s x ≡ true) c.in-GiveBack.is c.requires.enabled) in
    let e = c.vertex-in-GiveBack.ensures ∙ ap vertex_at c.stage-stage.ensures.stage
    ∙ ap (λ i. vertex_at (account s i).stage) (c.pass.ensures ∙ ap pass_of c.in-GiveBack.is) in
    let n = ap vertex_count c.requires.graph in
    omega arith
