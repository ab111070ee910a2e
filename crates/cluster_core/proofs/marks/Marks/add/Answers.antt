-- The mass and the weight fit together.
use Rattle.std.proofs.Common.{◌≡◌, true, subst, sym, arith}
use Rattle.cluster_core.specs.declared.events.ClusterEvent.TheVariants.{Add}
use Rattle.cluster_core.specs.State.{State, setup_of}
use Rattle.cluster_core.specs.Events.{is_enabled}
use Rattle.cluster_core.specs.Balance.{IsClusterState}
use Rattle.cluster_core.specs.contracts.marks.Marks.{the_view}
use Rattle.cluster_core.proofs.StateFacts.{add_fits, add_root_below, found_at}
use Rattle.cluster_core.proofs.marks.Marks.add.Goals as goal

pub answer-stage-requires : goal.answer-stage-requires
answer-stage-requires c =
    let s : State = the_view c.self.inside in
    let g = setup_of c.args.h.now c.args.cap in
    let k = subst (IsClusterState g) (sym c.self.view_is) c.requires.balance in
    let h = subst (λ (z : State). is_enabled g z.accounts (Add c.args.pass c.args.vertex c.args.root) ≡ true) (sym c.self.view_is) c.requires.enabled in
    let x = add_fits g s k c.args.pass c.args.vertex c.args.root h in
    let f = found_at s.masses c.args.root c.args.root c.index-found.result.now (λ i. c.args.root) (add_root_below g s k c.args.pass c.args.vertex
    c.args.root
    h) c.index-found.ensures in
    let w = c.vertex_weight-weight.ensures.value in
    omega arith

pub overflow_add-found : goal.overflow_add-found
overflow_add-found c =
    let s : State = the_view c.self.inside in
    let g = setup_of c.args.h.now c.args.cap in
    let k = subst (IsClusterState g) (sym c.self.view_is) c.requires.balance in
    let h = subst (λ (z : State). is_enabled g z.accounts (Add c.args.pass c.args.vertex c.args.root) ≡ true) (sym c.self.view_is) c.requires.enabled in
    let x = add_fits g s k c.args.pass c.args.vertex c.args.root h in
    let f = found_at s.masses c.args.root c.args.root c.index-found.result.now (λ i. c.args.root) (add_root_below g s k c.args.pass c.args.vertex
    c.args.root
    h) c.index-found.ensures in
    let w = c.vertex_weight-weight.ensures.value in
    omega arith
