-- The vertex and the root are there, and the weight stands in the mass.
use Rattle.std.proofs.Common.{◌≡◌, ◌-◌, true, slice_set, ap, ◌∙◌, subst, sym, arith}
use Rattle.cluster_core.specs.declared.events.ClusterEvent.TheVariants.{TakeBack}
use Rattle.cluster_core.specs.State.{State, setup_of}
use Rattle.cluster_core.specs.Events.{is_enabled}
use Rattle.cluster_core.specs.Balance.{IsClusterState}
use Rattle.cluster_core.specs.Run.{Leads}
use Rattle.cluster_core.specs.contracts.marks.Marks.{the_view}
use Rattle.cluster_core.proofs.StateFacts.{take_back_read, take_back_leads, found_at}
use Rattle.hg_defs.specs.Hypergraph.{weight_of}
use Rattle.cluster_core.proofs.marks.Marks.take_back.Goals as goal

pub vertex_weight-weight-requires : goal.vertex_weight-weight-requires
vertex_weight-weight-requires c =
    let s : State = the_view c.self.inside in
    let g = setup_of c.args.h.now c.args._cap in
    let k = subst (IsClusterState g) (sym c.self.view_is) c.requires.balance in
    let h = subst (λ (z : State). is_enabled g z.accounts (TakeBack c.args.pass) ≡ true) (sym c.self.view_is) c.requires.enabled in
    let t = take_back_read g s k c.args.pass c.index.result.now c.stage-stage.result h c.index.ensures c.stage-stage.ensures in
    let x = t.vertex in
    let e = c.vertex.ensures in
    omega arith

pub index-found-requires : goal.index-found-requires
index-found-requires c =
    let s : State = the_view c.self.inside in
    let g = setup_of c.args.h.now c.args._cap in
    let k = subst (IsClusterState g) (sym c.self.view_is) c.requires.balance in
    let h = subst (λ (z : State). is_enabled g z.accounts (TakeBack c.args.pass) ≡ true) (sym c.self.view_is) c.requires.enabled in
    let t = take_back_read g s k c.args.pass c.index.result.now c.stage-stage.result h c.index.ensures c.stage-stage.ensures in
    let x = t.root in
    let e = c.root-root.ensures in
    let m = k.shape.masses in
    omega arith

pub overflow_sub-found : goal.overflow_sub-found
overflow_sub-found c =
    let s : State = the_view c.self.inside in
    let g = setup_of c.args.h.now c.args._cap in
    let k = subst (IsClusterState g) (sym c.self.view_is) c.requires.balance in
    let h = subst (λ (z : State). is_enabled g z.accounts (TakeBack c.args.pass) ≡ true) (sym c.self.view_is) c.requires.enabled in
    let t = take_back_read g s k c.args.pass c.index.result.now c.stage-stage.result h c.index.ensures c.stage-stage.ensures in
    let x = t.weight in
    let r = t.root in
    let m = k.shape.masses in
    let w = c.vertex_weight-weight.ensures.value ∙ ap (weight_of c.args.h.now) c.vertex.ensures in
    let f = found_at s.masses c.root-root.result _ c.index-found.result.now c.root-root.ensures (omega arith) c.index-found.ensures in
    omega arith

pub index_mut-requires : goal.index_mut-requires
index_mut-requires c =
    let s : State = the_view c.self.inside in
    let g = setup_of c.args.h.now c.args._cap in
    let k = subst (IsClusterState g) (sym c.self.view_is) c.requires.balance in
    let h = subst (λ (z : State). is_enabled g z.accounts (TakeBack c.args.pass) ≡ true) (sym c.self.view_is) c.requires.enabled in
    let t = take_back_read g s k c.args.pass c.index.result.now c.stage-stage.result h c.index.ensures c.stage-stage.ensures in
    let x = t.root in
    let e = c.root-root.ensures in
    let m = k.shape.masses in
    omega arith

pub returns : goal.returns
returns c =
    let s : State = the_view c.self.inside in
    let g = setup_of c.args.h.now c.args._cap in
    let k = subst (IsClusterState g) (sym c.self.view_is) c.requires.balance in
    let h = subst (λ (z : State). is_enabled g z.accounts (TakeBack c.args.pass) ≡ true) (sym c.self.view_is) c.requires.enabled in
    subst (λ (z : State). Leads g z (TakeBack c.args.pass) c.index-found.result.now
    (record s {
      masses = slice_set s.masses c.root-root.result (c.index-found.result.now - c.vertex_weight-weight.result);
      accounts = slice_set s.accounts
          c.args.pass c.set_stage.new.self;
    })) c.self.view_is
    (take_back_leads g s k c.args.pass h c.index.result.now c.index_mut-2.result.now c.set_stage.new.self c.stage-stage.result c.vertex.result
    c.root-root.result c.index-found.result.now c.vertex_weight-weight.result c.index.ensures c.stage-stage.ensures c.vertex.ensures c.root-root.ensures
    c.index-found.ensures c.vertex_weight-weight.ensures.value c.index_mut-2.ensures.value c.set_stage.ensures)
