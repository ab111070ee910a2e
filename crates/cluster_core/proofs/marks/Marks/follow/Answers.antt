-- The vertex is there, and its root has a number.
use Rattle.std.proofs.Common.{◌≡◌, ◌+◌, true, slice_set, subst, sym, arith}
use Rattle.cluster_core.specs.declared.events.ClusterEvent.TheVariants.{Follow}
use Rattle.cluster_core.specs.State.{State, setup_of}
use Rattle.cluster_core.specs.Events.{is_enabled}
use Rattle.cluster_core.specs.Balance.{IsClusterState}
use Rattle.cluster_core.specs.Run.{Leads}
use Rattle.cluster_core.specs.contracts.marks.Marks.{the_view}
use Rattle.cluster_core.proofs.StateFacts.{follow_read, follow_leads}
use Rattle.cluster_core.proofs.marks.Marks.follow.Goals as goal

pub index-found-requires : goal.index-found-requires
index-found-requires c =
    let s : State = the_view c.self.inside in
    let g = setup_of c.args._h.now c.args._cap in
    let k = subst (IsClusterState g) (sym c.self.view_is) c.requires.balance in
    let h = subst (λ (z : State). is_enabled g z.accounts (Follow c.args.pass) ≡ true) (sym c.self.view_is) c.requires.enabled in
    let t = follow_read g s k c.args.pass c.index.result.now c.stage-stage.result h c.index.ensures c.stage-stage.ensures in
    let x = t.vertex in
    let e = c.vertex-vertex.ensures in
    let m = k.shape.marks in
    omega arith

pub overflow_add-root : goal.overflow_add-root
overflow_add-root c =
    let s : State = the_view c.self.inside in
    let g = setup_of c.args._h.now c.args._cap in
    let k = subst (IsClusterState g) (sym c.self.view_is) c.requires.balance in
    let h = subst (λ (z : State). is_enabled g z.accounts (Follow c.args.pass) ≡ true) (sym c.self.view_is) c.requires.enabled in
    let t = follow_read g s k c.args.pass c.index.result.now c.stage-stage.result h c.index.ensures c.stage-stage.ensures in
    let x = t.root in
    let e = c.root.ensures in
    let m = k.bounds.vertices in
    omega arith

pub index_mut-requires : goal.index_mut-requires
index_mut-requires c =
    let s : State = the_view c.self.inside in
    let g = setup_of c.args._h.now c.args._cap in
    let k = subst (IsClusterState g) (sym c.self.view_is) c.requires.balance in
    let h = subst (λ (z : State). is_enabled g z.accounts (Follow c.args.pass) ≡ true) (sym c.self.view_is) c.requires.enabled in
    let t = follow_read g s k c.args.pass c.index.result.now c.stage-stage.result h c.index.ensures c.stage-stage.ensures in
    let x = t.vertex in
    let e = c.vertex-vertex.ensures in
    let m = k.shape.marks in
    omega arith

pub returns : goal.returns
returns c =
    let s : State = the_view c.self.inside in
    let g = setup_of c.args._h.now c.args._cap in
    let k = subst (IsClusterState g) (sym c.self.view_is) c.requires.balance in
    let h = subst (λ (z : State). is_enabled g z.accounts (Follow c.args.pass) ≡ true) (sym c.self.view_is) c.requires.enabled in
    subst (λ f. Leads g c.args.self.now (Follow c.args.pass) f (record s {
      marks = slice_set s.marks c.vertex-vertex.result (c.root.result + 2);
      accounts = slice_set s.accounts c.args.pass c.follow.new.self;
    })) (sym c.from.ensures)
    (subst (λ (z : State). Leads g z (Follow c.args.pass) c.index-found.result.now
    (record s { marks = slice_set s.marks c.vertex-vertex.result (c.root.result + 2); accounts = slice_set s.accounts c.args.pass c.follow.new.self }))
    c.self.view_is
    (follow_leads g s k c.args.pass h c.index.result.now c.index_mut-2.result.now c.follow.new.self c.stage-stage.result c.vertex-vertex.result
    c.root.result
    c.index-found.result.now c.index.ensures c.stage-stage.ensures c.vertex-vertex.ensures c.root.ensures c.index-found.ensures c.index_mut-2.ensures.value
    c.follow.ensures))
