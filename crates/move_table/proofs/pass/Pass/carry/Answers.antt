use Rattle.std.proofs.Common.{rules, ◌≡◌, ℕ, ◌+ℤ◌, [], ◌∷◌, ◌++◌, FitsSigned, sym, ap, ◌∙◌, subst, None}
use Rattle.std.specs.Int.{w64}
use Rattle.std.proofs.lemmas.Int.{to_z-of_z}
use mir.Val.{of_z, to_z}
use Rattle.hg_defs.specs.Hypergraph.{weight_of}
use Rattle.hg_defs.specs.Partition.{block_of}
use Rattle.move_core.specs.declared.events.Event.TheVariants.{Draw, Name, GiveBack}
use Rattle.move_core.specs.Stages.{vertex_at, drawn_stage}
use Rattle.move_table.specs.declared.view.Terms.{Terms}
use Rattle.move_table.specs.declared.view.View.{View}
use Rattle.move_table.specs.declared.grant.Grant.{Grant}
use Rattle.move_table.specs.Standing.{terms_setup}
use Rattle.move_table.specs.Steps.{IsReady, acted}
use Rattle.move_table.specs.Calls.{RacedPass, IsGrantOf, IsMover, IsMoveMade, IsPass, granted}
use Rattle.move_table.proofs.MoveLaws.{give_ready, grant_known, same_to_end, gain_to_end, made_account, move_made, move_of, carried_pass}
use Rattle.move_table.proofs.pass.Pass.carry.Goals as goal

-- what a carry knows of its steps
module _ (t : Terms) (i : ℕ) where
  named_from : (grant : Grant) (v v1 v2 : View) (drawn : ℕ) → v.terms ≡ t → v.account.stage ≡ granted grant → grant.from ≡ block_of t.part.blocks
      grant.vertex → v1 ≡ acted (Draw i) drawn v → v2 ≡ acted (Name i) (block_of v1.terms.part.blocks (vertex_at v1.account.stage)) v1 →
      v2 ≡ acted (Name i) grant.from v1
  named_from grant v v1 v2 drawn same at from e1 e2 =
      let stage : v1.account.stage ≡ drawn_stage drawn (granted grant) = ap (λ (z : View). z.account.stage) e1 ∙ ap (drawn_stage drawn) at in
      let terms : v1.terms ≡ t = ap (λ (z : View). z.terms) e1 ∙ same in
      e2 ∙ ap (λ x. acted (Name i) x v1) (ap (λ (z : Terms). block_of z.part.blocks (vertex_at v1.account.stage)) terms ∙
      ap (λ s. block_of t.part.blocks (vertex_at s)) stage ∙ sym from)

pub subtract-requires-clause-ready : goal.subtract-requires-clause-ready
subtract-requires-clause-ready c =
    let t = c.args.round.now.terms in
    let i = c.self.inside.number in
    let grant = c.args.grant in
    let v = c.self.inside.seat.me.0 in
    let same : v.terms ≡ t = ap (λ (z : RacedPass). z.view.terms) c.self.view_is ∙ c.requires.belongs.same_terms in
    let at : v.account.stage ≡ granted grant = ap (λ (z : RacedPass). z.view.account.stage) c.self.view_is ∙ c.requires.held in
    let ok : IsGrantOf t grant = subst (λ (z : Terms). IsGrantOf z grant) same (grant_known v.terms c.self.inside.grant grant (sym c.self.invariant.stage ∙
    at)
    c.self.invariant.grants) in
    let e1 = ap (λ z. z.0) c.add-drawn.ensures.view in
    let e2 = named_from t i grant v c.add-drawn.new.seat.me.0 c.store.new.seat.me.0 c.add-drawn.result same at ok.from e1
    (ap (λ z. z.0) c.store.ensures.view) in
    let p = c.carry_pins-booked.ensures.passed in
    let s = same_to_end t i grant v c.add-drawn.new.seat.me.0 c.store.new.seat.me.0 c.carry_pins-booked.new.seat.me.0 v c.add-drawn.result 0
    c.carry_pins-booked.result at e1 e2 p in
    let mover : IsMover t i c.carry_pins-booked.new.seat.me.0 = record {
      terms = s.terms ∙ same;
      live = s.live ∙ c.self.invariant.live;
      number = s.number ∙
          c.self.invariant.number;
    } in
    subst (λ (z : Terms). IsReady c.shared-3.result.now.table_id z c.carry_pins-booked.new.seat.me.0 (GiveBack i) c.load_place.result)
    (sym c.shared-3.ensures.key)
    (give_ready t i grant ok c.shared-3.result.now.table_id c.shared-3.ensures.wide c.carry_pins-booked.new.seat.me.0 mover c.load_place.result
    c.add-drawn.result c.carry_pins-booked.result p.stage c.load_place.ensures)

pub subtract-requires-clause-amount : goal.subtract-requires-clause-amount
subtract-requires-clause-amount c =
    let t = c.args.round.now.terms in
    let i = c.self.inside.number in
    let grant = c.args.grant in
    let v = c.self.inside.seat.me.0 in
    let same : v.terms ≡ t = ap (λ (z : RacedPass). z.view.terms) c.self.view_is ∙ c.requires.belongs.same_terms in
    let at : v.account.stage ≡ granted grant = ap (λ (z : RacedPass). z.view.account.stage) c.self.view_is ∙ c.requires.held in
    let ok : IsGrantOf t grant = subst (λ (z : Terms). IsGrantOf z grant) same (grant_known v.terms c.self.inside.grant grant (sym c.self.invariant.stage ∙
    at)
    c.self.invariant.grants) in
    let e1 = ap (λ z. z.0) c.add-drawn.ensures.view in
    let e2 = named_from t i grant v c.add-drawn.new.seat.me.0 c.store.new.seat.me.0 c.add-drawn.result same at ok.from e1
    (ap (λ z. z.0) c.store.ensures.view) in
    let p = c.carry_pins-booked.ensures.passed in
    let s = same_to_end t i grant v c.add-drawn.new.seat.me.0 c.store.new.seat.me.0 c.carry_pins-booked.new.seat.me.0 v c.add-drawn.result 0
    c.carry_pins-booked.result at e1 e2 p in
    c.vertex_weight.ensures.value
    ∙ ap (λ h. weight_of h grant.vertex) c.hyper.ensures.same
    ∙ ap (λ (z : Terms). weight_of z.part.hyper grant.vertex) (sym (s.terms ∙ same))
    ∙ ap (λ z. weight_of c.carry_pins-booked.new.seat.me.0.terms.part.hyper (vertex_at z)) (sym p.stage)

pub invariant_of-self : goal.invariant_of-self
invariant_of-self c =
    let t = c.args.round.now.terms in
    let i = c.self.inside.number in
    let grant = c.args.grant in
    let v = c.self.inside.seat.me.0 in
    let same : v.terms ≡ t = ap (λ (z : RacedPass). z.view.terms) c.self.view_is ∙ c.requires.belongs.same_terms in
    let at : v.account.stage ≡ granted grant = ap (λ (z : RacedPass). z.view.account.stage) c.self.view_is ∙ c.requires.held in
    let ok : IsGrantOf t grant = subst (λ (z : Terms). IsGrantOf z grant) same (grant_known v.terms c.self.inside.grant grant (sym c.self.invariant.stage ∙
    at)
    c.self.invariant.grants) in
    let e1 = ap (λ z. z.0) c.add-drawn.ensures.view in
    let e2 = named_from t i grant v c.add-drawn.new.seat.me.0 c.store.new.seat.me.0 c.add-drawn.result same at ok.from e1
    (ap (λ z. z.0) c.store.ensures.view) in
    let e4 = ap (λ z. z.0) c.subtract.ensures.view in
    let p = c.carry_pins-booked.ensures.passed in
    let booked = c.carry_pins-booked.result in
    let s = same_to_end t i grant v c.add-drawn.new.seat.me.0 c.store.new.seat.me.0 c.carry_pins-booked.new.seat.me.0 c.subtract.new.seat.me.0
    c.add-drawn.result 0 booked at e1 e2 p in
    let more = gain_to_end t i grant v c.add-drawn.new.seat.me.0 c.store.new.seat.me.0 c.carry_pins-booked.new.seat.me.0 c.subtract.new.seat.me.0
    c.add-drawn.result 0 booked at e1 e2 p in
    let fb : FitsSigned w64 booked = search rules in
    let fg : FitsSigned w64 c.self.inside.gain = search rules in
    let sum : FitsSigned w64 (c.self.inside.gain +ℤ booked) = subst (FitsSigned w64) (more ∙ ap (λ x. x +ℤ booked) c.self.invariant.all) p.fits in
    let gains : to_z w64 (of_z w64 (to_z w64 (of_z w64 c.self.inside.gain) +ℤ to_z w64 (of_z w64 booked))) ≡ c.self.inside.gain +ℤ booked =
    ap (λ x. to_z w64 (of_z w64 (x +ℤ to_z w64 (of_z w64 booked)))) (to_z-of_z w64 c.self.inside.gain fg)
    ∙ ap (λ x. to_z w64 (of_z w64 (c.self.inside.gain +ℤ x))) (to_z-of_z w64 booked fb)
    ∙ to_z-of_z w64 (c.self.inside.gain +ℤ booked) sum in
    let moved = ap (λ x. move_of i grant x) (to_z-of_z w64 booked fb) in
    let items : c.write_down.new.done.items ≡ c.self.inside.done.items ++ record { number = c.add-drawn.result; action = move_of i grant booked } ∷ [] =
    c.write_down.ensures.items ∙ ap (λ m. c.self.inside.done.items ++ record { number = c.add-drawn.result; action = m } ∷ []) moved in
    let rest : c.subtract.new.seat.me.1 ≡ [] = search rules in
    let made = carried_pass i c.self.inside.grant c.self.inside.done.items c.self.inside.gain booked c.add-drawn.result grant c.self.inside.seat.me
    c.subtract.new.seat.me c.self.invariant rest
    (ap (λ (z : View). z.number) e4 ∙ s.number) (ap (λ (z : View). z.stands) e4 ∙ s.stands) (ap (λ (z : View). z.may) e4 ∙ s.may)
    (made_account t i grant v c.add-drawn.new.seat.me.0 c.store.new.seat.me.0 c.carry_pins-booked.new.seat.me.0 c.subtract.new.seat.me.0 c.add-drawn.result
    _
    booked at e1 e2 p e4) in
    subst (λ xs. IsPass i None xs (to_z w64 (of_z w64 (to_z w64 (of_z w64 c.self.inside.gain) +ℤ to_z w64 (of_z w64 booked)))) c.subtract.new.seat.me)
    (sym items)
    (subst (λ x. IsPass i None (c.self.inside.done.items ++ record { number = c.add-drawn.result; action = move_of i grant booked } ∷ []) x
    c.subtract.new.seat.me) (sym gains) made)

pub returns-clause-moved : goal.returns-clause-moved
returns-clause-moved c =
    let t = c.args.round.now.terms in
    let i = c.self.inside.number in
    let grant = c.args.grant in
    let v = c.self.inside.seat.me.0 in
    let same : v.terms ≡ t = ap (λ (z : RacedPass). z.view.terms) c.self.view_is ∙ c.requires.belongs.same_terms in
    let at : v.account.stage ≡ granted grant = ap (λ (z : RacedPass). z.view.account.stage) c.self.view_is ∙ c.requires.held in
    let ok : IsGrantOf t grant = subst (λ (z : Terms). IsGrantOf z grant) same (grant_known v.terms c.self.inside.grant grant (sym c.self.invariant.stage ∙
    at)
    c.self.invariant.grants) in
    let e1 = ap (λ z. z.0) c.add-drawn.ensures.view in
    let e2 = named_from t i grant v c.add-drawn.new.seat.me.0 c.store.new.seat.me.0 c.add-drawn.result same at ok.from e1
    (ap (λ z. z.0) c.store.ensures.view) in
    let e4 = ap (λ z. z.0) c.subtract.ensures.view in
    let booked = c.carry_pins-booked.result in
    let fb : FitsSigned w64 booked = search rules in
    let made = move_made t i grant v c.add-drawn.new.seat.me.0 c.store.new.seat.me.0 c.carry_pins-booked.new.seat.me.0 c.subtract.new.seat.me.0
    c.add-drawn.result _ booked at e1 e2 c.carry_pins-booked.ensures.passed e4 in
    let viewed : v ≡ c.args.self.now.view = ap (λ (z : RacedPass). z.view) c.self.view_is in
    subst (λ x. IsMoveMade (terms_setup t) c.args.self.now.view.number grant c.args.self.now.view c.subtract.new.seat.me.0 x)
    (sym (to_z-of_z w64 booked fb))
    (subst (λ (z : View). IsMoveMade (terms_setup t) z.number grant z c.subtract.new.seat.me.0 booked) viewed
    (subst (λ n. IsMoveMade (terms_setup t) n grant v c.subtract.new.seat.me.0 booked) (sym c.self.invariant.number) made))

pub returns-clause-alone : goal.returns-clause-alone
returns-clause-alone c =
    let t = c.args.round.now.terms in
    let i = c.self.inside.number in
    let grant = c.args.grant in
    let v = c.self.inside.seat.me.0 in
    let same : v.terms ≡ t = ap (λ (z : RacedPass). z.view.terms) c.self.view_is ∙ c.requires.belongs.same_terms in
    let at : v.account.stage ≡ granted grant = ap (λ (z : RacedPass). z.view.account.stage) c.self.view_is ∙ c.requires.held in
    let ok : IsGrantOf t grant = subst (λ (z : Terms). IsGrantOf z grant) same (grant_known v.terms c.self.inside.grant grant (sym c.self.invariant.stage ∙
    at)
    c.self.invariant.grants) in
    let e1 = ap (λ z. z.0) c.add-drawn.ensures.view in
    let e2 = named_from t i grant v c.add-drawn.new.seat.me.0 c.store.new.seat.me.0 c.add-drawn.result same at ok.from e1
    (ap (λ z. z.0) c.store.ensures.view) in
    let e4 = ap (λ z. z.0) c.subtract.ensures.view in
    let s = same_to_end t i grant v c.add-drawn.new.seat.me.0 c.store.new.seat.me.0 c.carry_pins-booked.new.seat.me.0 v c.add-drawn.result 0
    c.carry_pins-booked.result at e1 e2 c.carry_pins-booked.ensures.passed in
    let viewed : v ≡ c.args.self.now.view = ap (λ (z : RacedPass). z.view) c.self.view_is in (
      ap (λ (z : View). z.stands) e4 ∙ s.stands ∙ ap (λ (z : View). z.stands) viewed,
      ap (λ (z : View). z.terms) e4 ∙ s.terms ∙ ap (λ (z : View). z.terms) viewed,
      ap (λ (z : View). z.number) e4 ∙ s.number ∙ ap (λ (z : View). z.number) viewed,
    )
