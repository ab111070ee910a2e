-- The account is that of the pass, and what it books fits.
use Rattle.std.proofs.Common.{slice_set, ap, ◌∙◌, arith}
use Rattle.std.proofs.lemmas.Result.{on_ok_weaker}
use Rattle.move_core.specs.declared.account.Account.{Account}
use Rattle.move_core.specs.State.{State, account}
use Rattle.move_core.specs.Events.{changed, pass_of, stage_after, gain_after}
use Rattle.move_core.proofs.StepFacts.{pass_below, few_seeds, slot_is, gain_is, gain_room}
use Rattle.move_core.proofs.ledger.Ledger.change_own.Goals as goal

pub change-requires-clause-stage : goal.change-requires-clause-stage
change-requires-clause-stage c =
    let s : State = c.args.self.now in
    let x = c.args.event in
    let k = c.requires.balance in
    let own = slot_is s k x c.requires.enabled c.self.inside.passes.items c.pass.result c.index_mut.result.now
    (ap (λ (z : State). z.accounts) c.self.view_is)
    c.pass.ensures c.index_mut.ensures.value in
    (gain_room s k x c.requires.enabled c.args.found c.gain-gain.result c.index_mut.result.now c.requires.found c.gain-gain.ensures own).1

pub change-requires-clause-total : goal.change-requires-clause-total
change-requires-clause-total c =
    let s : State = c.args.self.now in
    let x = c.args.event in
    let k = c.requires.balance in
    let own = slot_is s k x c.requires.enabled c.self.inside.passes.items c.pass.result c.index_mut.result.now
    (ap (λ (z : State). z.accounts) c.self.view_is)
    c.pass.ensures c.index_mut.ensures.value in
    (gain_room s k x c.requires.enabled c.args.found c.gain-gain.result c.index_mut.result.now c.requires.found c.gain-gain.ensures own).0

pub change-requires-clause-seeds : goal.change-requires-clause-seeds
change-requires-clause-seeds c =
    let s : State = c.args.self.now in
    let k = c.requires.balance in
    let own = slot_is s k c.args.event c.requires.enabled c.self.inside.passes.items c.pass.result c.index_mut.result.now
    (ap (λ (z : State). z.accounts) c.self.view_is) c.pass.ensures c.index_mut.ensures.value in
    let n = few_seeds s k (pass_of c.args.event) (pass_below s k c.args.event c.requires.enabled) in
    let e = ap (λ (a : Account). a.seeds) own in
    omega arith

pub returns-clause-ok : goal.returns-clause-ok
returns-clause-ok c =
    let s : State = c.args.self.now in
    let x = c.args.event in
    let k = c.requires.balance in
    let a = account s (pass_of x) in
    let own = slot_is s k x c.requires.enabled c.self.inside.passes.items c.pass.result c.index_mut.result.now
    (ap (λ (z : State). z.accounts) c.self.view_is)
    c.pass.ensures c.index_mut.ensures.value in
    on_ok_weaker c.change.result
    (λ e.
    ap (λ (z : State). record z { accounts = slice_set z.accounts c.pass.result c.change.new.self }) c.self.view_is
    ∙ ap (λ i. record s { accounts = slice_set s.accounts i c.change.new.self }) c.pass.ensures
    ∙ ap (λ y. record s { accounts = slice_set s.accounts (pass_of x) y })
    (e
    ∙ ap (λ z. changed x c.args.found c.next_stage-next.result z c.index_mut.result.now)
    (gain_is s k x c.requires.enabled c.args.found c.gain-gain.result c.requires.found c.gain-gain.ensures)
    ∙ ap (λ z. changed x c.args.found z (gain_after s.setup x c.args.found a.stage) c.index_mut.result.now) c.next_stage-next.ensures
    ∙ ap (changed x c.args.found (stage_after s.setup x c.args.found a.stage) (gain_after s.setup x c.args.found a.stage)) own))
    c.change.ensures.ok
