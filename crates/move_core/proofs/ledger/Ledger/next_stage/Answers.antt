-- The load has room, and a vertex has few nets.
use Rattle.std.proofs.Common.{◌≡◌, true, ap, ◌∙◌, subst, arith}
use Rattle.hg_defs.specs.Hypergraph.{weight_of}
use Rattle.move_core.specs.State.{account}
use Rattle.move_core.specs.Stages.{raised_at}
use Rattle.move_core.specs.Events.{is_enabled, found_of, pass_of}
use Rattle.move_core.proofs.StepFacts.{reserve_room, pass_below, few_raised}
use Rattle.move_core.proofs.ledger.Ledger.next_stage.Goals as goal

pub reservation-requires : goal.reservation-requires
reservation-requires c =
    let s = c.args.self.now in
    let h = subst (λ x. is_enabled s x ≡ true) c.in-Reserve.is c.requires.enabled in
    let f = subst (λ x. c.args.found ≡ found_of s x) c.in-Reserve.is c.requires.found in
    let w = c.vertex_weight.ensures.value ∙ ap (λ g. weight_of g c.in-Reserve.vertex) c.requires.graph in
    let l = reserve_room s c.requires.balance c.in-Reserve.pass c.in-Reserve.vertex c.in-Reserve.to h in
    omega arith

pub raised-requires : goal.raised-requires
raised-requires c =
    let s = c.args.self.now in
    let e = ap raised_at (c.stage-stage.ensures ∙ ap (λ z. z.stage) c.pass-2.ensures) in
    let q = ap (λ i. raised_at (account s i).stage) c.pass.ensures in
    let l = few_raised s c.requires.balance (pass_of c.args.event) (pass_below s c.requires.balance c.args.event c.requires.enabled) in
    omega arith
