use Rattle.std.proofs.Common.{◌&&◌, ◌∙◌, sym, ap}
use Rattle.hg_defs.specs.Hypergraph.{Hyper, net_of}
use Rattle.hg_defs.specs.Pins.{pins_in}
use Rattle.round_log.specs.Rounds.{has_pin}
use Rattle.flow_pair.proofs.FormLaws.{no_pin, some_pin, pins_told}
use Rattle.flow_pair.proofs.cut.touches.Goals as goal

pub returns-then-count-eq0 : goal.returns-then-count-eq0
returns-then-count-eq0 c =
    let p = c.args.p.now.blocks in
    let net = net_of c.args.h.now c.args.e in
    sym (ap (λ t. t && has_pin p net c.args.b) (no_pin p net.pins c.args.a c.count.result
    (c.count.ensures ∙ ap (λ (x : Hyper). pins_in p (net_of x c.args.e).pins c.args.a) c.requires.belongs) c.if-count-eq0.true))

pub returns : goal.returns
returns c =
    let p = c.args.p.now.blocks in
    let net = net_of c.args.h.now c.args.e in
    let first = some_pin p net.pins c.args.a c.count.result
    (c.count.ensures ∙ ap (λ (x : Hyper). pins_in p (net_of x c.args.e).pins c.args.a) c.requires.belongs) c.if-count-eq0.false in
    pins_told p net.pins c.args.b c.count-2.result
    (c.count-2.ensures ∙ ap (λ (x : Hyper). pins_in p (net_of x c.args.e).pins c.args.b) c.requires.belongs)
    ∙ sym (ap (λ t. t && has_pin p net c.args.b) first)
