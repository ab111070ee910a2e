-- The net of a Widen or a Narrow exists, and its spread word has room.
use Rattle.std.proofs.Common.{◌≡◌, true, ap, ◌∙◌, subst, arith}
use Rattle.hg_defs.specs.Hypergraph.{net_count}
use Rattle.move_core.specs.Events.{is_enabled, found_of, word_net, word_for}
use Rattle.move_core.proofs.StepFacts.{widen_word, narrow_word, widen_room}
use Rattle.move_core.proofs.ledger.Ledger.gain.Goals as goal

pub widen_gain-requires-clause-net : goal.widen_gain-requires-clause-net
widen_gain-requires-clause-net c =
    let s = c.args.self.now in
    let h = subst (λ x. is_enabled s x ≡ true) c.in-Widen.is c.requires.enabled in
    let w = c.net.ensures ∙ ap word_net (c.requires.word ∙ ap (word_for s.setup s.accounts) c.in-Widen.is) in
    let l = widen_word s c.requires.balance c.in-Widen.pass h in
    let n = ap net_count c.requires.graph in
    omega arith

pub widen_gain-requires-clause-found : goal.widen_gain-requires-clause-found
widen_gain-requires-clause-found c =
    let s = c.args.self.now in
    let h = subst (λ x. is_enabled s x ≡ true) c.in-Widen.is c.requires.enabled in
    let f = subst (λ x. c.args.found ≡ found_of s x) c.in-Widen.is c.requires.found in
    let l = widen_room s c.requires.balance c.in-Widen.pass h in
    omega arith

pub narrow_gain-requires : goal.narrow_gain-requires
narrow_gain-requires c =
    let s = c.args.self.now in
    let h = subst (λ x. is_enabled s x ≡ true) c.in-Narrow.is c.requires.enabled in
    let w = c.net-in-Narrow.ensures ∙ ap word_net (c.requires.word ∙ ap (word_for s.setup s.accounts) c.in-Narrow.is) in
    let l = narrow_word s c.requires.balance c.in-Narrow.pass h in
    let n = ap net_count c.requires.graph in
    omega arith
