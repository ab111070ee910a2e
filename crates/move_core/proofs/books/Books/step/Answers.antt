-- The word exists, the write fits, and the books stay in balance.
use Rattle.std.proofs.Common.{◌≡◌, ◌<◌, ◌≤◌, ◌^◌, true, ap, ◌∙◌, subst, sym}
use Rattle.move_core.specs.State.{State, readings}
use Rattle.move_core.specs.Events.{is_word, is_enabled, word_for, write_for, removed_for}
use Rattle.move_core.specs.Balance.{IsBooks}
use Rattle.move_core.proofs.EventLaw.{event_word, event_least}
use Rattle.move_core.proofs.ReadBack.{event_most}
use Rattle.move_core.proofs.StateLaw.{event_keeps, name_room, found_is, left_by}
use Rattle.move_core.proofs.books.Books.step.Goals as goal

pub read-found-requires : goal.read-found-requires
read-found-requires c =
    let s : State = c.self.inside.ledger in
    let k = c.self.invariant in
    let h = subst (λ (z : State). is_enabled z c.args.event ≡ true) (sym c.self.view_is) c.requires.enabled in
    let w = c.word-word.ensures ∙ ap (λ (z : State). word_for z.setup z.accounts c.args.event) (sym c.self.view_is) in
    ap (is_word s.setup) w ∙ event_word s.setup k.setup (readings s) s.accounts k.balance c.args.event h

pub write-requires-clause-word : goal.write-requires-clause-word
write-requires-clause-word c =
    let s : State = c.self.inside.ledger in
    let k = c.self.invariant in
    let h = subst (λ (z : State). is_enabled z c.args.event ≡ true) (sym c.self.view_is) c.requires.enabled in
    let w = c.word-word.ensures ∙ ap (λ (z : State). word_for z.setup z.accounts c.args.event) (sym c.self.view_is) in
    ap (λ (z : State). is_word z.setup c.word-word.result) c.in_ok-change.ensures.ok
    ∙ ap (is_word s.setup) w ∙ event_word s.setup k.setup (readings s) s.accounts k.balance c.args.event h

pub value-value-requires-clause-most : goal.value-value-requires-clause-most
value-value-requires-clause-most c =
    let s : State = c.args.self.now in
    let k = subst IsBooks c.self.view_is c.self.invariant in
    let w = found_is s c.self.inside.ledger c.args.event c.word-word.result c.read-found.result c.self.view_is c.word-word.ensures c.read-found.ensures in
    subst (λ f. write_for s.setup s.accounts c.args.event f < 2 ^ 64) (sym w)
    (event_most s.setup (readings s) s.accounts k.balance k.setup c.args.event c.requires.enabled)

pub value-value-requires-clause-least : goal.value-value-requires-clause-least
value-value-requires-clause-least c =
    let s : State = c.args.self.now in
    let k = subst IsBooks c.self.view_is c.self.invariant in
    let w = found_is s c.self.inside.ledger c.args.event c.word-word.result c.read-found.result c.self.view_is c.word-word.ensures c.read-found.ensures in
    subst (λ f. removed_for s.setup s.accounts c.args.event ≤ f) (sym w)
    (event_least s.setup k.setup (readings s) s.accounts k.balance c.args.event c.requires.enabled)

pub write-requires-clause-name : goal.write-requires-clause-name
write-requires-clause-name c =
    let s : State = c.args.self.now in
    let k = subst IsBooks c.self.view_is c.self.invariant in
    let w = found_is s c.self.inside.ledger c.args.event c.word-word.result c.read-found.result c.self.view_is c.word-word.ensures c.read-found.ensures in
    λ v e.
    subst (λ z. z < 2 ^ 32) (sym (c.value-value.ensures ∙ ap (write_for s.setup s.accounts c.args.event) w))
    (name_room s k c.args.event c.requires.enabled v (sym c.word-word.ensures ∙ e))

pub invariant_of-self-2 : goal.invariant_of-self-2
invariant_of-self-2 c =
    let k = subst IsBooks c.self.view_is c.self.invariant in
    let w = found_is c.args.self.now c.self.inside.ledger c.args.event c.word-word.result c.read-found.result c.self.view_is c.word-word.ensures
    c.read-found.ensures in
    subst IsBooks (sym (left_by c.args.self.now c.self.inside.ledger c.change.new.self c.write.new.self c.args.event c.word-word.result c.read-found.result
    c.value-value.result c.self.view_is c.word-word.ensures w c.value-value.ensures c.in_ok-change.ensures.ok c.write.ensures))
    (event_keeps c.args.self.now k c.args.event c.requires.enabled)

pub returns-clause-balance : goal.returns-clause-balance
returns-clause-balance c =
    let k = subst IsBooks c.self.view_is c.self.invariant in
    let w = found_is c.args.self.now c.self.inside.ledger c.args.event c.word-word.result c.read-found.result c.self.view_is c.word-word.ensures
    c.read-found.ensures in
    subst IsBooks (sym (left_by c.args.self.now c.self.inside.ledger c.change.new.self c.write.new.self c.args.event c.word-word.result c.read-found.result
    c.value-value.result c.self.view_is c.word-word.ensures w c.value-value.ensures c.in_ok-change.ensures.ok c.write.ensures))
    (event_keeps c.args.self.now k c.args.event c.requires.enabled)
