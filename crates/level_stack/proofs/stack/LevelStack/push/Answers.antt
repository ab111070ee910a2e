-- One level more.
use Rattle.std.proofs.Common.{◌≡◌, ◌++◌, ◌∷◌, [], List, ap, ◌∙◌, sym, subst}
use Rattle.hg_defs.specs.Hypergraph.{Hyper}
use Rattle.contract_nets.specs.declared.ledger.Merged.{Merged}
use Rattle.level_stack.specs.Stack.{first_of}
use Rattle.level_stack.proofs.StackLaws.{IsStacked_push, first_pushed}
use Rattle.level_stack.proofs.stack.LevelStack.push.Goals as goal

pub invariant_of-self-2 : goal.invariant_of-self-2
invariant_of-self-2 c =
    let s = c.self.inside in
    let below =
    c.in_ok-push-2.ensures.items ∙ ap (λ (hs : List Hyper). hs ++ c.into_flat.result ∷ []) c.in_ok-reserve.ensures.items
    ∙ ap (λ (h : Hyper). s.below.items ++ h ∷ []) (c.into_flat.ensures ∙ c.replace-last.ensures.value) in
    let ledgers = c.in_ok-push-3.ensures.items ∙ ap (λ (xs : List (List Merged)). xs ++ c.args.ledger ∷ []) c.in_ok-reserve-2.ensures.items in
    rw (c.in_ok-push.ensures.ok, below, c.replace-last.ensures.after, ledgers, first_pushed s.below.items s.top c.args.coarse)
    (IsStacked_push (first_of s.below.items s.top) s.maps s.ledgers.items (s.below.items ++ s.top ∷ []) c.args.map c.args.coarse c.args.ledger
    c.self.invariant
    (rw (← c.self.view_is) at c.requires.depth)
    (rw (← c.self.view_is) at c.requires.coarse)
    (rw (← c.self.view_is) at c.requires.books))
