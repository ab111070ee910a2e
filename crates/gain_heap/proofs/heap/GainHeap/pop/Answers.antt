-- What is left is a heap of offers below the bound, and no offer stood above the one that is taken.
use Rattle.std.proofs.Common.{◌≡◌, ◌<◌, List, ◌∷◌, All, Option, Some, None, IfSome, IfNone, IsPermutation, heap_items, subst, sym}
use Rattle.std.specs.BinaryHeap.{IsHeap, PopsGreatest}
use Rattle.std.proofs.lemmas.List.Elements.{All-tail}
use Rattle.std.proofs.lemmas.List.Sorted.{All-permutation}
use Rattle.gain_heap.specs.declared.offer.Offer.{Offer}
use Rattle.gain_heap.specs.Offers.{Held, rank, IsHighest}
use Rattle.gain_heap.proofs.RankLaws.{highest}
use Rattle.gain_heap.proofs.heap.GainHeap.pop.Goals as goal

left :
    (P : Offer → Type 0) (old new : List Offer) (r : Option Offer) (Q : Type 0) → All P old × IsHeap rank old
    → IfSome r (λ x. IsPermutation old (x ∷ new)) → IfSome r (λ x. PopsGreatest rank old x new) → IfNone r ((new ≡ old) × Q)
    → All P new × IsHeap rank new
left P old new None Q held some greatest none = subst (λ offers. All P offers × IsHeap rank offers) (sym none.0) held
left P old new (Some x) Q held some greatest none = (All-tail P x new (All-permutation P old (x ∷ new) some held.0), (greatest held.1).0)

highest_of : (old new : List Offer) (r : Option Offer) → IsHeap rank old → IfSome r (λ x. PopsGreatest rank old x new) → IfSome r (λ x. IsHighest x old)
highest_of old new None held greatest = tt
highest_of old new (Some x) held greatest = highest x old (greatest held).1

pub invariant_of-self : goal.invariant_of-self
invariant_of-self c =
    left (λ offer. offer.vertex < c.self.inside.vertices) (heap_items c.self.inside.heap) (heap_items c.pop.new.self) c.pop.result _ c.self.invariant
    c.pop.ensures.permutation c.pop.ensures.heap_order c.pop.ensures.unchanged

pub returns-clause-highest : goal.returns-clause-highest
returns-clause-highest c =
    subst (λ (held : Held). IfSome c.pop.result (λ offer. IsHighest offer held.offers)) c.self.view_is
    (highest_of (heap_items c.self.inside.heap) (heap_items c.pop.new.self) c.pop.result c.self.invariant.1 c.pop.ensures.heap_order)
