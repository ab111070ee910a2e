-- The vertex of the offer is below the bound, and so are the others.
use Rattle.std.proofs.Common.{◌<◌, heap_items, subst, sym}
use Rattle.std.proofs.lemmas.List.Elements.{All-cons}
use Rattle.std.proofs.lemmas.List.Sorted.{All-permutation}
use Rattle.gain_heap.specs.declared.offer.Offer.{Offer}
use Rattle.gain_heap.specs.Offers.{Held}
use Rattle.gain_heap.proofs.heap.GainHeap.push.Goals as goal

pub invariant_of-self-2 : goal.invariant_of-self-2
invariant_of-self-2 c =
    let low : Offer → Type 0 = λ offer. offer.vertex < c.self.inside.vertices in
    let below = subst (λ (held : Held). c.args.offer.vertex < held.vertices) (sym c.self.view_is) c.requires in (
      All-permutation low _ (heap_items c.push.new.self) c.in_ok-push.ensures.permutation
          (All-cons low _ (heap_items c.self.inside.heap) below c.self.invariant.0),
      c.in_ok-push.ensures.heap_order c.self.invariant.1,
    )
