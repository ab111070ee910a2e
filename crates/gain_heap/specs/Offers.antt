-- Offers, how they rank, and what a heap of them holds.
use Rattle.std.specs.Prelude.{◌≡◌, ℕ, ◌≤◌, ◌≤ℤ◌, List, All}
use Rattle.std.specs.declared.cmp.Ordering.{Ordering}
use Rattle.std.specs.Ordering.{int_cmp, nat_cmp, ordering_then}
use Rattle.gain_heap.specs.declared.offer.Offer.{Offer}

-- how many vertices there are, and the offers, in no order of meaning
pub record Held : Type 0 where
  pub vertices : ℕ
  pub offers : List Offer

-- offers are compared by their gains, then by their ties, then by their vertices
abbrev pub rank : Offer → Offer → Ordering
rank x y = ordering_then (int_cmp x.gain y.gain) (ordering_then (int_cmp x.tie y.tie) (nat_cmp x.vertex y.vertex))

-- y does not stand above x
pub record IsNoHigher (x y : Offer) : Type 0 where
  pub gain : y.gain ≤ℤ x.gain
  pub tie : y.gain ≡ x.gain → y.tie ≤ℤ x.tie
  pub vertex : y.gain ≡ x.gain → y.tie ≡ x.tie → y.vertex ≤ x.vertex

-- none of the offers stands above x
abbrev pub IsHighest : Offer → List Offer → Type 0
IsHighest x offers = All (IsNoHigher x) offers
