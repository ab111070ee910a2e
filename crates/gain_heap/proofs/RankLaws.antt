-- What is not less than any offer is the highest.
use Rattle.std.proofs.Common.{◌≡◌, List, [], ◌∷◌, arith, false, is_lt}
use Rattle.std.proofs.lemmas.Int.{ints}
use Rattle.std.proofs.lemmas.List.Elements.{All-nil, All-cons}
use Rattle.std.proofs.lemmas.Bool.Decides.{nat_tests}
use Rattle.std.specs.BinaryHeap.{IsUpperBound}
use Rattle.gain_heap.specs.declared.offer.Offer.{Offer}
use Rattle.gain_heap.specs.Offers.{rank, IsNoHigher, IsHighest}

no_higher : (x y : Offer) → is_lt (rank x y) ≡ false → IsNoHigher x y
no_higher x y h = record {
  gain = grind (arith, ints, nat_tests);
  tie = λ g. grind (arith, ints, nat_tests);
  vertex = λ g t. grind (arith, ints, nat_tests);
}

pub highest : (x : Offer) (offers : List Offer) → IsUpperBound rank x offers → IsHighest x offers
highest x [] h = All-nil (IsNoHigher x)
highest x (y ∷ ys) h = All-cons (IsNoHigher x) y ys (no_higher x y h.0) (highest x ys h.1)
