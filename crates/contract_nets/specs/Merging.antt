-- Nets with the clusters of their pins for pins, and equal neighbours of a list of nets, merged.
use Rattle.std.specs.Prelude.{◌≡◌, ◌≢◌, ℕ, ◌+◌, ◌^◌, ◌<◌, ◌≤◌, List, [], ◌∷◌, length, slice_index, slice_index_or, Bool, nat_le, if◌then◌else◌}
use Rattle.std.specs.Ordering.{is_eq, nat_cmp}
use Rattle.std.specs.declared.cmp.Ordering.{Ordering}
use Rattle.std.specs.Cmp.Lexicographic.{slice_cmp}
use Rattle.hg_defs.specs.Sums.{total}
use Rattle.hg_defs.specs.Hypergraph.{Net}
use Rattle.hg_defs.specs.Contraction.{image}
use Rattle.contract_nets.specs.declared.ledger.TheConstants.{DROPPED}

-- a net with the clusters of its pins for pins
abbrev pub mapped_net : List ℕ → Net → Net
mapped_net clusters e = record { weight = e.weight; pins = image clusters e }

-- a net of two pins or more
abbrev pub is_kept : Net → Bool
is_kept e = nat_le 2 (length e.pins)

-- nets by their pins, in lexicographic order
abbrev pub pins_cmp : Net → Net → Ordering
pins_cmp a b = slice_cmp nat_cmp a.pins b.pins

-- a net before other nets; where the first of them has the same pins, the weights are added
abbrev pub added : ℕ → List ℕ → List Net → List Net
added weight pins [] = record { weight = weight; pins = pins } ∷ []
added weight pins (e ∷ nets) =
    if is_eq (slice_cmp nat_cmp pins e.pins)
    then record { weight = weight + e.weight; pins = pins } ∷ nets
    else record { weight = weight; pins = pins } ∷ e ∷ nets

-- the nets, with those next to each other merged where they have the same pins
abbrev pub merged : List Net → List Net
merged [] = []
merged (e ∷ nets) = added e.weight e.pins (merged nets)

-- the list of pins at place i
pub record HasPinsAt (lists : List (List ℕ)) (i : ℕ) (pins : List ℕ) : Type 0 where
  pub below : i < length lists
  pub pins_are : slice_index_or lists i [] ≡ pins

-- each place that isn't DROPPED is that of the net's pins
abbrev pub ArePlaces : List Net → List (List ℕ) → List ℕ → Type 0
ArePlaces nets lists places =
    (e : ℕ) → e < length nets → slice_index places e ≢ DROPPED → HasPinsAt lists (slice_index places e)
    (slice_index_or nets e (record { weight = 0; pins = [] })).pins

-- no more nets, pins and weight than a hypergraph may have
pub record AreWithin (nets : List Net) : Type 0 where
  pub count : length nets ≤ 2 ^ 22
  pub pins : total (λ e. length e.pins) nets ≤ 2 ^ 25
  pub weight : total (λ e. e.weight) nets < 2 ^ 54
