-- What a partition writes into its words before a round leaves its counts as they are.
use Rattle.std.proofs.Common.{◌≡◌, ℕ, ◌+◌, ◌*◌, ◌/◌, ◌%◌, ◌^◌, ◌<◌, ◌≤◌, List, [], length, slice_index, All}
use Rattle.std.proofs.Common.{sym, ap, ap₂, subst, ◌∙◌, arith}
use Rattle.hg_base.specs.Packed.{field, fields_of, count_at}
use Rattle.hg_defs.specs.Hypergraph.{Hyper, Net, IsWithinLimits, net_count, net_of}
use Rattle.hg_defs.specs.Cost.{connectivity, price, net_cost}
use Rattle.hg_defs.specs.declared.objective.Objective.{Objective}
use Rattle.hg_defs.specs.Pins.{present, pins_in}
use Rattle.hg_defs.specs.Sums.{sum_below}
use Rattle.hg_defs.proofs.SumLaws.{sum_below-same, total_at-le}
use Rattle.hg_defs.proofs.DistinctLaws.{connectivity-sum, connectivity-le, blocks_of_pins}
use Rattle.pin_plain.specs.Counts.{net_bits, net_place, net_start, counts_of, HoldsCounts}
use Rattle.pin_plain.specs.Parted.{IsParted}
use Rattle.pin_plain.proofs.CountLaws.{net_place-le}

module _ (h : Hyper) (k : ℕ) where
  -- all counts stand behind the first words
  pub counts_kept : (old new : List ℕ) (counts : ℕ → ℕ → ℕ) → HoldsCounts h k old counts →
      ((i : ℕ) → net_place h k 0 ≤ i → slice_index new i ≡ slice_index old i) → HoldsCounts h k new counts
  counts_kept old new counts held same e b l low =
      let from = net_place-le h k 0 e (omega arith) in
      ap (λ w. field w (net_bits h e) (b % fields_of (net_bits h e))) (same (net_start h k e + b / fields_of (net_bits h e)) (omega arith)) ∙ held e b l low

-- the blocks with a count above 0 are those that the net touches
pub touched_is : (h : Hyper) (k : ℕ) (p words : List ℕ) (e bits start : ℕ) → IsParted h k p → e < net_count h → bits ≡ net_bits h e →
    ((b : ℕ) → b < k → count_at words start (net_bits h e) b ≡ counts_of h p e b) →
    sum_below (λ b. present (count_at words start bits b)) k ≡ connectivity p (net_of h e).pins
touched_is h k p words e bits start parted net width counted =
    sum_below-same (λ b. present (count_at words start bits b)) (λ b. present (pins_in p (net_of h e).pins b)) k (λ b l. ap present
    (ap (λ w. count_at words start w b) width ∙ counted b l))
    ∙ sym (connectivity-sum k p (net_of h e).pins (blocks_of_pins k p (net_of h e).pins parted.partition.blocks inside))
  where
    inside : All (λ v. v < length p) (net_of h e).pins
    inside = subst (λ n. All (λ u. u < n) (net_of h e).pins) (sym parted.partition.vertices)
        (parted.sound.nets e (record { weight = 0; pins = [] }) net).pins

-- a net has no more pins than there are in all
pub few_pins : (h : Hyper) (e : ℕ) → IsWithinLimits h → e < net_count h → length (net_of h e).pins ≤ 2 ^ 25
few_pins h e bounds l =
    let pins = total_at-le (λ (x : Net). length x.pins) h.nets e (record { weight = 0; pins = [] }) l in
    let all = bounds.pins in
    omega arith

-- a net touches no more blocks than it has pins
pub few_blocks : (h : Hyper) (k : ℕ) (p : List ℕ) (e : ℕ) → IsParted h k p → e < net_count h → connectivity p (net_of h e).pins ≤ 2 ^ 25
few_blocks h k p e parted l =
    let few = connectivity-le p (net_of h e).pins in
    let pins = few_pins h e parted.bounds l in
    omega arith

-- what a net pays is what its number of blocks says
pub net_pays : (h : Hyper) (p : List ℕ) (o : Objective) (e t : ℕ) → o ≡ h.objective → t ≡ connectivity p (net_of h e).pins →
    (net_of h e).weight * price o t ≡ net_cost h.objective p (net_of h e)
net_pays h p o e t same is = ap (λ (n : ℕ). (net_of h e).weight * n) (ap₂ price same is)
