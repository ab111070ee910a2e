-- Vertices inside a block: those none of whose nets touches two blocks.
use Rattle.std.proofs.Common.{◌≡◌, ◌≢◌, ℕ, ◌<◌, Option, Some, None, List, [], nat_eq, nat_lt, false, length, map, All, Contains, get_or}
use Rattle.std.proofs.Common.{ℤ, pos, ◌-ℤ◌, ◌<ℤ◌, refl, sym, ap, subst, ◌∙◌, arith}
use Rattle.std.proofs.lemmas.Bool.{eqb-true, eq-eqb, ltb-false}
use Rattle.std.proofs.lemmas.Int.{ints}
use Rattle.hg_defs.specs.Sums.{total}
use Rattle.hg_defs.specs.Hypergraph.{Hyper, IsHypergraph, vertex_count, net_count, net_of}
use Rattle.hg_defs.specs.Partition.{IsPartition, block_of}
use Rattle.hg_defs.specs.Cost.{connectivity}
use Rattle.hg_defs.specs.Pins.{pins_in}
use Rattle.hg_defs.specs.Incidence.{nets_of}
use Rattle.hg_defs.specs.Moves.{best_block}
use Rattle.hg_defs.proofs.DistinctLaws.{connectivity-sum, pins_in-sum, pins_in-times, times_of-positive, Contains-map, blocks_of_pins}
use Rattle.hg_defs.proofs.SumLaws.{total-zero}
use Rattle.hg_defs.proofs.MoveLaws.{best_block_is}
use Rattle.incidence.proofs.IndexLaws.{nets_of-below}
use Rattle.pin_plain.specs.Savings.{net_saved, net_lost}
use Rattle.pin_plain.proofs.GainLaws.{alone, gain_counted, nets_of-hold, some_blocks}
use Rattle.pin_plain.proofs.CountLaws.{pins_in-two}
use Rattle.pin_plain.proofs.ScoreLaws.{saved_none}

module _ (h : Hyper) (k : ℕ) (p : List ℕ) (v e : ℕ) (good : IsHypergraph h) (whole : IsPartition h k p) (vertex : v < vertex_count h) (net : e < net_count h)
    (pin : Contains (net_of h e).pins v) where
  own_block : block_of p v < k
  own_block = whole.blocks v 0 (let n = whole.vertices in omega arith)

  pins_low : All (λ u. block_of p u < k) (net_of h e).pins
  pins_low = blocks_of_pins k p (net_of h e).pins whole.blocks
      (subst (λ n. All (λ u. u < n) (net_of h e).pins) (sym whole.vertices) (good.nets e (record { weight = 0; pins = [] }) net).pins)

  own_some : 0 < pins_in p (net_of h e).pins (block_of p v)
  own_some =
      let times = times_of-positive (map (block_of p) (net_of h e).pins) (block_of p v) (Contains-map (block_of p) (net_of h e).pins v pin) in
      let same = pins_in-times p (net_of h e).pins (block_of p v) in
      omega arith

  -- a net of a vertex touches one block exactly where that of the vertex has all its pins
  pub whole_by_count : nat_eq (connectivity p (net_of h e).pins) 1 ≡ nat_eq (pins_in p (net_of h e).pins (block_of p v)) (length (net_of h e).pins)
  whole_by_count =
      ap (λ n. nat_eq n 1) (connectivity-sum k p (net_of h e).pins pins_low)
      ∙ alone (pins_in p (net_of h e).pins) k (block_of p v) own_block own_some
      ∙ ap (nat_eq (pins_in p (net_of h e).pins (block_of p v))) (pins_in-sum k p (net_of h e).pins pins_low)

  -- where it doesn't touch two blocks, no other block has a pin of it
  none_elsewhere : (b : ℕ) → b < k → b ≢ block_of p v → nat_lt 1 (connectivity p (net_of h e).pins) ≡ false → pins_in p (net_of h e).pins b ≡ 0
  none_elsewhere b low other inner =
      let few = ltb-false 1 (connectivity p (net_of h e).pins) inner in
      let some = some_blocks p (net_of h e).pins v pin in
      let held = eqb-true (pins_in p (net_of h e).pins (block_of p v)) (length (net_of h e).pins)
      (sym whole_by_count ∙ eq-eqb (connectivity p (net_of h e).pins) 1 (omega arith)) in
      let two = pins_in-two p (net_of h e).pins (block_of p v) b k own_block low other pins_low in
      omega arith

-- a vertex none of whose nets touches two blocks has no best block
pub inner_stays : (h : Hyper) (k l : ℕ) (p : List ℕ) (v : ℕ) → IsHypergraph h → IsPartition h k p → v < vertex_count h
    → All (λ e. nat_lt 1 (connectivity p (net_of h e).pins) ≡ false) (nets_of h v) → best_block h l p v k ≡ None
inner_stays h k l p v good whole vertex inner = by (best_block h l p v k) refl
  where
    none_gains : (s t : ℕ) → s ≡ 0 → pos 0 <ℤ (pos s -ℤ pos t) → ⊥
    none_gains s t z g = absurd (omega (arith, ints))

    by : (o : Option ℕ) → best_block h l p v k ≡ o → o ≡ None
    by None e = refl
    by (Some b) e =
        let best = best_block_is h k l p v b vertex e in
        let low = best.allowed.block in
        let other = best.allowed.other in
        let none = total-zero (net_saved h p b) (nets_of h v)
        (λ i d l.
        let n = get_or (nets_of h v) i d in
        saved_none h p b n (none_elsewhere h k p v n good whole vertex (nets_of-below h v i d l) (nets_of-hold h v i d l) b low other (inner i d l))) in
        absurd (none_gains (total (net_saved h p b) (nets_of h v)) (total (net_lost h p (block_of p v)) (nets_of h v)) none
        (subst (λ (z : ℤ). pos 0 <ℤ z) (gain_counted h k p v b good whole vertex low other) best.gains))
