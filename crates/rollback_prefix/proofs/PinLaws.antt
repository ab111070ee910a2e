-- Laws of the pin counts of one net: counted pin by pin, and after a pin went to another block.
use Rattle.std.proofs.Common.{◌≡◌, ℕ, ◌+◌, ◌-◌, ◌*◌, ◌<◌, ◌≤◌, ◌⊎◌, inl, inr, Bool, true, false, nat_eq, List, [], map, take, length, get_or, set, All}
use Rattle.std.proofs.Common.{Contains, slice_set, refl, sym, ap, ◌∙◌, subst, arith, get_or-set_same, get_or-set_other, length-set, if◌then◌else◌}
use Rattle.std.proofs.lemmas.Bool.{cases_eq, eqb-true, eqb-false}
use mir.Val.{bool_byte}
use Rattle.std.specs.List.Sorted.{IsStrictlyIncreasing}
use Rattle.hg_defs.specs.Sums.{sum_below}
use Rattle.hg_defs.specs.Partition.{block_of}
use Rattle.hg_defs.specs.Pins.{pins_in, present}
use Rattle.hg_defs.specs.Cost.{connectivity}
use Rattle.hg_defs.proofs.SumLaws.{total-take_more, sum_below-same, sum_below-le, sum_below-constant}
use Rattle.hg_defs.proofs.SumLaws.{sum_below-zero, weight_if, weight_if-same, weight_if-other}
use Rattle.hg_defs.proofs.DistinctLaws.{present-raise, present-lower, present-le, connectivity-sum, pins_in-set}
use Rattle.hg_defs.proofs.DistinctLaws.{pins_in-times, times_of, times_of-once, times_of-positive, Contains-map}
use Rattle.rollback_prefix.specs.Pins.{AreZeros, CountsPins, counted, counts_after}

-- ---- how many counts aren't 0

pub counted-le : (counts : List ℕ) → counted counts ≤ length counts
counted-le counts =
    let a = sum_below-le (λ b. present (get_or counts b 0)) (λ b. 1) (length counts) (λ b l. present-le (get_or counts b 0)) in
    let b = sum_below-constant 1 (length counts) in
    omega arith

pub counted_zeros : (counts : List ℕ) → AreZeros counts → counted counts ≡ 0
counted_zeros counts z = sum_below-zero (λ b. present (get_or counts b 0)) (length counts) (λ b l. ap present (z b l))

pub counted_raise : (counts : List ℕ) (b : ℕ) → b < length counts
    → counted (set counts b (get_or counts b 0 + 1)) ≡ counted counts + weight_if (get_or counts b 0) 0 1
counted_raise counts b l =
    ap (λ n. sum_below (λ c. present (get_or (set counts b (get_or counts b 0 + 1)) c 0)) n) (length-set counts b (get_or counts b 0 + 1))
    ∙ present-raise (λ c. get_or counts c 0) (λ c. get_or (set counts b (get_or counts b 0 + 1)) c 0) (length counts) b l
    (get_or-set_same counts b (get_or counts b 0 + 1) 0 l)
    (λ c m q. get_or-set_other counts b c (get_or counts b 0 + 1) 0 q)

pub counted_lower : (counts : List ℕ) (b : ℕ) → b < length counts → 0 < get_or counts b 0
    → counted (set counts b (get_or counts b 0 - 1)) + weight_if (get_or counts b 0) 1 1 ≡ counted counts
counted_lower counts b l p =
    ap (λ n. sum_below (λ c. present (get_or (set counts b (get_or counts b 0 - 1)) c 0)) n + weight_if (get_or counts b 0) 1 1)
    (length-set counts b (get_or counts b 0 - 1))
    ∙ present-lower (λ c. get_or counts c 0) (λ c. get_or (set counts b (get_or counts b 0 - 1)) c 0) (length counts) b l
    (let e = get_or-set_same counts b (get_or counts b 0 - 1) 0 l in omega arith)
    (λ c m q. get_or-set_other counts b c (get_or counts b 0 - 1) 0 q)

-- a count is raised and then one is lowered
pub counted_shift : (counts : List ℕ) (from to : ℕ) → from < length counts → to < length counts → 0 < get_or counts from 0
    → let more = set counts to (get_or counts to 0 + 1) in
    counted (counts_after counts from to) + weight_if (get_or more from 0) 1 1 ≡ counted counts + weight_if (get_or counts to 0) 0 1
counted_shift counts from to l m p =
    let more = set counts to (get_or counts to 0 + 1) in
    let long = length-set counts to (get_or counts to 0 + 1) in
    let first = counted_raise counts to m in
    let second = counted_lower more from (omega arith) (raised (cases_eq from to)) in
    omega arith
  where
    raised : (from ≡ to) ⊎ (from ≡ to → ⊥) → 0 < get_or (set counts to (get_or counts to 0 + 1)) from 0
    raised (inl e) =
        let P : ℕ → Type 0 = λ x. 0 < get_or (set counts to (get_or counts to 0 + 1)) x 0 in
        subst P (sym e) (let s = get_or-set_same counts to (get_or counts to 0 + 1) 0 m in omega arith)
    raised (inr q) = let s = get_or-set_other counts to from (get_or counts to 0 + 1) 0 q in omega arith

-- ---- the counts of a partition

-- one pin more
pub counts_more : (k : ℕ) (p pins counts : List ℕ) (i : ℕ) → i < length pins → block_of p (get_or pins i 0) < k → CountsPins k p (take i pins) counts
    → CountsPins k p (take (i + 1) pins) (set counts (block_of p (get_or pins i 0)) (get_or counts (block_of p (get_or pins i 0)) 0 + 1))
counts_more k p pins counts i l low c = record {
  blocks = length-set counts block (get_or counts block 0 + 1) ∙ c.blocks;
  each = λ b m. by b m (cases_eq b block);
}
  where
    block : ℕ
    block = block_of p (get_or pins i 0)

    by : (b : ℕ) → b < k → (b ≡ block_of p (get_or pins i 0)) ⊎ (b ≡ block_of p (get_or pins i 0) → ⊥)
        → get_or (set counts (block_of p (get_or pins i 0)) (get_or counts (block_of p (get_or pins i 0)) 0 + 1)) b 0 ≡ pins_in p (take (i + 1) pins) b
    by b m (inl e) =
        let here = block_of p (get_or pins i 0) in
        let long = c.blocks in
        let s = get_or-set_same counts here (get_or counts here 0 + 1) 0 (omega arith) in
        let t = total-take_more (λ v. if nat_eq (block_of p v) here then 1 else 0) pins i 0 l in
        let u = weight_if-same here here 1 refl in
        let v = c.each here low in
        let P : ℕ → Type 0 = λ x. get_or (set counts here (get_or counts here 0 + 1)) x 0 ≡ pins_in p (take (i + 1) pins) x in
        subst P (sym e) (omega arith)
    by b m (inr q) =
        let here = block_of p (get_or pins i 0) in
        let s = get_or-set_other counts here b (get_or counts here 0 + 1) 0 q in
        let t = total-take_more (λ v. if nat_eq (block_of p v) b then 1 else 0) pins i 0 l in
        let u = weight_if-other here b 1 (λ f. q (sym f)) in
        let v = c.each b m in
        omega arith

pub counts_none : (k : ℕ) (p counts : List ℕ) → length counts ≡ k → AreZeros counts → CountsPins k p [] counts
counts_none k p counts e z = record { blocks = e; each = λ b l. z b (omega arith) }

-- the counts that aren't 0 are the blocks that the pins touch
pub counted_is : (k : ℕ) (p pins counts : List ℕ) → All (λ v. block_of p v < k) pins → CountsPins k p pins counts → counted counts ≡ connectivity p pins
counted_is k p pins counts low c =
    ap (sum_below (λ b. present (get_or counts b 0))) c.blocks
    ∙ sum_below-same (λ b. present (get_or counts b 0)) (λ b. present (pins_in p pins b)) k (λ b l. ap present (c.each b l))
    ∙ sym (connectivity-sum k p pins low)

-- a pin is counted in its block
pub pin_counted : (p pins : List ℕ) (v : ℕ) → Contains pins v → 0 < pins_in p pins (block_of p v)
pin_counted p pins v c =
    let e = pins_in-times p pins (block_of p v) in
    let t = times_of-positive (map (block_of p) pins) (block_of p v) (Contains-map (block_of p) pins v c) in
    omega arith

-- one pin went to another block
pub counts_shifted : (k : ℕ) (p pins counts : List ℕ) (v to : ℕ) → v < length p → IsStrictlyIncreasing pins → Contains pins v → block_of p v < k → to < k
    → CountsPins k p pins counts → CountsPins k (slice_set p v to) pins (counts_after counts (block_of p v) to)
counts_shifted k p pins counts v to inside rising pin low high c = record {
  blocks = length-set (set counts to (get_or counts to 0 + 1)) (block_of p v) (get_or (set counts to (get_or counts to 0 + 1)) (block_of p v) 0 - 1) ∙
      (length-set counts to (get_or counts to 0 + 1) ∙ c.blocks);
  each = λ b m. by b m (cases_eq b (block_of p v)) (cases_eq b to);
}
  where
    law : (b : ℕ) → pins_in (slice_set p v to) pins b + weight_if (block_of p v) b 1 ≡ pins_in p pins b + weight_if to b 1
    law b =
        let s = pins_in-set p pins v to b inside in
        let t = times_of-once pins v rising pin in
        let a : times_of pins v * weight_if (block_of p v) b 1 ≡ weight_if (block_of p v) b 1 = ap (λ n. n * weight_if (block_of p v) b 1) t ∙
        omega arith in
        let d : times_of pins v * weight_if to b 1 ≡ weight_if to b 1 = ap (λ n. n * weight_if to b 1) t ∙ omega arith in
        omega arith

    by : (b : ℕ) → b < k → (b ≡ block_of p v) ⊎ (b ≡ block_of p v → ⊥) → (b ≡ to) ⊎ (b ≡ to → ⊥)
        → get_or (counts_after counts (block_of p v) to) b 0 ≡ pins_in (slice_set p v to) pins b
    by b m (inl e) (inl f) =
        let s = get_or-set_same counts to (get_or counts to 0 + 1) 0 (omega (arith, c.blocks)) in
        let t = get_or-set_same (set counts to (get_or counts to 0 + 1)) (block_of p v) (get_or (set counts to (get_or counts to 0 + 1)) (block_of p v) 0 -
        1)
        0 (omega (arith, length-set counts to (get_or counts to 0 + 1), c.blocks)) in
        let x = ap (λ n. get_or (set counts to (get_or counts to 0 + 1)) n 0) (sym e ∙ f) in
        let y = ap (λ n. get_or (counts_after counts (block_of p v) to) n 0) e in
        let z = ap (λ n. get_or counts n 0) f in
        let g = weight_if-same (block_of p v) b 1 (sym e) in
        let j = weight_if-same to b 1 (sym f) in
        let w = law b in
        let n = c.each b m in
        omega arith
    by b m (inl e) (inr r) =
        let s = get_or-set_other counts to (block_of p v) (get_or counts to 0 + 1) 0 (λ i. r (e ∙ i)) in
        let t = get_or-set_same (set counts to (get_or counts to 0 + 1)) (block_of p v) (get_or (set counts to (get_or counts to 0 + 1)) (block_of p v) 0 -
        1)
        0 (omega (arith, length-set counts to (get_or counts to 0 + 1), c.blocks)) in
        let y = ap (λ n. get_or (counts_after counts (block_of p v) to) n 0) e in
        let z = ap (λ n. get_or counts n 0) e in
        let g = weight_if-same (block_of p v) b 1 (sym e) in
        let j = weight_if-other to b 1 (λ i. r (sym i)) in
        let w = law b in
        let n = c.each b m in
        omega arith
    by b m (inr q) (inl f) =
        let s = get_or-set_same counts to (get_or counts to 0 + 1) 0 (omega (arith, c.blocks)) in
        let t = get_or-set_other (set counts to (get_or counts to 0 + 1)) (block_of p v) b (get_or (set counts to (get_or counts to 0 + 1)) (block_of p v)
        0 -
        1) 0 q in
        let x = ap (λ n. get_or (set counts to (get_or counts to 0 + 1)) n 0) f in
        let z = ap (λ n. get_or counts n 0) f in
        let g = weight_if-other (block_of p v) b 1 (λ i. q (sym i)) in
        let j = weight_if-same to b 1 (sym f) in
        let w = law b in
        let n = c.each b m in
        omega arith
    by b m (inr q) (inr r) =
        let s = get_or-set_other counts to b (get_or counts to 0 + 1) 0 r in
        let t = get_or-set_other (set counts to (get_or counts to 0 + 1)) (block_of p v) b (get_or (set counts to (get_or counts to 0 + 1)) (block_of p v)
        0 -
        1) 0 q in
        let g = weight_if-other (block_of p v) b 1 (λ i. q (sym i)) in
        let j = weight_if-other to b 1 (λ i. r (sym i)) in
        let w = law b in
        let n = c.each b m in
        omega arith

-- ---- what a test adds

pub tested : (t : Bool) → bool_byte t ≡ (if t then 1 else 0)
tested true = refl
tested false = refl

pub tested-le : (t : Bool) → bool_byte t ≤ 1
tested-le true = omega arith
tested-le false = omega arith

emptied : (m : ℕ) → 0 < m → bool_byte (nat_eq (m - 1) 0) ≡ weight_if m 1 1
emptied m p = by (nat_eq (m - 1) 0) (nat_eq m 1) refl refl
  where
    by : (s t : Bool) → nat_eq (m - 1) 0 ≡ s → nat_eq m 1 ≡ t → bool_byte s ≡ (if t then 1 else 0)
    by true true e f = refl
    by false false e f = refl
    by true false e f = absurd (eqb-false m 1 f (let x = eqb-true (m - 1) 0 e in omega arith))
    by false true e f = absurd (eqb-false (m - 1) 0 e (let x = eqb-true m 1 f in omega arith))

-- the number of blocks with a pin, told by two tests
pub shift_told : (counts : List ℕ) (from to r s : ℕ) → from < length counts → to < length counts → 0 < get_or counts from 0
    → r ≡ bool_byte (nat_eq (get_or counts to 0) 0) → s ≡ bool_byte (nat_eq (get_or (counts_after counts from to) from 0) 0)
    → (s ≤ counted counts + r) × (counted counts + r - s ≡ counted (counts_after counts from to))
shift_told counts from to r s l m p e f =
    let more = set counts to (get_or counts to 0 + 1) in
    let law = counted_shift counts from to l m p in
    let a = tested (nat_eq (get_or counts to 0) 0) in
    let same = get_or-set_same more from (get_or more from 0 - 1) 0 (omega (arith, length-set counts to (get_or counts to 0 + 1))) in
    let b = ap (λ n. bool_byte (nat_eq n 0)) same ∙ emptied (get_or more from 0) (positive (cases_eq from to)) in
    (omega arith, omega arith)
  where
    positive : (from ≡ to) ⊎ (from ≡ to → ⊥) → 0 < get_or (set counts to (get_or counts to 0 + 1)) from 0
    positive (inl e) =
        let P : ℕ → Type 0 = λ x. 0 < get_or (set counts to (get_or counts to 0 + 1)) x 0 in
        subst P (sym e) (let s = get_or-set_same counts to (get_or counts to 0 + 1) 0 m in omega arith)
    positive (inr q) = let s = get_or-set_other counts to from (get_or counts to 0 + 1) 0 q in omega arith
