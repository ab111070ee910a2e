-- The laws of the assignments of a region to its two blocks.
use Rattle.std.proofs.Common.{◌≡◌, ◌≢◌, ◌⊎◌, inl, inr, ℕ, ◌+◌, ◌<◌, ◌≤◌, List, length, get_or, All, Contains, refl, sym, subst, ◌∙◌, arith}
use Rattle.std.proofs.lemmas.Bool.{cases_eq, cases_lt}
use Rattle.std.proofs.lemmas.List.{get_or_default}
use Rattle.std.proofs.lemmas.List.Elements.{All-contains}
use Rattle.hg_defs.specs.Sums.{total, sum_below}
use Rattle.hg_defs.specs.Hypergraph.{fix_of}
use Rattle.hg_defs.specs.Partition.{block_of, load, weight_in}
use Rattle.hg_defs.proofs.SumLaws.{weight_in-by_index, weight_if, weight_if-same, weight_if-other, weight_if-le, sum_below-le}
use Rattle.hg_defs.proofs.SumLaws.{sum_below-add, sum_below-total, sum_below-only, sum_below-zero, total-le, total_at-le}
use Rattle.hg_defs.proofs.PairingLaws.{weight_in-into}
use Rattle.round_log.specs.Rounds.{side, region}
use Rattle.round_log.specs.RegionLaws.{AssignmentIsPartition, AssignmentObeys, AssignmentFits}
use Rattle.round_log.proofs.FlowLaws.{among, IsFreeOf, side_free, IsInside, region-free}
use Rattle.round_log.proofs.RegionLaws.{side_fits, region_has_sides}

pub assignment-partition : AssignmentIsPartition
assignment-partition h k l p a b q first second w s = record {
  vertices = s.vertices ∙ w.vertices;
  blocks = λ v d low. subst (λ c. c < k) (get_or_default q v 0 d low) (by v (among v (region h l p a b)) low);
}
  where
    block : (c : ℕ) → (c ≡ a) ⊎ (c ≡ b) → c < k
    block c (inl e) = omega arith
    block c (inr e) = omega arith

    by : (v : ℕ) → Contains (region h l p a b) v ⊎ All (λ u. u ≢ v) (region h l p a b) → v < length q → block_of q v < k
    by v (inl c) low = block (block_of q v) (All-contains (λ u. (block_of q u ≡ a) ⊎ (block_of q u ≡ b)) (region h l p a b) v s.inside c)
    by v (inr n) low = subst (λ c. c < k) (sym (s.outside v n)) (w.blocks v 0 (let e = s.vertices in omega arith))

pub assignment-obeys : AssignmentObeys
assignment-obeys h l p a b q o s v low fixed = by (among v (region h l p a b))
  where
    by : Contains (region h l p a b) v ⊎ All (λ u. u ≢ v) (region h l p a b) → block_of q v ≡ fix_of h v
    by (inl c) = absurd (fixed (All-contains (IsInside h p a b) (region h l p a b) v (region-free h l p a b) c).0)
    by (inr n) = s.outside v n ∙ o v low fixed

-- ---- loads

-- a number of a list below n counts its weight in the sum below n once at most
listed-le : (w : ℕ → ℕ) (n x : ℕ) → sum_below (λ v. weight_if x v (w v)) n ≤ w x
listed-le w n x = by (cases_lt x n)
  where
    by : (x < n) ⊎ (n ≤ x) → sum_below (λ v. weight_if x v (w v)) n ≤ w x
    by (inl low) =
        let e = sum_below-only (λ v. weight_if x v (w v)) n x low (λ j m d. weight_if-other x j (w j) (λ f. d (sym f))) in
        let f = weight_if-same x x (w x) refl in
        omega arith
    by (inr high) =
        let e = sum_below-zero (λ v. weight_if x v (w v)) n (λ j m. weight_if-other x j (w j) (λ f. absurd (omega arith))) in
        omega arith

-- where each vertex of a block in q is in it in p or is listed, the block weighs no more than in p and the list together
weight_in-listed : (ws p q xs : List ℕ) (a : ℕ) → length ws ≤ length p → length ws ≤ length q →
    ((v : ℕ) → v < length ws → get_or q v 0 ≡ a → (get_or p v 0 ≡ a) ⊎ Contains xs v)
    → weight_in ws q a ≤ weight_in ws p a + total (λ v. get_or ws v 0) xs
weight_in-listed ws p q xs a long_p long_q from =
    let left = weight_in-by_index ws q a long_q in
    let right = weight_in-by_index ws p a long_p in
    let each = sum_below-le (λ v. weight_if (get_or q v 0) a (get_or ws v 0)) (λ v. weight_if (get_or p v 0) a (get_or ws v 0) + total
    (λ x. weight_if x v (get_or ws v 0)) xs) (length ws) at in
    let parts = sum_below-add (λ v. weight_if (get_or p v 0) a (get_or ws v 0)) (λ v. total (λ x. weight_if x v (get_or ws v 0)) xs) (length ws) in
    let swapped = sum_below-total (λ v x. weight_if x v (get_or ws v 0)) (length ws) xs in
    let listed = total-le (λ x. sum_below (λ v. weight_if x v (get_or ws v 0)) (length ws)) (λ x. get_or ws x 0) xs
    (λ i d low. listed-le (λ v. get_or ws v 0) (length ws) (get_or xs i d)) in
    omega arith
  where
    at : (v : ℕ) → v < length ws → weight_if (get_or q v 0) a (get_or ws v 0) ≤ weight_if (get_or p v 0) a (get_or ws v 0) + total
        (λ x. weight_if x v (get_or ws v 0)) xs
    at v low = by (cases_eq (get_or q v 0) a)
      where
        two : (get_or p v 0 ≡ a) ⊎ Contains xs v → weight_if (get_or q v 0) a (get_or ws v 0) ≤ weight_if (get_or p v 0) a (get_or ws v 0) + total
            (λ x. weight_if x v (get_or ws v 0)) xs
        two (inl e) = let x = weight_if-same (get_or p v 0) a (get_or ws v 0) e in let y = weight_if-le (get_or q v 0) a (get_or ws v 0) in omega arith
        two (inr c) =
            let one = total_at-le (λ x. weight_if x v (get_or ws v 0)) xs c.0 v c.1 in
            let same = weight_if-same (get_or xs c.0 v) v (get_or ws v 0) c.2 in
            let y = weight_if-le (get_or q v 0) a (get_or ws v 0) in
            omega arith

        by : (get_or q v 0 ≡ a) ⊎ (get_or q v 0 ≢ a) → weight_if (get_or q v 0) a (get_or ws v 0) ≤ weight_if (get_or p v 0) a (get_or ws v 0) + total
            (λ x. weight_if x v (get_or ws v 0)) xs
        by (inl e) = two (from v low e)
        by (inr n) = let z = weight_if-other (get_or q v 0) a (get_or ws v 0) n in omega arith

pub assignment-fits : AssignmentFits
assignment-fits h k l p a b q first second w f s c low = by (cases_eq c a) (cases_eq c b)
  where
    long_p : length h.weights ≤ length p
    long_p = let e = w.vertices in omega arith

    long_q : length h.weights ≤ length q
    long_q = let e = w.vertices in let d = s.vertices in omega arith

    -- a vertex of a block in q is in that block in p, or is in the region
    from : (d v : ℕ) → block_of q v ≡ d → (block_of p v ≡ d) ⊎ Contains (region h l p a b) v
    from d v e = two (among v (region h l p a b))
      where
        two : Contains (region h l p a b) v ⊎ All (λ u. u ≢ v) (region h l p a b) → (block_of p v ≡ d) ⊎ Contains (region h l p a b) v
        two (inl i) = inr i
        two (inr n) = inl (sym (s.outside v n) ∙ e)

    from_a : (v : ℕ) → block_of q v ≡ a → (block_of p v ≡ a) ⊎ Contains (side h l p b a) v
    from_a v e = two (from a v e)
      where
        three : Contains (side h l p a b) v ⊎ Contains (side h l p b a) v → (block_of p v ≡ a) ⊎ Contains (side h l p b a) v
        three (inl i) = inl (All-contains (IsFreeOf h p a) (side h l p a b) v (side_free h l p a b) i).1
        three (inr i) = inr i

        two : (block_of p v ≡ a) ⊎ Contains (region h l p a b) v → (block_of p v ≡ a) ⊎ Contains (side h l p b a) v
        two (inl g) = inl g
        two (inr i) = three ((region_has_sides h l p a b v).0 i)

    from_b : (v : ℕ) → block_of q v ≡ b → (block_of p v ≡ b) ⊎ Contains (side h l p a b) v
    from_b v e = two (from b v e)
      where
        three : Contains (side h l p a b) v ⊎ Contains (side h l p b a) v → (block_of p v ≡ b) ⊎ Contains (side h l p a b) v
        three (inl i) = inr i
        three (inr i) = inl (All-contains (IsFreeOf h p b) (side h l p b a) v (side_free h l p b a) i).1

        two : (block_of p v ≡ b) ⊎ Contains (region h l p a b) v → (block_of p v ≡ b) ⊎ Contains (side h l p a b) v
        two (inl g) = inl g
        two (inr i) = three ((region_has_sides h l p a b v).0 i)

    -- a vertex of another block in q is in it in p
    from_other : (v : ℕ) → c ≢ a → c ≢ b → block_of q v ≡ c → block_of p v ≡ c
    from_other v n m e = two (from c v e)
      where
        three : (block_of q v ≡ a) ⊎ (block_of q v ≡ b) → block_of p v ≡ c
        three (inl g) = absurd (n (sym e ∙ g))
        three (inr g) = absurd (m (sym e ∙ g))

        two : (block_of p v ≡ c) ⊎ Contains (region h l p a b) v → block_of p v ≡ c
        two (inl g) = g
        two (inr i) = three (All-contains (λ u. (block_of q u ≡ a) ⊎ (block_of q u ≡ b)) (region h l p a b) v s.inside i)

    by : (c ≡ a) ⊎ (c ≢ a) → (c ≡ b) ⊎ (c ≢ b) → load h q c ≤ l
    by (inl e) m =
        let more = weight_in-listed h.weights p q (side h l p b a) a long_p long_q (λ v n g. from_a v g) in
        let room = side_fits h l p b a in
        let before = f a first in
        subst (λ d. load h q d ≤ l) (sym e) (omega arith)
    by (inr n) (inl e) =
        let more = weight_in-listed h.weights p q (side h l p a b) b long_p long_q (λ v n g. from_b v g) in
        let room = side_fits h l p a b in
        let before = f b second in
        subst (λ d. load h q d ≤ l) (sym e) (omega arith)
    by (inr n) (inr m) =
        let less = weight_in-into h.weights q p c c (let d = s.vertices in omega arith) (λ v i g. from_other v n m g) in
        let before = f c low in
        omega arith
