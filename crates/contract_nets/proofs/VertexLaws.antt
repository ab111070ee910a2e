-- Laws of the weights and fixes of clusters, vertex by vertex.
use Rattle.std.proofs.Common.{◌≡◌, ◌≢◌, ℕ, zero, suc, ◌+◌, ◌<◌, ◌≤◌, ⊎_elim, Bool, true, false, not, ◌&&◌, if◌then◌else◌, nat_eq, List, [], ◌∷◌}
use Rattle.std.proofs.Common.{map, length, take, drop, replicate, slice_index, slice_set, refl, sym, ap, ◌∙◌, arith}
use Rattle.std.specs.List.{range_with_len}
use Rattle.std.proofs.lemmas.Bool.{cases_eq, eq-eqb, ne_eqb}
use Rattle.std.proofs.lemmas.List.{length-set, length-replicate, get_or-replicate, get_or-set_same, get_or-set_other, drop_more, drop_all}
use Rattle.std.proofs.lemmas.List.FromFn.{fill_by_all, length-map-range_with_len, get_or-map-range_with_len}
use Rattle.hg_defs.specs.declared.objective.TheConstants.{FREE}
use Rattle.hg_defs.specs.Sums.{total}
use Rattle.hg_defs.specs.Partition.{weight_in}
use Rattle.hg_defs.specs.Contraction.{fix_in}
use Rattle.hg_defs.proofs.SumLaws.{weight_if-same, weight_if-other, weight_in-take_more}

pub total-zeros : (n : ℕ) → total (λ (w : ℕ). w) (replicate n 0) ≡ 0
total-zeros zero = refl
total-zeros (suc n) = let e = total-zeros n in omega arith

-- a list that is given index by index, with one entry written
module _ (f g : ℕ → ℕ) (n : ℕ) (xs : List ℕ) (same : xs ≡ map f (range_with_len 0 n)) where
  long : length xs ≡ n
  long = ap length same ∙ length-map-range_with_len f 0 n

  at : (k : ℕ) → k < n → slice_index xs k ≡ f k
  at k h = ap (λ ys. slice_index ys k) same ∙ get_or-map-range_with_len f 0 n k k 0 h (omega arith)

  pub map-range-set : (i a : ℕ) → i < n → a ≡ g i → ((k : ℕ) → k < n → k ≢ i → f k ≡ g k) → slice_set xs i a ≡ map g (range_with_len 0 n)
  map-range-set i a h e others =
      fill_by_all g (slice_set xs i a) n 0 (length-set xs i a ∙ long) (λ k l.
      ⊎_elim
      (λ (s : k ≡ i). let below : i < length xs = (let o = long in omega arith) in ap (slice_index (slice_set xs i a)) s ∙ get_or-set_same xs i a 0 below ∙
      e ∙
      ap g (sym s))
      (λ (o : k ≢ i). get_or-set_other xs i k a 0 o ∙ at k l ∙ others k l o)
      (cases_eq k i))

  pub map-range-same : ((k : ℕ) → k < n → f k ≡ g k) → xs ≡ map g (range_with_len 0 n)
  map-range-same others = fill_by_all g xs n 0 long (λ k l. at k l ∙ others k l)

pub zeros_are : (n : ℕ) → replicate n 0 ≡ map (weight_in [] []) (range_with_len 0 n)
zeros_are n = fill_by_all (weight_in [] []) (replicate n 0) n 0 (length-replicate n 0) (λ k h. get_or-replicate n k 0 0 h)

pub weight_in-set_more : (ws cs xs : List ℕ) (v n : ℕ) → xs ≡ map (weight_in (take v ws) (take v cs)) (range_with_len 0 n) → v < length ws → v < length cs →
    slice_index cs v < n
    → slice_set xs (slice_index cs v) (slice_index xs (slice_index cs v) + slice_index ws v) ≡ map (weight_in (take (v + 1) ws) (take (v + 1) cs))
    (range_with_len 0 n)
weight_in-set_more ws cs xs v n same h k below =
    let i = slice_index cs v in
    let f = weight_in (take v ws) (take v cs) in
    let g = weight_in (take (v + 1) ws) (take (v + 1) cs) in
    map-range-set f g n xs same i _ below
    (ap (λ x. x + slice_index ws v) (at f g n xs same i below) ∙
    sym (weight_in-take_more ws cs v i h k ∙ ap (λ x. f i + x) (weight_if-same i i (slice_index ws v) refl)))
    (λ b l o. sym (weight_in-take_more ws cs v b h k ∙ ap (λ x. f b + x) (weight_if-other i b (slice_index ws v) (λ e. o (sym e))) ∙
    (let z = f b in omega arith)))

pub free_are : (fs cs : List ℕ) (v n : ℕ) → length fs ≤ v → replicate n FREE ≡ map (fix_in (drop v fs) (drop v cs)) (range_with_len 0 n)
free_are fs cs v n h =
    fill_by_all (fix_in (drop v fs) (drop v cs)) (replicate n FREE) n 0 (length-replicate n FREE)
    (λ k l. get_or-replicate n k FREE 0 l ∙ sym (ap (λ gs. fix_in gs (drop v cs) k) (drop_all v fs h)))

fix_in_more : (fs cs : List ℕ) (v i : ℕ) → v < length fs → v < length cs
    → fix_in (drop v fs) (drop v cs) i ≡ (if nat_eq (slice_index cs v) i && not (nat_eq (slice_index fs v) FREE) then slice_index fs v else fix_in
    (drop (v + 1) fs) (drop (v + 1) cs) i)
fix_in_more fs cs v i h k =
    ap (λ gs. fix_in gs (drop v cs) i) (drop_more fs v 0 h) ∙ ap (λ ds. fix_in (slice_index fs v ∷ drop (v + 1) fs) ds i) (drop_more cs v 0 k)

choose_later : (b : Bool) (x y : ℕ) → b ≡ false → (if b then x else y) ≡ y
choose_later b x y e = ap (λ c. if c then x else y) e

and_false : (a b : Bool) → b ≡ false → (a && b) ≡ false
and_false true b e = e
and_false false b e = refl

pub fix_in-set_more : (fs cs xs : List ℕ) (v n : ℕ) → xs ≡ map (fix_in (drop (v + 1) fs) (drop (v + 1) cs)) (range_with_len 0 n) → v < length fs →
    v < length cs → slice_index cs v < n → slice_index fs v ≢ FREE
    → slice_set xs (slice_index cs v) (slice_index fs v) ≡ map (fix_in (drop v fs) (drop v cs)) (range_with_len 0 n)
fix_in-set_more fs cs xs v n same h k below fixed =
    let i = slice_index cs v in
    let f = slice_index fs v in
    let test : (nat_eq i i && not (nat_eq f FREE)) ≡ true = rw (eq-eqb i i refl, ne_eqb f FREE fixed) in
    map-range-set (fix_in (drop (v + 1) fs) (drop (v + 1) cs)) (fix_in (drop v fs) (drop v cs)) n xs same i f below
    (sym (fix_in_more fs cs v i h k ∙ ap (λ b. if b then f else fix_in (drop (v + 1) fs) (drop (v + 1) cs) i) test))
    (λ b l o. sym (fix_in_more fs cs v b h k ∙ choose_later _ f (fix_in (drop (v + 1) fs) (drop (v + 1) cs) b)
    (ap (λ t. t && not (nat_eq f FREE)) (ne_eqb i b (λ e. o (sym e))))))

pub fix_in-same_more : (fs cs xs : List ℕ) (v n : ℕ) → xs ≡ map (fix_in (drop (v + 1) fs) (drop (v + 1) cs)) (range_with_len 0 n) → v < length fs →
    v < length cs → slice_index fs v ≡ FREE
    → xs ≡ map (fix_in (drop v fs) (drop v cs)) (range_with_len 0 n)
fix_in-same_more fs cs xs v n same h k free =
    let i = slice_index cs v in
    let f = slice_index fs v in
    map-range-same (fix_in (drop (v + 1) fs) (drop (v + 1) cs)) (fix_in (drop v fs) (drop v cs)) n xs same
    (λ b l. sym (fix_in_more fs cs v b h k ∙ choose_later _ f (fix_in (drop (v + 1) fs) (drop (v + 1) cs) b)
    (and_false (nat_eq i b) _ (ap not (eq-eqb f FREE free)))))
