-- The merged nets are those of the contraction.
use Rattle.std.proofs.Common.{◌≡◌, ℕ, ◌+◌, ◌^◌, ◌≤◌, Bool, true, false, true≢false}
use Rattle.std.proofs.Common.{if◌then◌else◌, cond, nat_le, List, [], ◌∷◌, length, map}
use Rattle.std.proofs.Common.{filter, Contains, IsPermutation, IsSorted, All, nat_cmp, is_eq, refl, sym, ap, ap₂, ◌∙◌, subst, arith}
use Rattle.std.specs.Cmp.{Equal-is}
use Rattle.std.specs.Cmp.Lexicographic.{slice_cmp}
use Rattle.std.proofs.lemmas.Bool.{le-leb}
use Rattle.std.proofs.lemmas.List.Sorted.{IsPermutation-map, All-permutation}
use Rattle.hg_defs.specs.Sorting.{set_of}
use Rattle.std.specs.List.{range_with_len}
use Rattle.std.proofs.lemmas.List.FromFn.{length-map-range_with_len}
use Rattle.hg_defs.specs.Hypergraph.{Net, Hyper, IsNet, IsHypergraph, IsWithinLimits}
use Rattle.hg_defs.specs.Partition.{weight_in}
use Rattle.hg_defs.specs.Contraction.{IsFull, fix_in, contract}
use Rattle.hg_defs.proofs.ContractionLaws.{hypergraph_kept, limits_kept}
use Rattle.hg_defs.specs.Contraction.{image, images, merged_weight}
use Rattle.hg_defs.proofs.SumLaws.{total-map, total-permutation}
use Rattle.hg_defs.proofs.SortLaws.{Contains_head, Contains_later, lists_cmp_total, lists_exact, set_of-permutation}
use Rattle.hg_defs.proofs.ContractionLaws.{Contains-from_images}
use Rattle.contract_nets.specs.Merging.{mapped_net, is_kept, merged, AreWithin}
use Rattle.contract_nets.specs.Keys.{Key, key_cmp, net_of_key, IsKey}
use Rattle.contract_nets.proofs.SortedLaws.{AreRising, rising_from_keys, weight_of_all, net_of_all, pins_set, merged_is}

map_agree : (f g : List ℕ → Net) (xs : List (List ℕ)) → ((x : List ℕ) → Contains xs x → f x ≡ g x) → map f xs ≡ map g xs
map_agree f g [] a = refl
map_agree f g (x ∷ xs) a = ap₂ (λ (y : Net) (ys : List Net). y ∷ ys) (a x (Contains_head x xs)) (map_agree f g xs (λ z c. a z (Contains_later x xs z c)))

-- the nets that are kept have the images of two clusters or more
pins_kept : (clusters : List ℕ) (nets : List Net) → map (λ (e : Net). e.pins) (filter is_kept (map (mapped_net clusters) nets)) ≡ filter
    (λ i. nat_le 2 (length i)) (map (image clusters) nets)
pins_kept clusters [] = refl
pins_kept clusters (e ∷ nets) = by (nat_le 2 (length (image clusters e))) (pins_kept clusters nets)
  where
    by : (b : Bool) → map (λ (n : Net). n.pins) (filter is_kept (map (mapped_net clusters) nets)) ≡ filter (λ i. nat_le 2 (length i))
        (map (image clusters) nets)
        → map (λ (n : Net). n.pins) (cond b (mapped_net clusters e ∷ filter is_kept (map (mapped_net clusters) nets))
        (filter is_kept (map (mapped_net clusters) nets)))
        ≡ cond b (image clusters e ∷ filter (λ i. nat_le 2 (length i)) (map (image clusters) nets))
        (filter (λ i. nat_le 2 (length i)) (map (image clusters) nets))
    by true h = ap (λ (xs : List (List ℕ)). image clusters e ∷ xs) h
    by false h = h

-- the nets that aren't kept have no pins of theirs
weight_kept : (nets : List Net) (pins : List ℕ) → 2 ≤ length pins → weight_of_all (filter is_kept nets) pins ≡ weight_of_all nets pins
weight_kept [] pins h = refl
weight_kept (e ∷ nets) pins h = by (nat_le 2 (length e.pins)) refl (is_eq (slice_cmp nat_cmp e.pins pins)) refl (weight_kept nets pins h)
  where
    tested : (b : Bool) → nat_le 2 (length e.pins) ≡ b → weight_of_all (filter is_kept (e ∷ nets)) pins ≡ weight_of_all
        (cond b (e ∷ filter is_kept nets) (filter is_kept nets)) pins
    tested b k = ap (λ (t : Bool). weight_of_all (cond t (e ∷ filter is_kept nets) (filter is_kept nets)) pins) k

    by : (b : Bool) → nat_le 2 (length e.pins) ≡ b → (c : Bool) → is_eq (slice_cmp nat_cmp e.pins pins) ≡ c → weight_of_all (filter is_kept nets) pins ≡
        weight_of_all nets pins
        → weight_of_all (filter is_kept (e ∷ nets)) pins ≡ weight_of_all (e ∷ nets) pins
    by true k c l rest = tested true k ∙ ap (λ (n : ℕ). (if is_eq (slice_cmp nat_cmp e.pins pins) then e.weight else 0) + n) rest
    by false k true l rest =
        let same = ap length (lists_exact e.pins pins ((Equal-is (slice_cmp nat_cmp e.pins pins)).0 l)) in
        absurd (true≢false (sym (le-leb 2 (length e.pins) (omega arith)) ∙ k))
    by false k false l rest =
        tested false k ∙ rest ∙ sym (ap (λ (t : Bool). (if t then e.weight else 0) + weight_of_all nets pins) l ∙
        (let n = weight_of_all nets pins in let z : 0 + n ≡ n = omega arith in z))

-- nets in order with the kept ones among them, merged
pub coarse_nets : (h : Hyper) (clusters : List ℕ) (nets : List Net) → IsPermutation (filter is_kept (map (mapped_net clusters) h.nets)) nets →
    AreRising nets
    → merged nets ≡ map (λ i. record { weight = merged_weight h clusters i; pins = i }) (images h clusters)
coarse_nets h clusters nets moved up =
    let kept = filter is_kept (map (mapped_net clusters) h.nets) in
    let set : pins_set nets ≡ images h clusters =
    sym (set_of-permutation lists_cmp_total lists_exact (map (λ (e : Net). e.pins) kept) (map (λ (e : Net). e.pins) nets)
    (IsPermutation-map (λ (e : Net). e.pins) kept nets moved))
    ∙ ap (set_of (slice_cmp nat_cmp)) (pins_kept clusters h.nets)
    in
    merged_is nets up
    ∙ ap (map (net_of_all nets)) set
    ∙ map_agree (net_of_all nets) (λ i. record { weight = merged_weight h clusters i; pins = i }) (images h clusters)
    (λ i c.
    let wide = (Contains-from_images h clusters i c).3 in
    ap (λ (w : ℕ). let n : Net = record { weight = w; pins = i } in n)
    (total-permutation (λ (e : Net). if is_eq (slice_cmp nat_cmp e.pins i) then e.weight else 0) kept nets moved
    ∙ weight_kept (map (mapped_net clusters) h.nets) i wide
    ∙ total-map (λ (e : Net). if is_eq (slice_cmp nat_cmp e.pins i) then e.weight else 0) (mapped_net clusters) h.nets))

-- and from sorted keys
pub coarse_from_keys : (h mapped : Hyper) (clusters : List ℕ) (keys sorted : List Key) → mapped.nets ≡ map (mapped_net clusters) h.nets →
    All (IsKey mapped) sorted
    → map (net_of_key mapped) keys ≡ filter is_kept mapped.nets → IsPermutation keys sorted → IsSorted (key_cmp mapped) sorted
    → merged (map (net_of_key mapped) sorted) ≡ map (λ i. record { weight = merged_weight h clusters i; pins = i }) (images h clusters)
coarse_from_keys h mapped clusters keys sorted nets each kept moved up =
    coarse_nets h clusters (map (net_of_key mapped) sorted)
    (subst (λ (ns : List Net). IsPermutation ns (map (net_of_key mapped) sorted)) (kept ∙ ap (filter is_kept) nets)
    (IsPermutation-map (net_of_key mapped) keys sorted moved))
    (rising_from_keys mapped sorted each up)

-- there are no more clusters than a hypergraph may have vertices
pub few_clusters : (h : Hyper) (clusters : List ℕ) (count : ℕ) → IsHypergraph h → IsFull h clusters count → IsWithinLimits h → count ≤ 2 ^ 22
few_clusters h clusters count sound full limits =
    let kept = limits_kept h clusters count (record { hypergraph = sound; full = full }) limits in
    let n = length-map-range_with_len (weight_in h.weights clusters) 0 count in
    let v = kept.vertices in
    omega arith

-- sorted keys, merged
module _ (h mapped : Hyper) (clusters : List ℕ) (count : ℕ) (keys sorted : List Key) (nets : mapped.nets ≡ map (mapped_net clusters) h.nets)
    (each : All (IsKey mapped) keys)
    (kept : map (net_of_key mapped) keys ≡ filter is_kept mapped.nets) (moved : IsPermutation keys sorted)
    (up : IsSorted (key_cmp mapped) sorted) where
  pub each_sorted : All (IsKey mapped) sorted
  each_sorted = All-permutation (IsKey mapped) keys sorted moved each

  pub nets_are : merged (map (net_of_key mapped) sorted) ≡ (contract h clusters count).nets
  nets_are = coarse_from_keys h mapped clusters keys sorted nets each_sorted kept moved up

  pub nets_within : IsHypergraph h → IsFull h clusters count → IsWithinLimits h → AreWithin (merged (map (net_of_key mapped) sorted))
  nets_within sound full limits =
      let most = limits_kept h clusters count (record { hypergraph = sound; full = full }) limits in
      subst AreWithin (sym nets_are) (record { count = most.nets; pins = most.pins; weight = most.net_weight })

-- the vertices, and the merged nets
module _ (h coarse : Hyper) (clusters : List ℕ) (count : ℕ) (all : List Net) (nets : all ≡ (contract h clusters count).nets)
    (vertices : coarse ≡ record {
      weights = map (weight_in h.weights clusters) (range_with_len 0 count);
      nets = [];
      objective = h.objective;
      fixes = map (fix_in h.fixes clusters) (range_with_len 0 count);
    }) where
  pub coarse_is : record coarse { nets = all } ≡ contract h clusters count
  coarse_is = ap₂ (λ (x : Hyper) (ns : List Net). record x { nets = ns }) vertices nets

  module _ (sound : IsHypergraph h) (full : IsFull h clusters count) where
    pub coarse_limits : IsWithinLimits h → IsWithinLimits (record coarse { nets = all })
    coarse_limits limits = subst IsWithinLimits (sym coarse_is) (limits_kept h clusters count (record { hypergraph = sound; full = full }) limits)

    pub coarse_sound : All (IsNet (length coarse.weights)) all
    coarse_sound =
        let kept = subst IsHypergraph (sym coarse_is) (hypergraph_kept h clusters count (record { hypergraph = sound; full = full })) in kept.nets
