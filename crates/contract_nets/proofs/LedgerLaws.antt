-- The places of nets are the ledger of the contraction.
use Rattle.std.proofs.Common.{◌≡◌, ◌≢◌, ℕ, ◌+◌, ◌<◌, ◌≤◌, ◌⊎◌, inl, inr, Bool, true, false, true≢false, if◌then◌else◌, nat_eq}
use Rattle.std.proofs.Common.{List, [], length, map, filter, get_or, slice_index, Contains, IsPermutation, All, nat_cmp, is_eq}
use Rattle.std.proofs.Common.{refl, sym, ap, ◌∙◌, subst, arith}
use Rattle.std.specs.List.{range_with_len}
use Rattle.std.specs.Cmp.{Equal-is}
use Rattle.std.specs.Cmp.Lexicographic.{slice_cmp}
use Rattle.std.specs.Ordering.{eq_by_cmp}
use Rattle.std.proofs.lemmas.Bool.{cases_lt, cases_eq, eq-eqb, ne_eqb, eqb-true, le-leb}
use Rattle.std.proofs.lemmas.Cmp.{tied_itself}
use Rattle.std.proofs.lemmas.List.{length-map, get_or-map}
use Rattle.std.proofs.lemmas.List.Elements.{Contains-get_or, All-contains}
use Rattle.std.proofs.lemmas.List.FromFn.{length-range_with_len, get_or-range_with_len}
use Rattle.std.proofs.lemmas.List.Sorted.{Contains-permutation, IsPermutation-map}
use Rattle.std.proofs.lemmas.Map.Keys.{IsDistinct-from_sorted, apart_from_distinct}
use Rattle.hg_defs.specs.Hypergraph.{Net, Hyper, net_count, net_of}
use Rattle.hg_defs.specs.Contraction.{image, images, merged_weight, contract}
use Rattle.hg_defs.proofs.SumLaws.{total-by_index, total-range, sum_below-same}
use Rattle.hg_defs.proofs.SortLaws.{lists_cmp_total, lists_exact}
use Rattle.hg_defs.proofs.DistinctLaws.{Contains-from_map}
use Rattle.hg_defs.proofs.PlacementLaws.{Contains_filter}
use Rattle.hg_defs.proofs.ContractionLaws.{Contains-from_images, strict-images}
use Rattle.contract_nets.specs.declared.ledger.Merged.{Merged}
use Rattle.contract_nets.specs.declared.ledger.Merged.TheVariants.{Dropped, Into}
use Rattle.contract_nets.specs.declared.ledger.TheConstants.{DROPPED}
use Rattle.contract_nets.specs.Places.{read_place}
use Rattle.contract_nets.specs.Merging.{mapped_net, is_kept, ArePlaces}
use Rattle.contract_nets.specs.Keys.{Key}
use Rattle.contract_nets.specs.Ledger.{place_of, Names, went_into, weight_into, IsLedger}

-- a net of two clusters or more has a key
pub key_of_wide : (h mapped : Hyper) (clusters : List ℕ) (keys sorted : List Key) → mapped.nets ≡ map (mapped_net clusters) h.nets
    → map (λ (k : Key). k.1) keys ≡ filter (λ e. is_kept (net_of mapped e)) (range_with_len 0 (net_count mapped)) → IsPermutation keys sorted
    → (e : ℕ) → e < net_count h → 2 ≤ length (image clusters (net_of h e)) → Contains (map (λ (k : Key). k.1) sorted) e
key_of_wide h mapped clusters keys sorted nets numbers moved e l wide =
    let count : net_count mapped ≡ net_count h = ap (λ (ns : List Net). length ns) nets ∙ length-map h.nets (mapped_net clusters) in
    let net : net_of mapped e ≡ mapped_net clusters (net_of h e) =
    ap (λ (ns : List Net). get_or ns e (record { weight = 0; pins = [] })) nets ∙ get_or-map (mapped_net clusters) h.nets e
    (record { weight = 0; pins = [] })
    (record { weight = 0; pins = [] }) l
    in
    let kept : is_kept (net_of mapped e) ≡ true = ap is_kept net ∙ le-leb 2 (length (image clusters (net_of h e))) wide in
    let long = length-range_with_len 0 (net_count mapped) in
    let here : Contains (range_with_len 0 (net_count mapped)) e = (
      e,
      omega arith,
      get_or-range_with_len 0 (net_count mapped) e e (omega arith) ∙
          (let z : 0 + e ≡ e = omega arith in z),
    ) in
    let number = subst (λ (xs : List ℕ). Contains xs e) (sym numbers) (Contains_filter (λ i. is_kept (net_of mapped i))
    (range_with_len 0 (net_count mapped)) e
    here kept) in
    Contains-permutation (map (λ (k : Key). k.1) keys) (map (λ (k : Key). k.1) sorted) e (IsPermutation-map (λ (k : Key). k.1) keys sorted moved) number

-- and so has a place where each key has one
pub placed_by_key : (keys : List Key) (places : List ℕ) → All (λ (k : Key). slice_index places k.1 ≢ DROPPED) keys → (e : ℕ)
    → Contains (map (λ (k : Key). k.1) keys) e → slice_index places e ≢ DROPPED
placed_by_key keys places all e number =
    let key = Contains-from_map (λ (k : Key). k.1) keys e number in
    subst (λ (i : ℕ). slice_index places i ≢ DROPPED) key.2 (All-contains (λ (k : Key). slice_index places k.1 ≢ DROPPED) keys key.0 all key.1)

module _ (h : Hyper) (clusters : List ℕ) (count : ℕ) where
  pins_at : ℕ → List ℕ
  pins_at i = get_or (images h clusters) i []

  coarse_net : (i : ℕ) → i < net_count (contract h clusters count) → net_of (contract h clusters count) i ≡
      record { weight = merged_weight h clusters (pins_at i); pins = pins_at i }
  unfolding pins_at
  coarse_net i l =
      let n = length-map (images h clusters) (λ p. let e : Net = record { weight = merged_weight h clusters p; pins = p } in e) in
      get_or-map (λ p. let e : Net = record { weight = merged_weight h clusters p; pins = p } in e) (images h clusters) i []
      (record { weight = 0; pins = [] })
      (omega arith)

  among : (i : ℕ) → i < net_count (contract h clusters count) → i < length (images h clusters)
  among i l = let n = length-map (images h clusters) (λ p. let e : Net = record { weight = merged_weight h clusters p; pins = p } in e) in omega arith

  wide_at : (i : ℕ) → i < net_count (contract h clusters count) → 2 ≤ length (pins_at i)
  unfolding pins_at
  wide_at i l = (Contains-from_images h clusters (pins_at i) (Contains-get_or (images h clusters) i [] (among i l))).3

  below_apart : (i j : ℕ) → i < j → j < net_count (contract h clusters count) → pins_at i ≡ pins_at j → ⊥
  unfolding pins_at
  below_apart i j l m same =
      true≢false
      (sym (ap is_eq (tied_itself lists_cmp_total (pins_at i)))
      ∙ ap (λ (p : List ℕ). is_eq (slice_cmp nat_cmp (pins_at i) p)) same
      ∙ apart_from_distinct (eq_by_cmp (slice_cmp nat_cmp)) (images h clusters) i j [] (IsDistinct-from_sorted (slice_cmp nat_cmp) (images h clusters)
      (strict-images h clusters)) l (among j m))

  apart : (i j : ℕ) → i ≢ j → i < net_count (contract h clusters count) → j < net_count (contract h clusters count) → pins_at i ≡ pins_at j → ⊥
  apart i j o l m same = by (cases_lt i j)
    where
      by : (i < j) ⊎ (j ≤ i) → ⊥
      by (inl k) = below_apart i j k m same
      by (inr k) = below_apart j i (omega arith) l (sym same)

  different : (p q : List ℕ) → (p ≡ q → ⊥) → is_eq (slice_cmp nat_cmp p q) ≡ false
  different p q o = by (is_eq (slice_cmp nat_cmp p q)) refl
    where
      by : (b : Bool) → is_eq (slice_cmp nat_cmp p q) ≡ b → b ≡ false
      by true e = absurd (o (lists_exact p q ((Equal-is (slice_cmp nat_cmp p q)).0 e)))
      by false e = refl

  -- a net went into the coarse net with its clusters
  went : (i : ℕ) → i < net_count (contract h clusters count) → (p : List ℕ) (place : Merged) → Names (contract h clusters count) p place →
      is_eq (slice_cmp nat_cmp p (pins_at i)) ≡ went_into i place
  went i l p Dropped short = different p (pins_at i) (λ e. let n = ap length e in let w = wide_at i l in omega arith)
  went i l p (Into j) named = by (cases_eq j i)
    where
      there : p ≡ pins_at j
      there = sym named.1 ∙ ap (λ (e : Net). e.pins) (coarse_net j named.0)

      by : (j ≡ i) ⊎ (j ≢ i) → is_eq (slice_cmp nat_cmp p (pins_at i)) ≡ nat_eq j i
      by (inl e) = ap (λ (q : List ℕ). is_eq (slice_cmp nat_cmp q (pins_at i))) (there ∙ ap pins_at e) ∙
          ap is_eq (tied_itself lists_cmp_total (pins_at i)) ∙
          sym (eq-eqb j i e)
      by (inr o) = different p (pins_at i) (λ e. apart j i o named.0 l (sym there ∙ e)) ∙ sym (ne_eqb j i o)

  sums_are : (ledger : List Merged) → ((e : ℕ) → e < net_count h → Names (contract h clusters count) (image clusters (net_of h e)) (place_of ledger e))
      → (i : ℕ) → i < net_count (contract h clusters count) → (net_of (contract h clusters count) i).weight ≡ weight_into h ledger i
  sums_are ledger named i l =
      let f : Net → ℕ = λ e. if is_eq (slice_cmp nat_cmp (image clusters e) (pins_at i)) then e.weight else 0 in
      let g : ℕ → ℕ = λ e. if went_into i (place_of ledger e) then (net_of h e).weight else 0 in
      ap (λ (e : Net). e.weight) (coarse_net i l)
      ∙ total-by_index f (record { weight = 0; pins = [] }) h.nets
      ∙ sum_below-same (λ e. f (net_of h e)) g (net_count h) (λ e m. ap (λ (b : Bool). if b then (net_of h e).weight else 0)
      (went i l (image clusters (net_of h e)) (place_of ledger e) (named e m)))
      ∙ sym (total-range g (net_count h))

  module _ (places : List ℕ) (long : length places ≡ net_count h) (placed : ArePlaces (map (mapped_net clusters) h.nets)
      (map (λ (e : Net). e.pins) (contract h clusters count).nets) places)
      (all : (e : ℕ) → e < net_count h → 2 ≤ length (image clusters (net_of h e)) → slice_index places e ≢ DROPPED) where
    read_at : (e : ℕ) → e < net_count h → place_of (map read_place places) e ≡ read_place (slice_index places e)
    read_at e l = get_or-map read_place places e 0 Dropped (omega arith)

    named_at : (e : ℕ) → e < net_count h → Names (contract h clusters count) (image clusters (net_of h e)) (place_of (map read_place places) e)
    named_at e l = subst (Names (contract h clusters count) (image clusters (net_of h e))) (sym (read_at e l))
        (by (nat_eq (slice_index places e) DROPPED) refl)
      where
        short : (length (image clusters (net_of h e)) < 2) ⊎ (2 ≤ length (image clusters (net_of h e))) → slice_index places e ≡ DROPPED →
            length (image clusters (net_of h e)) < 2
        short (inl s) d = s
        short (inr w) d = absurd (all e l w d)

        by : (b : Bool) → nat_eq (slice_index places e) DROPPED ≡ b → Names (contract h clusters count) (image clusters (net_of h e))
            (if b then Dropped else Into (slice_index places e))
        by true d = short (cases_lt (length (image clusters (net_of h e))) 2) (eqb-true (slice_index places e) DROPPED d)
        by false d =
            let m = length-map h.nets (mapped_net clusters) in
            let n = length-map (contract h clusters count).nets (λ (x : Net). x.pins) in
            let there = placed e (omega arith) (λ same. true≢false (sym (eq-eqb (slice_index places e) DROPPED same) ∙ d)) in
            let b = there.below in (
              omega arith,
              sym (get_or-map (λ (x : Net). x.pins) (contract h clusters count).nets (slice_index places e) (record { weight = 0; pins = [] }) []
                  (omega arith))
                  ∙ there.pins_are
                  ∙ ap (λ (x : Net). x.pins) (get_or-map (mapped_net clusters) h.nets e (record { weight = 0; pins = [] })
                  (record { weight = 0; pins = [] })
                  l),
            )

    pub ledger_is : IsLedger h clusters (contract h clusters count) (map read_place places)
    ledger_is = record {
      nets = length-map places read_place ∙ long;
      named = named_at;
      sums = sums_are (map read_place places) named_at;
    }
