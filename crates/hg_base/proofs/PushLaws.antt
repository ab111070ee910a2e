-- Laws of one more net at the end of the flat arrays.
use Rattle.std.proofs.Common.{◌≡◌, ℕ, ◌+◌, ◌-◌, ◌*◌, ◌^◌, ◌<◌, ◌≤◌, List, [], ◌∷◌, ◌++◌, length, map, take, drop, get_or}
use Rattle.std.proofs.Common.{slice_index, slice_range, All, nat_cmp, refl, sym, ap, ap₂, ◌∙◌, arith, ⊎_elim}
use Rattle.std.specs.List.{range_with_len}
use Rattle.std.proofs.lemmas.List.{get_or_append_left, get_or_push, length_push, length-append}
use Rattle.std.proofs.lemmas.List.{drop-append-le, take-append-le, length-drop, drop_at, take_all}
use Rattle.std.proofs.lemmas.List.FromFn.{map-range_with_len_more, fill_by_all}
use Rattle.std.proofs.lemmas.List.Elements.{All-push, All-contains, Contains-get_or}
use Rattle.std.proofs.lemmas.Bool.{cases_lt}
use Rattle.std.proofs.lemmas.Cmp.{nat_cmp_total}
use Rattle.std.proofs.Math.Nat.{mul-le-mul_left}
use Rattle.hg_defs.specs.Sums.{total}
use Rattle.hg_defs.specs.Sorting.{set_of}
use Rattle.hg_defs.specs.Hypergraph.{Net, Hyper, vertex_count, net_count, pin_count, total_net_weight, IsNet}
use Rattle.hg_defs.proofs.SumLaws.{total_push}
use Rattle.hg_defs.proofs.SortLaws.{nat_cmp_exact, length-set_of-le, increasing-set_of, Contains-from_set_of}
use Rattle.hg_base.specs.Flat.{net_at, nets_at, IsLaidOut, IsKept, GrowsBy}
use Rattle.hg_base.proofs.FlatLaws.{length-nets_at, get_or-nets_at}

-- a part of a list stays as more is appended
pub slice_range-append : (ps qs : List ℕ) (a b : ℕ) → a ≤ b → b ≤ length ps → slice_range (ps ++ qs) a b ≡ slice_range ps a b
slice_range-append ps qs a b h k =
    let l = length-drop a ps in
    ap (take (b - a)) (drop-append-le a ps qs (omega arith)) ∙ take-append-le (b - a) (drop a ps) qs (omega arith)

-- what was appended
slice_range_appended : (ps qs : List ℕ) (a b : ℕ) → a ≡ length ps → b ≡ length ps + length qs → slice_range (ps ++ qs) a b ≡ qs
slice_range_appended ps qs a b h k =
    ap (take (b - a)) (drop_at ps qs a (sym h)) ∙ take_all (b - a) qs (omega arith)

-- a net is its weight and its pins
pub same_net : (w v : ℕ) (ps qs : List ℕ) → w ≡ v → ps ≡ qs → ◌≡◌ {A = Net} (record { weight = w; pins = ps }) (record { weight = v; pins = qs })
same_net w v ps qs e f = ap₂ (λ (x : ℕ) (xs : List ℕ). record { weight = x; pins = xs }) e f

module _ (ss ns ps qs : List ℕ) (w t : ℕ) (laid : IsLaidOut ss ns ps) (end : t ≡ length ps + length qs) where
  earlier_net : (e : ℕ) → e < length ns → net_at (ss ++ t ∷ []) (ns ++ w ∷ []) (ps ++ qs) e ≡ net_at ss ns ps e
  earlier_net e h =
      let l = laid.ends in
      let a = get_or_append_left ss (t ∷ []) 0 e (omega arith) in
      let b = get_or_append_left ss (t ∷ []) 0 (e + 1) (omega arith) in
      same_net _ _ _ _ (get_or_append_left ns (w ∷ []) 0 e h)
      (ap₂ (slice_range (ps ++ qs)) a b ∙ slice_range-append ps qs (slice_index ss e) (slice_index ss (e + 1)) (laid.rising e h)
      (laid.within (e + 1) (omega arith)))

  new_net : net_at (ss ++ t ∷ []) (ns ++ w ∷ []) (ps ++ qs) (length ns) ≡ record { weight = w; pins = qs }
  new_net =
      let l = laid.ends in
      let a = get_or_append_left ss (t ∷ []) 0 (length ns) (omega arith) in
      let b = get_or_push ss t 0 (length ns + 1) l in
      same_net _ _ _ _ (get_or_push ns w 0 (length ns) refl)
      (ap₂ (slice_range (ps ++ qs)) (a ∙ laid.last) b ∙ slice_range_appended ps qs (length ps) t refl end)

  pub nets_at_push : nets_at (ss ++ t ∷ []) (ns ++ w ∷ []) (ps ++ qs) ≡ nets_at ss ns ps ++ record { weight = w; pins = qs } ∷ []
  nets_at_push =
      let f = net_at (ss ++ t ∷ []) (ns ++ w ∷ []) (ps ++ qs) in
      let d : Net = record { weight = 0; pins = [] } in
      ap (λ n. map f (range_with_len 0 n)) (length_push ns w)
      ∙ map-range_with_len_more f 0 (length ns) (length ns) (omega arith)
      ∙ ap₂ (λ (xs : List Net) (x : Net). xs ++ x ∷ [])
      (sym (fill_by_all f (nets_at ss ns ps) (length ns) d (length-nets_at ss ns ps) (λ k h. get_or-nets_at ss ns ps k d h ∙ sym (earlier_net k h))))
      new_net

  rising_push : (e : ℕ) → e < length (ns ++ w ∷ []) → slice_index (ss ++ t ∷ []) e ≤ slice_index (ss ++ t ∷ []) (e + 1)
  rising_push e h =
      let l = laid.ends in
      let m = length_push ns w in
      let a = get_or_append_left ss (t ∷ []) 0 e (omega arith) in
      ⊎_elim
      (λ (k : e < length ns).
      let b = get_or_append_left ss (t ∷ []) 0 (e + 1) (omega arith) in
      let c = laid.rising e k in
      omega arith)
      (λ (k : length ns ≤ e).
      let same : e ≡ length ns = omega arith in
      let b = get_or_push ss t 0 (e + 1) (omega arith) in
      let c = ap (slice_index ss) same ∙ laid.last in
      omega arith)
      (cases_lt e (length ns))

  within_push : (e : ℕ) → e ≤ length (ns ++ w ∷ []) → slice_index (ss ++ t ∷ []) e ≤ length (ps ++ qs)
  within_push e h =
      let l = laid.ends in
      let m = length_push ns w in
      let n = length-append ps qs in
      ⊎_elim
      (λ (k : e < length ss).
      let a = get_or_append_left ss (t ∷ []) 0 e k in
      let c = laid.within e (omega arith) in
      omega arith)
      (λ (k : length ss ≤ e). let b = get_or_push ss t 0 e (omega arith) in omega arith)
      (cases_lt e (length ss))

  pub IsLaidOut_push : IsLaidOut (ss ++ t ∷ []) (ns ++ w ∷ []) (ps ++ qs)
  IsLaidOut_push = record {
    ends = let a = length_push ss t in let b = length_push ns w in let l = laid.ends in omega arith;
    rising = rising_push;
    within = within_push;
    last = let b = length_push ns w in let l = laid.ends in let m = length-append ps qs in ap (slice_index (ss ++ t ∷ [])) b ∙
        get_or_push ss t 0 (length ns + 1) l ∙ end ∙ sym m;
  }

All-set_of : (P : ℕ → Type 0) (qs : List ℕ) → All P qs → All P (set_of nat_cmp qs)
All-set_of P qs all k d l =
    All-contains P qs (get_or (set_of nat_cmp qs) k d) all (Contains-from_set_of nat_cmp_total nat_cmp_exact qs (get_or (set_of nat_cmp qs) k d)
    (Contains-get_or (set_of nat_cmp qs) k d l))

-- a net with the set of the given pins
abbrev pub spelt_net : ℕ → List ℕ → Net
spelt_net w qs = record { weight = w; pins = set_of nat_cmp qs }

module _ (h : Hyper) (w : ℕ) (qs : List ℕ) (count weight : ℕ) (kept : IsKept h count weight)
    (vertices : All (λ v. v < vertex_count h) qs) (nets : net_count h < 2 ^ 22) (all_pins : pin_count h + length qs ≤ 2 ^ 25)
    (net_weight : total_net_weight h + w < 2 ^ 54) (pin_weight : total (λ e. e.weight * length e.pins) h.nets + w * length qs < 2 ^ 57) where
  pub IsKept_push : IsKept (record h { nets = h.nets ++ spelt_net w qs ∷ [] }) (count + length (set_of nat_cmp qs)) weight
  IsKept_push =
      let short = length-set_of-le nat_cmp qs in
      let more = length_push h.nets (spelt_net w qs) in
      let pins = total_push (λ (e : Net). length e.pins) h.nets (spelt_net w qs) in
      let weights = total_push (λ (e : Net). e.weight) h.nets (spelt_net w qs) in
      let products = total_push (λ (e : Net). e.weight * length e.pins) h.nets (spelt_net w qs) in
      let product = mul-le-mul_left w short in
      record {
        sound = record {
          fixes = kept.sound.fixes;
          fixed = kept.sound.fixed;
          nets = All-push (IsNet (vertex_count h)) h.nets (spelt_net w qs) kept.sound.nets
              (record { rising = increasing-set_of qs; pins = All-set_of (λ v. v < vertex_count h) qs vertices });
        };
        bounds = record {
          vertices = kept.bounds.vertices;
          nets = omega arith;
          pins = omega arith;
          weight = kept.bounds.weight;
          net_weight = omega arith;
          pin_weight = omega arith;
        };
        all_pins = let a = kept.all_pins in omega arith;
        all_weight = kept.all_weight;
      }

pub GrowsBy_push : (h : Hyper) (w : ℕ) (qs : List ℕ) → GrowsBy h (record h { nets = h.nets ++ spelt_net w qs ∷ [] }) w (length qs)
GrowsBy_push h w qs =
    let short = length-set_of-le nat_cmp qs in
    let more = length_push h.nets (spelt_net w qs) in
    let pins = total_push (λ (e : Net). length e.pins) h.nets (spelt_net w qs) in
    let weights = total_push (λ (e : Net). e.weight) h.nets (spelt_net w qs) in
    let products = total_push (λ (e : Net). e.weight * length e.pins) h.nets (spelt_net w qs) in
    let product = mul-le-mul_left w short in
    record { vertices = refl; nets = omega arith; pins = omega arith; net_weight = omega arith; pin_weight = omega arith }
