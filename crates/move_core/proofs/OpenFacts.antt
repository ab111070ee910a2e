-- One step of each loop that opens the books.
use Rattle.std.proofs.Common.{◌≡◌, ℕ, ◌+◌, ◌*◌, ◌/◌, ◌%◌, ◌<◌, ◌≤◌, ◌⊎◌, inl, inr, Bool, true, false}
use Rattle.std.proofs.Common.{if◌then◌else◌, nat_eq, nat_lt, List, [], ◌∷◌, ◌++◌, map}
use Rattle.std.proofs.Common.{filter, length, get_or, get_or-set_same, get_or-set_other, set, slice_index, take, All, refl, sym, ap, ◌∙◌, arith}
use Rattle.std.specs.List.{range_with_len, flat_map}
use Rattle.std.proofs.lemmas.Bool.{cases_eq, cases_lt, lt-ltb, le-ltb, eq-eqb, ne_eqb}
use Rattle.std.proofs.lemmas.Nat.{same_from_place}
use Rattle.std.proofs.lemmas.List.{append-nil}
use Rattle.std.proofs.lemmas.List.FromFn.{filter_of_map_range_with_len_more}
use Rattle.std.proofs.lemmas.Grind.{same_number_lists}
use Rattle.std.proofs.Math.Nat.{mul-le-mul_left}
use Rattle.move_core.proofs.OpenLaws.{length-opened_counts, opened-count}
use Rattle.hg_defs.specs.Hypergraph.{Hyper, net_count, net_of}
use Rattle.hg_defs.specs.Partition.{block_of, weight_in, load, Fits}
use Rattle.hg_defs.specs.Pins.{pins_in}
use Rattle.hg_defs.proofs.SumLaws.{weight_in-take_more, weight_if, weight_if-same, weight_if-other, weight_if-le}
use Rattle.hg_defs.proofs.SumLaws.{total-le, total-ones, total-take_more, total_more-le}
use Rattle.move_core.proofs.NetLaws.{on_by_times}
use Rattle.move_core.proofs.WriteLaws.{place-below}
use Rattle.hg_defs.specs.Incidence.{nets_of}
use Rattle.move_core.specs.State.{Setup, State, times, count_place, setup_of, opened, opening_pins, present_below, blank}
use Rattle.move_core.specs.declared.account.Account.{Account}
use Rattle.hg_defs.specs.Pins.{present}
use Rattle.hg_defs.proofs.SumLaws.{sum_below-same}
use Rattle.std.proofs.Common.{replicate}
use Rattle.std.proofs.lemmas.List.FromFn.{fill_by_all, length-map-range_with_len, get_or-map-range_with_len}

-- ---- loads

-- a partition fits where all of its loads are within the limit
pub fits_by_all : (h : Hyper) (k l : ℕ) (p loads : List ℕ) → loads ≡ map (load h p) (range_with_len 0 k) → All (λ x. x ≤ l) loads → Fits h k l p
fits_by_all h k l p loads e a b m =
    let n = length-map-range_with_len (load h p) 0 k in
    let w = ap length e in
    let q = a b 0 (omega arith) in
    let r = ap (λ xs. get_or xs b 0) e ∙ get_or-map-range_with_len (load h p) 0 k b b 0 m (omega arith) in
    omega arith

pub loads_more : (ws p loads : List ℕ) (v k x : ℕ) → length loads ≡ k → v < length ws → v < length p → slice_index p v < k
    → ((b : ℕ) → b < k → get_or loads b 0 ≡ weight_in (take v ws) (take v p) b) → x ≡ get_or loads (slice_index p v) 0 + slice_index ws v → (b : ℕ) → b < k
    → get_or (set loads (slice_index p v) x) b 0 ≡ weight_in (take (v + 1) ws) (take (v + 1) p) b
loads_more ws p loads v k x w lw lp lk each e b lb =
    let m = weight_in-take_more ws p v b lw lp in
    let o = each b lb in
    elim (cases_eq (slice_index p v) b) [
      | inl q ↦
          let s = weight_if-same (slice_index p v) b (slice_index ws v) q in
          let g = ap (λ z. get_or (set loads z x) b 0) q ∙ get_or-set_same loads b x 0 (omega arith) in
          let h = ap (λ z. get_or loads z 0) q in
          omega arith
      | inr q ↦
          let s = weight_if-other (slice_index p v) b (slice_index ws v) q in
          let g = get_or-set_other loads (slice_index p v) b x 0 (λ z. q (sym z)) in
          omega arith
    ]

-- ---- the index

-- the nets of a vertex below a number
abbrev pub nets_below : Hyper → ℕ → ℕ → List ℕ
nets_below h v e = filter (λ x. nat_lt 0 (times v (net_of h x).pins)) (map (λ x. x) (range_with_len 0 e))

-- and one more, where the vertex stands among some of its pins
abbrev pub nets_with : Hyper → ℕ → ℕ → List ℕ → List ℕ
nets_with h v e pins = nets_below h v e ++ (if nat_lt 0 (times v pins) then e ∷ [] else [])

pub nets_with_none : (h : Hyper) (v e : ℕ) → nets_with h v e [] ≡ nets_below h v e
nets_with_none h v e = append-nil (nets_below h v e)

pub nets_below_more : (h : Hyper) (v e : ℕ) → nets_with h v e (net_of h e).pins ≡ nets_below h v (e + 1)
nets_below_more h v e = sym (filter_of_map_range_with_len_more (λ x. nat_lt 0 (times v (net_of h x).pins)) (λ x. x) 0 e e (omega arith))

map-same : (xs : List ℕ) → map (λ x. x) xs ≡ xs
map-same [] = refl
map-same (x ∷ xs) = ap (λ ys. x ∷ ys) (map-same xs)

pub nets_below_all : (h : Hyper) (v : ℕ) → nets_below h v (net_count h) ≡ nets_of h v
nets_below_all h v = ap (filter (λ x. nat_lt 0 (times v (net_of h x).pins))) (map-same (range_with_len 0 (net_count h))) ∙ sym (on_by_times h v)

pub index_more : (h : Hyper) (index : List (List ℕ)) (e n j v : ℕ) (pins : List ℕ) (old new : List ℕ) → length index ≡ n → j < length pins
    → v ≡ slice_index pins j → v < n → times v pins ≤ 1 → ((u : ℕ) (d : List ℕ) → u < n → get_or index u d ≡ nets_with h u e (take j pins))
    → old ≡ get_or index v old → new ≡ old ++ e ∷ [] → (u : ℕ) (d : List ℕ) → u < n → get_or (set index v new) u d ≡ nets_with h u e (take (j + 1) pins)
index_more h index e n j v pins old new w lj ev lv once each eo en u d lu =
    let more = total-take_more (λ x. weight_if x u 1) pins j 0 lj in
    elim (cases_eq v u) [
      | inl q ↦
          let m = total_more-le (λ x. weight_if x v 1) pins j 0 lj in
          let s = weight_if-same (get_or pins j 0) v 1 (sym ev) in
          let z : times v (take j pins) ≡ 0 = omega arith in
          let here : get_or (set index v new) u d ≡ new = ap (λ y. get_or (set index y new) u d) q ∙ get_or-set_same index u new d (omega arith) in
          let was : old ≡ nets_below h v e = eo ∙ each v old lv ∙ ap (λ b. nets_below h v e ++ (if b then e ∷ [] else []))
          (le-ltb 0 (times v (take j pins)) (omega arith)) ∙ append-nil (nets_below h v e) in
          let s' = weight_if-same (get_or pins j 0) u 1 (sym ev ∙ q) in
          here ∙ en ∙ ap (λ xs. xs ++ e ∷ []) (was ∙ ap (λ y. nets_below h y e) q)
          ∙ sym (ap (λ b. nets_below h u e ++ (if b then e ∷ [] else [])) (lt-ltb 0 (times u (take (j + 1) pins)) (omega arith)))
      | inr q ↦
          let s = weight_if-other (get_or pins j 0) u 1 (λ y. q (ev ∙ y)) in
          let same : times u (take j pins) ≡ times u (take (j + 1) pins) = omega arith in
          get_or-set_other index v u new d (λ y. q (sym y)) ∙ each u d lu ∙ ap (λ t. nets_below h u e ++ (if nat_lt 0 t then e ∷ [] else [])) same
    ]

-- ---- counts

-- what the count of a net and a block is once all nets before e and these pins of e are counted
abbrev pub pins_with : Hyper → List ℕ → ℕ → List ℕ → ℕ → ℕ → ℕ
pins_with h p e pins f b = if nat_lt f e then pins_in p (net_of h f).pins b else (if nat_eq f e then pins_in p pins b else 0)

-- after a net
pub pins_with_more : (h : Hyper) (p : List ℕ) (e f b : ℕ) → pins_with h p e (net_of h e).pins f b ≡ pins_with h p (e + 1) [] f b
pins_with_more h p e f b =
    elim (cases_eq f e) [
      | inl q ↦
          ap (λ t. if t then pins_in p (net_of h f).pins b else (if nat_eq f e then pins_in p (net_of h e).pins b else 0)) (le-ltb f e (omega arith))
          ∙ ap (λ t. if t then pins_in p (net_of h e).pins b else 0) (eq-eqb f e q)
          ∙ ap (λ z. pins_in p (net_of h z).pins b) (sym q)
          ∙ sym (ap (λ t. if t then pins_in p (net_of h f).pins b else (if nat_eq f (e + 1) then pins_in p [] b else 0)) (lt-ltb f (e + 1) (omega arith)))
      | inr q ↦
          elim (cases_lt f e) [
            | inl l ↦
                ap (λ t. if t then pins_in p (net_of h f).pins b else (if nat_eq f e then pins_in p (net_of h e).pins b else 0)) (lt-ltb f e l)
                ∙ sym (ap (λ t. if t then pins_in p (net_of h f).pins b else (if nat_eq f (e + 1) then pins_in p [] b else 0))
                (lt-ltb f (e + 1) (omega arith)))
            | inr m ↦
                let k : e + 1 ≤ f = grind arith in
                ap (λ t. if t then pins_in p (net_of h f).pins b else (if nat_eq f e then pins_in p (net_of h e).pins b else 0)) (le-ltb f e m)
                ∙ ap (λ t. if t then pins_in p (net_of h e).pins b else 0) (ne_eqb f e q)
                ∙ sym (ap (λ t. if t then pins_in p (net_of h f).pins b else (if nat_eq f (e + 1) then pins_in p [] b else 0)) (le-ltb f (e + 1) k)
                ∙ zero_both (nat_eq f (e + 1)))
          ]
    ]
  where
    zero_both : (t : Bool) → ◌≡◌ {A = ℕ} (if t then 0 else 0) 0
    zero_both true = refl
    zero_both false = refl

-- before a net
pub pins_with_past : (h : Hyper) (p : List ℕ) (e f b : ℕ) (pins : List ℕ) → e ≤ f → (f ≡ e → ⊥) ⊎ (pins ≡ []) → pins_with h p e pins f b ≡ 0
pins_with_past h p e f b pins l c =
    ap (λ t. if t then pins_in p (net_of h f).pins b else (if nat_eq f e then pins_in p pins b else 0)) (le-ltb f e l)
    ∙ elim c [
      | inl q ↦ ap (λ t. if t then pins_in p pins b else 0) (ne_eqb f e q)
      | inr q ↦ ap (λ xs. if nat_eq f e then pins_in p xs b else 0) q ∙ zero_both (nat_eq f e)
    ]
  where
    zero_both : (t : Bool) → ◌≡◌ {A = ℕ} (if t then 0 else 0) 0
    zero_both true = refl
    zero_both false = refl

pub pins_with_all : (h : Hyper) (p : List ℕ) (e f b : ℕ) → f < e → pins_with h p e [] f b ≡ pins_in p (net_of h f).pins b
pins_with_all h p e f b l = ap (λ t. if t then pins_in p (net_of h f).pins b else (if nat_eq f e then pins_in p [] b else 0)) (lt-ltb f e l)

-- one pin more
pub counts_more : (h : Hyper) (p counts : List ℕ) (e m k j v x : ℕ) (pins : List ℕ) → length counts ≡ m * k → e < m → j < length pins →
    v ≡ slice_index pins j
    → block_of p v < k → ((f b : ℕ) → f < m → b < k → get_or counts (count_place k f b) 0 ≡ pins_with h p e (take j pins) f b)
    → x ≡ get_or counts (count_place k e (block_of p v)) 0 + 1 → (f b : ℕ) → f < m → b < k
    → get_or (set counts (count_place k e (block_of p v)) x) (count_place k f b) 0 ≡ pins_with h p e (take (j + 1) pins) f b
counts_more h p counts e m k j v x pins w le lj ev lb each ex f b lf lc =
    let more = total-take_more (λ u. weight_if (block_of p u) b 1) pins j 0 lj in
    let inside = place-below k e (block_of p v) m le lb in
    elim (cases_eq f e) [
      | inl q ↦
          let now : pins_with h p e (take (j + 1) pins) f b ≡ pins_in p (take (j + 1) pins) b = at_net h p e f b (take (j + 1) pins) q in
          let was : pins_with h p e (take j pins) f b ≡ pins_in p (take j pins) b = at_net h p e f b (take j pins) q in
          let o = each f b lf lc in
          elim (cases_eq (block_of p v) b) [
            | inl t ↦
                let s = weight_if-same (block_of p (get_or pins j 0)) b 1 (ap (block_of p) (sym ev) ∙ t) in
                let place : count_place k f b ≡ count_place k e (block_of p v) = ap (λ z. count_place k z b) q ∙ ap (count_place k e) (sym t) in
                let g : get_or (set counts (count_place k e (block_of p v)) x) (count_place k f b) 0 ≡ x =
                ap (λ z. get_or (set counts (count_place k e (block_of p v)) x) z 0) place
                ∙ get_or-set_same counts (count_place k e (block_of p v)) x 0 (omega arith) in
                let y = ap (λ z. get_or counts z 0) place in
                omega arith
            | inr t ↦
                let s = weight_if-other (block_of p (get_or pins j 0)) b 1 (λ z. t (ap (block_of p) ev ∙ z)) in
                let g = get_or-set_other counts (count_place k e (block_of p v)) (count_place k f b) x 0
                (λ z. t (sym (same_from_place f b e (block_of p v) k lc lb z).1)) in
                omega arith
          ]
      | inr q ↦
          get_or-set_other counts (count_place k e (block_of p v)) (count_place k f b) x 0 (λ z. q (same_from_place f b e (block_of p v) k lc lb z).0)
          ∙ each f b lf lc
          ∙ ap (λ t. if nat_lt f e then pins_in p (net_of h f).pins b else (if t then pins_in p (take j pins) b else 0)) (ne_eqb f e q)
          ∙ sym (ap (λ t. if nat_lt f e then pins_in p (net_of h f).pins b else (if t then pins_in p (take (j + 1) pins) b else 0)) (ne_eqb f e q))
    ]
  where
    at_net : (h' : Hyper) (p' : List ℕ) (e' f' b' : ℕ) (xs : List ℕ) → f' ≡ e' → pins_with h' p' e' xs f' b' ≡ pins_in p' xs b'
    at_net h' p' e' f' b' xs q =
        ap (λ t. if t then pins_in p' (net_of h' f').pins b' else (if nat_eq f' e' then pins_in p' xs b' else 0)) (le-ltb f' e' (omega arith))
        ∙ ap (λ t. if t then pins_in p' xs b' else 0) (eq-eqb f' e' q)

pub pins_with_at : (h : Hyper) (p : List ℕ) (e b : ℕ) (pins : List ℕ) → pins_with h p e pins e b ≡ pins_in p pins b
pins_with_at h p e b pins =
    ap (λ t. if t then pins_in p (net_of h e).pins b else (if nat_eq e e then pins_in p pins b else 0)) (le-ltb e e (omega arith))
    ∙ ap (λ t. if t then pins_in p pins b else 0) (eq-eqb e e refl)

pub pins_in-le : (p pins : List ℕ) (b : ℕ) → pins_in p pins b ≤ length pins
pins_in-le p pins b =
    let a = total-le (λ v. weight_if (block_of p v) b 1) (λ v. 1) pins (λ k d l. weight_if-le (block_of p (get_or pins k d)) b 1) in
    let o = total-ones pins in
    omega arith

-- a place of a table with rows of one length
pub row_of : (j k m : ℕ) → j < m * k → (0 < k) × (j / k < m) × (j % k < k) × (count_place k (j / k) (j % k) ≡ j)
row_of j k m l =
    elim (cases_lt 0 k) [
      | inl p ↦ (p, below p, omega arith, omega arith)
      | inr q ↦ let z : k ≡ 0 = omega arith in let w : m * k ≡ m * 0 = ap (λ y. m * y) z in absurd (omega arith)
    ]
  where
    below : 0 < k → j / k < m
    below p =
        elim (cases_lt (j / k) m) [
          | inl x ↦ x
          | inr y ↦ let a = mul-le-mul_left k y in absurd (omega arith)
        ]

-- the counts of all nets
pub counts_all : (h : Hyper) (p counts : List ℕ) (k : ℕ) → length counts ≡ net_count h * k
    → ((f b : ℕ) → f < net_count h → b < k → get_or counts (count_place k f b) 0 ≡ pins_in p (net_of h f).pins b)
    → counts ≡ flat_map (λ e. map (pins_in p (net_of h e).pins) (range_with_len 0 k)) (range_with_len 0 (net_count h))
counts_all h p counts k w each =
    same_number_lists counts (flat_map (λ e. map (pins_in p (net_of h e).pins) (range_with_len 0 k)) (range_with_len 0 (net_count h)))
    (w ∙ sym (length-opened_counts (setup_of h k 0 p)))
    (λ j l.
    let r = row_of j k (net_count h) (omega arith) in
    let o = opened-count (setup_of h k 0 p) 0 (j / k) (j % k) r.1 r.2 in
    ap (λ z. get_or counts z 0) (sym r.3) ∙ each (j / k) (j % k) r.1 r.2 ∙ sym o
    ∙ ap (λ z. get_or (flat_map (λ e. map (pins_in p (net_of h e).pins) (range_with_len 0 k)) (range_with_len 0 (net_count h))) z 0) r.3)

-- the spreads, read off the counts
pub spreads_all : (s : Setup) (m : ℕ) (counts : List ℕ) → m ≡ net_count s.graph → counts ≡ (opened s 0).counts
    → map (λ e. 64 + present_below (λ b. slice_index counts (count_place s.blocks e b)) s.blocks) (range_with_len 0 m)
    ≡ map (λ e. 64 + present_below (opening_pins s e) s.blocks) (range_with_len 0 (net_count s.graph))
spreads_all s m counts em ec =
    let f : ℕ → ℕ = λ e. 64 + present_below (λ b. slice_index counts (count_place s.blocks e b)) s.blocks in
    let g : ℕ → ℕ = λ e. 64 + present_below (opening_pins s e) s.blocks in
    ap (λ n. map f (range_with_len 0 n)) em
    ∙ fill_by_all g (map f (range_with_len 0 (net_count s.graph))) (net_count s.graph) 0 (length-map-range_with_len f 0 (net_count s.graph))
    (λ e l.
    let a = get_or-map-range_with_len f 0 (net_count s.graph) e e 0 l (omega arith) in
    let q = sum_below-same (λ b. present (slice_index counts (count_place s.blocks e b))) (λ b. present (opening_pins s e b)) s.blocks
    (λ b k. ap present (ap (λ xs. slice_index xs (count_place s.blocks e b)) ec ∙ opened-count s 0 e b l k)) in
    a ∙ ap (λ n. 64 + n) q)

-- a state with nothing drawn
abbrev pub opened_with : ℕ → ℕ → Hyper → List ℕ → List ℕ → List ℕ → List ℕ → List ℕ → List ℕ → List Account → State
opened_with blocks limit h opening claims names loads counts spreads accounts = record {
  setup = record { graph = h; blocks = blocks; limit = limit; opening = opening };
  claims = claims;
  names = names;
  loads = loads;
  counts = counts;
  spreads = spreads;
  next = 0;
  cursor = 0;
  accounts = accounts;
}

-- the state at the opening, word by word
pub opened_from : (s : Setup) (passes : ℕ) (h : Hyper) (opening claims names loads counts spreads : List ℕ) (accounts : List Account) → h ≡ s.graph
    → opening ≡ s.opening → claims ≡ (opened s passes).claims → names ≡ s.opening → loads ≡ (opened s passes).loads → counts ≡ (opened s passes).counts
    → spreads ≡ (opened s passes).spreads → accounts ≡ replicate passes (blank true)
    → opened_with s.blocks s.limit h opening claims names loads counts spreads accounts ≡ opened s passes
opened_from s passes h opening claims names loads counts spreads accounts e1 e2 e3 e4 e5 e6 e7 e8 =
    ap (λ z. opened_with s.blocks s.limit z opening claims names loads counts spreads accounts) e1
    ∙ ap (λ z. opened_with s.blocks s.limit s.graph z claims names loads counts spreads accounts) e2
    ∙ ap (λ z. opened_with s.blocks s.limit s.graph s.opening z names loads counts spreads accounts) e3
    ∙ ap (λ z. opened_with s.blocks s.limit s.graph s.opening (opened s passes).claims z loads counts spreads accounts) e4
    ∙ ap (λ z. opened_with s.blocks s.limit s.graph s.opening (opened s passes).claims s.opening z counts spreads accounts) e5
    ∙ ap (λ z. opened_with s.blocks s.limit s.graph s.opening (opened s passes).claims s.opening (opened s passes).loads z spreads accounts) e6
    ∙ ap (λ z. opened_with s.blocks s.limit s.graph s.opening (opened s passes).claims s.opening (opened s passes).loads (opened s passes).counts z
    accounts) e7
    ∙ ap (λ z. opened_with s.blocks s.limit s.graph s.opening (opened s passes).claims s.opening (opened s passes).loads (opened s passes).counts
    (opened s passes).spreads z) e8
