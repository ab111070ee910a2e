-- Laws of nets in flat arrays behind those of other flat arrays.
use Rattle.std.proofs.Common.{◌≡◌, ℕ, zero, suc, ◌+◌, ◌-◌, ◌^◌, ◌<◌, ◌≤◌, List, [], ◌++◌, length, map, flat_map, take, take-add, drop, get_or}
use Rattle.std.proofs.Common.{slice_index, slice_range, All, sym, ap, ap₂, ◌∙◌, arith, ⊎_elim}
use Rattle.std.specs.List.{range_with_len}
use Rattle.std.proofs.lemmas.List.{get_or_append_left, get_or-append-add, get_or-map, get_or-drop, get_or_default, length-append, length-map, length-drop}
use Rattle.std.proofs.lemmas.List.{length-take-le, ext_get_or, flat_map_more, take_all}
use Rattle.std.proofs.Math.Seq.{drop-append-add}
use Rattle.std.proofs.lemmas.List.FromFn.{map-range_with_len_more}
use Rattle.std.proofs.lemmas.List.Elements.{All-append}
use Rattle.std.proofs.lemmas.Bool.{cases_lt}
use Rattle.hg_defs.specs.Sums.{total}
use Rattle.hg_defs.specs.Hypergraph.{Net, Hyper, vertex_count, IsNet, IsWithinLimits}
use Rattle.hg_defs.proofs.SumLaws.{total_push, total-append}
use Rattle.hg_base.specs.Flat.{net_at, nets_at, IsLaidOut, AreFlat, IsKept}
use Rattle.hg_base.proofs.FlatLaws.{length-nets_at, get_or-nets_at}
use Rattle.hg_base.proofs.PushLaws.{slice_range-append, same_net}

length-slice_range : (ps : List ℕ) (a b : ℕ) → b ≤ length ps → length (slice_range ps a b) ≡ b - a
length-slice_range ps a b h = let l = length-drop a ps in length-take-le (b - a) (drop a ps) (omega arith)

-- how many pins the first nets have, and which
module _ (ss ns ps : List ℕ) (laid : IsLaidOut ss ns ps) where
  pins_below : (k : ℕ) → k ≤ length ns
      → total (λ (e : Net). length e.pins) (map (net_at ss ns ps) (range_with_len 0 k)) + slice_index ss 0 ≡ slice_index ss k
  pins_below zero h = omega arith
  pins_below (suc k) h =
      let f = net_at ss ns ps in
      let more = ap (total (λ (e : Net). length e.pins)) (map-range_with_len_more f 0 k k (omega arith)) in
      let sum = total_push (λ (e : Net). length e.pins) (map f (range_with_len 0 k)) (f k) in
      let before = pins_below k (omega arith) in
      let one = length-slice_range ps (slice_index ss k) (slice_index ss (k + 1)) (laid.within (k + 1) (omega arith)) in
      let up = laid.rising k (omega arith) in
      let same : slice_index ss (suc k) ≡ slice_index ss (k + 1) = ap (slice_index ss) (let e : suc k ≡ k + 1 = omega arith in e) in
      let all : total (λ (e : Net). length e.pins) (map f (range_with_len 0 (suc k))) ≡ total (λ (e : Net). length e.pins) (map f (range_with_len 0 (k + 1))) =
      ap (λ (n : ℕ). total (λ (e : Net). length e.pins) (map f (range_with_len 0 n))) (let e : suc k ≡ k + 1 = omega arith in e) in
      omega arith

  -- where the nets have as many pins as the list, the first pins stand at its front
  pub first_start : total (λ (e : Net). length e.pins) (nets_at ss ns ps) ≡ length ps → slice_index ss 0 ≡ 0
  first_start all = let sum = pins_below (length ns) (omega arith) in let last = laid.last in omega arith

  -- then the pins of all nets, one net behind the other, are the list
  module _ (first : slice_index ss 0 ≡ 0) where
    pins_joined : (k : ℕ) → k ≤ length ns → flat_map (λ (e : Net). e.pins) (map (net_at ss ns ps) (range_with_len 0 k)) ≡ take (slice_index ss k) ps
    pins_joined zero h = ap (λ (n : ℕ). take n ps) (sym first)
    pins_joined (suc k) h =
        let f = net_at ss ns ps in
        let up = laid.rising k (omega arith) in
        let next : suc k ≡ k + 1 = omega arith in
        let whole : slice_index ss k + (slice_index ss (k + 1) - slice_index ss k) ≡ slice_index ss (k + 1) = omega arith in
        ap (λ (n : ℕ). flat_map (λ (e : Net). e.pins) (map f (range_with_len 0 n))) next
        ∙ ap (flat_map (λ (e : Net). e.pins)) (map-range_with_len_more f 0 k k (omega arith))
        ∙ sym (flat_map_more (λ (e : Net). e.pins) [] (map f (range_with_len 0 k)) (f k))
        ∙ ap (λ (vs : List ℕ). vs ++ (f k).pins) (pins_joined k (omega arith))
        ∙ sym (take-add (slice_index ss k) (slice_index ss (k + 1) - slice_index ss k) ps)
        ∙ ap (λ (n : ℕ). take n ps) whole
        ∙ ap (λ (n : ℕ). take (slice_index ss n) ps) (sym next)

    pub joined_pins : flat_map (λ (e : Net). e.pins) (nets_at ss ns ps) ≡ ps
    joined_pins = let last = laid.last in pins_joined (length ns) (omega arith) ∙ take_all (slice_index ss (length ns)) ps (omega arith)

-- where the first pins stand at the front, all nets have as many pins as the list
pub all_pins : (ss ns ps : List ℕ) → AreFlat ss ns ps → total (λ (e : Net). length e.pins) (nets_at ss ns ps) ≡ length ps
all_pins ss ns ps flat =
    let sum = pins_below ss ns ps flat.laid_out (length ns) (omega arith) in
    let first = flat.first in
    let last = flat.laid_out.last in
    omega arith

-- other arrays behind the first ones, with the number of the first pins added to each place
module _ (ss ns ps : List ℕ) (laid : IsLaidOut ss ns ps) (ts ms qs : List ℕ) (flat : AreFlat ts ms qs) (by : ℕ) (at : by ≡ length ps) where
  abbrev raised : List ℕ
  raised = map (λ n. n + by) (drop 1 ts)

  length-raised : length raised ≡ length ms
  length-raised =
      let a = length-map (drop 1 ts) (λ (n : ℕ). n + by) in
      let b = length-drop 1 ts in
      let c = flat.laid_out.ends in
      omega arith

  start_before : (e : ℕ) → e ≤ length ns → slice_index (ss ++ raised) e ≡ slice_index ss e
  start_before e h = let l = laid.ends in get_or_append_left ss raised 0 e (omega arith)

  start_behind : (k : ℕ) → k ≤ length ms → slice_index (ss ++ raised) (length ns + k) ≡ slice_index ts k + by
  start_behind zero h =
      ap (slice_index (ss ++ raised)) (let e : length ns + 0 ≡ length ns = omega arith in e)
      ∙ start_before (length ns) (omega arith)
      ∙ (let a = laid.last in let b = flat.first in omega arith)
  start_behind (suc k) h =
      let l = laid.ends in
      let m = flat.laid_out.ends in
      let n = length-drop 1 ts in
      let place : length ns + suc k ≡ length ss + k = omega arith in
      let next : 1 + k ≡ suc k = omega arith in
      ap (slice_index (ss ++ raised)) place
      ∙ get_or-append-add ss raised k 0
      ∙ get_or-map (λ (n : ℕ). n + by) (drop 1 ts) k 0 0 (omega arith)
      ∙ ap (λ (n : ℕ). n + by) (get_or-drop 1 ts k 0 ∙ ap (slice_index ts) next)

  earlier_net : (e : ℕ) → e < length ns → net_at (ss ++ raised) (ns ++ ms) (ps ++ qs) e ≡ net_at ss ns ps e
  earlier_net e h =
      same_net _ _ _ _ (get_or_append_left ns ms 0 e h)
      (ap₂ (slice_range (ps ++ qs)) (start_before e (omega arith)) (start_before (e + 1) (omega arith))
      ∙ slice_range-append ps qs (slice_index ss e) (slice_index ss (e + 1)) (laid.rising e h) (laid.within (e + 1) (omega arith)))

  later_net : (k : ℕ) → k < length ms → net_at (ss ++ raised) (ns ++ ms) (ps ++ qs) (length ns + k) ≡ net_at ts ms qs k
  later_net k h =
      let a = start_behind k (omega arith) in
      let place : length ns + k + 1 ≡ length ns + (k + 1) = omega arith in
      let b = ap (slice_index (ss ++ raised)) place ∙ start_behind (k + 1) (omega arith) in
      same_net _ _ _ _ (get_or-append-add ns ms k 0)
      (ap₂ (slice_range (ps ++ qs)) a b ∙ behind (slice_index ts k) (slice_index ts (k + 1)))
    where
      behind : (x y : ℕ) → slice_range (ps ++ qs) (x + by) (y + by) ≡ slice_range qs x y
      behind x y =
          let n : y + by - (x + by) ≡ y - x = omega arith in
          let m : x + by ≡ length ps + x = omega arith in
          ap₂ (λ (j : ℕ) (i : ℕ). take j (drop i (ps ++ qs))) n m ∙ ap (take (y - x)) (drop-append-add ps qs x)

  pub nets_at-append : nets_at (ss ++ raised) (ns ++ ms) (ps ++ qs) ≡ nets_at ss ns ps ++ nets_at ts ms qs
  nets_at-append =
      let d : Net = record { weight = 0; pins = [] } in
      let a = length-nets_at (ss ++ raised) (ns ++ ms) (ps ++ qs) in
      let b = length-nets_at ss ns ps in
      let m = length-nets_at ts ms qs in
      let n = length-append ns ms in
      let l = length-append (nets_at ss ns ps) (nets_at ts ms qs) in
      ext_get_or d (nets_at (ss ++ raised) (ns ++ ms) (ps ++ qs)) (nets_at ss ns ps ++ nets_at ts ms qs) (omega arith) (λ e h.
      get_or-nets_at (ss ++ raised) (ns ++ ms) (ps ++ qs) e d (omega arith)
      ∙ ⊎_elim
      (λ (k : e < length ns).
      earlier_net e k
      ∙ sym (get_or_append_left (nets_at ss ns ps) (nets_at ts ms qs) d e (omega arith) ∙ get_or-nets_at ss ns ps e d k))
      (λ (k : length ns ≤ e).
      let i = e - length ns in
      let low : i < length ms = omega arith in
      let place : e ≡ length ns + i = omega arith in
      let seen : e ≡ length (nets_at ss ns ps) + i = omega arith in
      ap (net_at (ss ++ raised) (ns ++ ms) (ps ++ qs)) place
      ∙ later_net i low
      ∙ sym (ap (λ (j : ℕ). get_or (nets_at ss ns ps ++ nets_at ts ms qs) j d) seen
      ∙ get_or-append-add (nets_at ss ns ps) (nets_at ts ms qs) i d ∙ get_or-nets_at ts ms qs i d low))
      (cases_lt e (length ns)))

  rising_append : (e : ℕ) → e < length (ns ++ ms) → slice_index (ss ++ raised) e ≤ slice_index (ss ++ raised) (e + 1)
  rising_append e h =
      let n = length-append ns ms in
      ⊎_elim
      (λ (k : e < length ns).
      let a = start_before e (omega arith) in
      let b = start_before (e + 1) (omega arith) in
      let c = laid.rising e k in
      omega arith)
      (λ (k : length ns ≤ e).
      let i = e - length ns in
      let place : e ≡ length ns + i = omega arith in
      let next : e + 1 ≡ length ns + (i + 1) = omega arith in
      let a = ap (slice_index (ss ++ raised)) place ∙ start_behind i (omega arith) in
      let b = ap (slice_index (ss ++ raised)) next ∙ start_behind (i + 1) (omega arith) in
      let c = flat.laid_out.rising i (omega arith) in
      omega arith)
      (cases_lt e (length ns))

  within_append : (e : ℕ) → e ≤ length (ns ++ ms) → slice_index (ss ++ raised) e ≤ length (ps ++ qs)
  within_append e h =
      let n = length-append ns ms in
      let m = length-append ps qs in
      ⊎_elim
      (λ (k : e < length ns).
      let a = start_before e (omega arith) in
      let c = laid.within e (omega arith) in
      omega arith)
      (λ (k : length ns ≤ e).
      let i = e - length ns in
      let place : e ≡ length ns + i = omega arith in
      let a = ap (slice_index (ss ++ raised)) place ∙ start_behind i (omega arith) in
      let c = flat.laid_out.within i (omega arith) in
      omega arith)
      (cases_lt e (length ns))

  pub IsLaidOut-append : IsLaidOut (ss ++ raised) (ns ++ ms) (ps ++ qs)
  IsLaidOut-append =
      let n = length-append ns ms in
      let m = length-append ps qs in
      record {
        ends = let a = length-append ss raised in let b = length-raised in let l = laid.ends in omega arith;
        rising = rising_append;
        within = within_append;
        last = let a = start_behind (length ms) (omega arith) in let b = flat.laid_out.last in ap (slice_index (ss ++ raised)) n ∙ omega arith;
      }

-- a hypergraph that gets more nets
pub IsKept-append : (h : Hyper) (more : List Net) (count given weight : ℕ) → IsKept h count weight → All (IsNet (vertex_count h)) more
    → IsWithinLimits (record h { nets = h.nets ++ more }) → total (λ (e : Net). length e.pins) more ≡ given
    → IsKept (record h { nets = h.nets ++ more }) (count + given) weight
IsKept-append h more count given weight kept nets limits pins = record {
  sound = record { fixes = kept.sound.fixes; fixed = kept.sound.fixed; nets = All-append (IsNet (vertex_count h)) h.nets more kept.sound.nets nets };
  bounds = limits;
  all_pins = let a = total-append (λ (e : Net). length e.pins) h.nets more in let b = kept.all_pins in omega arith;
  all_weight = kept.all_weight;
}

-- the places fit behind the pins of other nets
pub raised_within : (nets : List Net) (ts ms qs tail : List ℕ) (by : ℕ) → AreFlat ts ms qs → tail ≡ drop 1 ts
    → total (λ (e : Net). length e.pins) nets ≡ by → total (λ (e : Net). length e.pins) (nets ++ nets_at ts ms qs) ≤ 2 ^ 25
    → All (λ n. n + by < 2 ^ 32) tail
raised_within nets ts ms qs tail by flat is before limit k d l =
    let n = length-drop 1 ts in
    let m = flat.laid_out.ends in
    let long = ap length is in
    let read = ap (λ (xs : List ℕ). get_or xs k d) is ∙ get_or-drop 1 ts k d in
    let same = get_or_default ts (1 + k) 0 d (omega arith) in
    let low = flat.laid_out.within (1 + k) (omega arith) in
    let all = total-append (λ (e : Net). length e.pins) nets (nets_at ts ms qs) in
    let given = all_pins ts ms qs flat in
    omega arith
