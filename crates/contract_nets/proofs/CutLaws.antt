-- Laws of keys cut into parts: the parts, merged by themselves, are all that is merged.
use Rattle.std.proofs.Common.{◌≡◌, ℕ, zero, suc, ◌+◌, ◌-◌, ◌<◌, ◌≤◌, ◌⊎◌, inl, inr, Bool, true, false, IsTrue, ◌↔◌, List, [], ◌∷◌, ◌++◌}
use Rattle.std.proofs.Common.{length, map, take, drop, get_or, slice_index, slice_index_or, slice_range, Result, Ok, IfOk, nat_cmp, is_eq}
use Rattle.std.proofs.Common.{refl, sym, ap, ap₂, ◌∙◌, subst, arith}
use Rattle.std.specs.List.{flat_map}
use Rattle.std.proofs.lemmas.Bool.{cases_lt}
use Rattle.std.proofs.lemmas.Grind.{flat_map-append}
use Rattle.std.proofs.lemmas.List.{append-nil, append_assoc, map-append, length-append, length-map, length-take-le, get_or-map, get_or-take}
use Rattle.std.proofs.lemmas.List.{get_or_append_left, get_or-append_right, take_all, take_more, drop_more, drop-take, take-append-drop, take-take}
use Rattle.std.specs.Cmp.Lexicographic.{slice_cmp}
use Rattle.hg_defs.specs.Sums.{total}
use Rattle.hg_defs.specs.Hypergraph.{Net, Hyper}
use Rattle.hg_defs.proofs.SumLaws.{total-append}
use Rattle.contract_nets.specs.Nets.{all_nets}
use Rattle.contract_nets.specs.Merging.{added, merged, AreWithin}
use Rattle.contract_nets.specs.Keys.{Key, net_of_key}
use Rattle.contract_nets.specs.Cuts.{IsCut, IsEnd, AreEnds, AreCuts, part_of}
use Rattle.contract_nets.specs.declared.merging.MergedPart.{MergedPart}
use Rattle.contract_nets.specs.Parts.{IsMergedPart}
use Rattle.contract_nets.proofs.ImageLaws.{AreThere}
use Rattle.contract_nets.proofs.MappedLaws.{element_at}
use Rattle.contract_nets.proofs.NetLaws.{all_nets-take_more}
use Rattle.contract_nets.proofs.MergeLaws.{added_test, added_other, tied_from_different}

-- ---- nets that are merged by themselves

added_some : (w : ℕ) (ps : List ℕ) (nets : List Net) → 0 < length (added w ps nets)
added_some w ps [] = omega arith
added_some w ps (e ∷ nets) = by (is_eq (slice_cmp nat_cmp ps e.pins)) refl
  where
    by : (b : Bool) → is_eq (slice_cmp nat_cmp ps e.pins) ≡ b → 0 < length (added w ps (e ∷ nets))
    by true h = let same = ap length (added_test w ps e nets true h) in omega arith
    by false h = let same = ap length (added_test w ps e nets false h) in omega arith

merged_some : (xs : List Net) (e : Net) → 0 < length (merged (xs ++ e ∷ []))
merged_some [] e = omega arith
merged_some (x ∷ xs) e = added_some x.weight x.pins (merged (xs ++ e ∷ []))

added-append : (w : ℕ) (ps : List ℕ) (es ys : List Net) → 0 < length es → added w ps (es ++ ys) ≡ added w ps es ++ ys
added-append w ps [] ys h = absurd (omega arith)
added-append w ps (e ∷ es) ys h = by (is_eq (slice_cmp nat_cmp ps e.pins)) refl
  where
    by : (b : Bool) → is_eq (slice_cmp nat_cmp ps e.pins) ≡ b → added w ps (e ∷ (es ++ ys)) ≡ added w ps (e ∷ es) ++ ys
    by true k = added_test w ps e (es ++ ys) true k ∙ sym (ap (λ (zs : List Net). zs ++ ys) (added_test w ps e es true k))
    by false k = added_test w ps e (es ++ ys) false k ∙ sym (ap (λ (zs : List Net). zs ++ ys) (added_test w ps e es false k))

-- where two neighbours have different pins
merged_apart : (xs : List Net) (e f : Net) (ys : List Net) → (e.pins ≡ f.pins → ⊥) → merged (xs ++ e ∷ f ∷ ys) ≡ merged (xs ++ e ∷ []) ++ merged (f ∷ ys)
merged_apart [] e f ys o = added_other e.weight f.weight e.pins f.pins (merged ys) (tied_from_different e.pins f.pins o)
merged_apart (x ∷ xs) e f ys o =
    ap (added x.weight x.pins) (merged_apart xs e f ys o)
    ∙ added-append x.weight x.pins (merged (xs ++ e ∷ [])) (merged (f ∷ ys)) (merged_some xs e)

-- ---- keys up to a cut, and up to a later place

module _ (nets : Hyper) (keys : List Key) (a b : ℕ) (order : a ≤ b) (end : b ≤ length keys) where
  upto : take b keys ≡ take a keys ++ slice_range keys a b
  upto =
      let sum : a + (b - a) ≡ b = omega arith in
      sym (take-append-drop a (take b keys))
      ∙ ap₂ (λ (xs ys : List Key). xs ++ ys) (take-take a b keys order)
      (ap (λ (n : ℕ). drop a (take n keys)) (sym sum) ∙ drop-take a (b - a) keys)

  no_key : Key
  no_key = (0, 0)

  pub merged_cut : IsCut nets keys a → merged (map (net_of_key nets) (take b keys)) ≡ merged (map (net_of_key nets) (take a keys)) ++ merged
      (map (net_of_key nets) (slice_range keys a b))
  merged_cut cut = by (cases_lt 0 a) (cases_lt a b)
    where
      f : Key → Net
      f = net_of_key nets

      all : map f (take b keys) ≡ map f (take a keys) ++ map f (slice_range keys a b)
      all = ap (map f) upto ∙ map-append f (take a keys) (slice_range keys a b)

      by : (0 < a) ⊎ (a ≤ 0) → (a < b) ⊎ (b ≤ a) → merged (map f (take b keys)) ≡ merged (map f (take a keys)) ++ merged (map f (slice_range keys a b))
      by (inr none) t =
          let zero_at : a ≡ 0 = omega arith in
          ap merged all
          ∙ ap (λ (n : ℕ). merged (map f (take n keys) ++ map f (slice_range keys a b))) zero_at
          ∙ ap (λ (n : ℕ). merged (map f (take n keys)) ++ merged (map f (slice_range keys a b))) (sym zero_at)
      by (inl some) (inr same) =
          let empty : b - a ≡ 0 = omega arith in
          let no_more : slice_range keys a b ≡ [] = ap (λ (n : ℕ). take n (drop a keys)) empty in
          ap merged (all ∙ ap (λ (ks : List Key). map f (take a keys) ++ map f ks) no_more ∙ append-nil (map f (take a keys)))
          ∙ sym (append-nil (merged (map f (take a keys))))
          ∙ ap (λ (ks : List Key). merged (map f (take a keys)) ++ merged (map f ks)) (sym no_more)
      by (inl some) (inl more) =
          let before = get_or keys (a - 1) (0, 0) in
          let first = get_or keys a (0, 0) in
          let step : a - 1 + 1 ≡ a = omega arith in
          let low : take a keys ≡ take (a - 1) keys ++ before ∷ [] = ap (λ (n : ℕ). take n keys) (sym step) ∙ take_more keys (a - 1) (0, 0) (omega arith) in
          let rest = take (b - a - 1) (drop (a + 1) keys) in
          let size : b - a ≡ suc (b - a - 1) = omega arith in
          let high : slice_range keys a b ≡ first ∷ rest = ap₂ (λ (n : ℕ) (ks : List Key). take n ks) size (drop_more keys a (0, 0) (omega arith)) in
          let pushed : map f (take a keys) ≡ map f (take (a - 1) keys) ++ f before ∷ [] = ap (map f) low ∙ map-append f (take (a - 1) keys) (before ∷ []) in
          ap merged (all ∙ ap₂ (λ (xs ys : List Net). xs ++ ys) pushed (ap (map f) high)
          ∙ append_assoc (map f (take (a - 1) keys)) (f before ∷ []) (map f (first ∷ rest)))
          ∙ merged_apart (map f (take (a - 1) keys)) (f before) (f first) (map f rest) (cut some (omega arith) (0, 0))
          ∙ ap₂ (λ (xs ys : List Net). merged xs ++ merged ys) (sym pushed) (sym (ap (map f) high))

-- ---- ends up to a cut, and up to a later place

-- where two lists of keys are the same
IsEnd-moved : (nets : Hyper) (xs ys : List Key) (i j : ℕ) → (i + 1 < length xs → j + 1 < length ys) →
    (i + 1 < length xs → (d : Key) → get_or xs i d ≡ get_or ys j d) → (i + 1 < length xs → (d : Key) → get_or xs (i + 1) d ≡ get_or ys (j + 1) d) →
    IsEnd nets ys j → IsEnd nets xs i
IsEnd-moved nets xs ys i j there first second end more d same =
    end (there more) d (ap (λ (k : Key). (net_of_key nets k).pins) (sym (first more d)) ∙ same ∙ ap (λ (k : Key). (net_of_key nets k).pins) (second more d))

AreEnds-append : (nets : Hyper) (xs ys : List Key) (es fs : List Bool) → AreEnds nets xs es → AreEnds nets ys fs →
    ((i : ℕ) → i + 1 ≡ length xs → IsEnd nets (xs ++ ys) i) → AreEnds nets (xs ++ ys) (es ++ fs)
AreEnds-append nets xs ys es fs a b apart = record {
  count = length-append es fs ∙ ap₂ (λ (m n : ℕ). m + n) a.count b.count ∙ sym (length-append xs ys);
  each = λ i l. by i l (cases_lt (i + 1) (length xs)) (cases_lt i (length xs));
}
  where
    long : length (xs ++ ys) ≡ length xs + length ys
    long = length-append xs ys

    count : length es ≡ length xs
    count = a.count

    left : (k : ℕ) → k < length xs → (d : Key) → get_or (xs ++ ys) k d ≡ get_or xs k d
    left k l d = get_or_append_left xs ys d k l

    right : (k : ℕ) → length xs ≤ k → (d : Key) → get_or (xs ++ ys) k d ≡ get_or ys (k - length xs) d
    right k l d = get_or-append_right xs ys (length xs) k d refl l

    by : (i : ℕ) → i < length (xs ++ ys) → (i + 1 < length xs) ⊎ (length xs ≤ i + 1) → (i < length xs) ⊎ (length xs ≤ i) →
        IsTrue (slice_index_or (es ++ fs) i false) ↔ IsEnd nets (xs ++ ys) i
    by i l (inl m) c =
        let low : i < length xs = omega arith in
        subst (λ (e : Bool). IsTrue e ↔ IsEnd nets (xs ++ ys) i) (sym (get_or_append_left es fs false i (omega arith))) (
          λ t. IsEnd-moved nets (xs ++ ys) xs i i (λ _. m) (λ _. left i low) (λ _. left (i + 1) m) ((a.each i low).0 t),
          λ end. (a.each i low).1 (IsEnd-moved nets xs (xs ++ ys) i i (λ _. omega (arith, long, m)) (λ _ d. sym (left i low d))
              (λ _ d. sym (left (i + 1) m d)) end),
        )
    by i l (inr e) (inl low) =
        subst (λ (t : Bool). IsTrue t ↔ IsEnd nets (xs ++ ys) i) (sym (get_or_append_left es fs false i (omega arith))) (
          λ t. apart i (omega arith),
          λ end. (a.each i low).1 (λ more d same. omega (arith, e, more)),
        )
    by i l (inr e) (inr high) =
        let k = i - length xs in
        let low : k < length ys = omega (arith, long, l, high) in
        let next : i + 1 - length xs ≡ k + 1 = omega (arith, high) in
        let after : (d : Key) → get_or (xs ++ ys) (i + 1) d ≡ get_or ys (k + 1) d = λ d. right (i + 1) e d ∙ ap (λ (n : ℕ). get_or ys n d) next in
        subst (λ (t : Bool). IsTrue t ↔ IsEnd nets (xs ++ ys) i)
        (sym (get_or-append_right es fs (length xs) i false count high)) (
          λ t. IsEnd-moved nets (xs ++ ys) ys i k (λ more. omega (arith, long, high, more)) (λ _. right i high) (λ _. after) ((b.each k low).0 t),
          λ end. (b.each k low).1 (IsEnd-moved nets ys (xs ++ ys) k i (λ more. omega (arith, long, high, more)) (λ _ d. sym (right i high d))
              (λ _ d. sym (after d)) end),
        )

AreEnds-cut : (nets : Hyper) (keys : List Key) (a b : ℕ) → a ≤ b → b ≤ length keys → IsCut nets keys a → (es fs : List Bool) →
    AreEnds nets (take a keys) es → AreEnds nets (slice_range keys a b) fs → AreEnds nets (take b keys) (es ++ fs)
AreEnds-cut nets keys a b order end cut es fs front back =
    let is = upto nets keys a b order end in
    subst (λ (ks : List Key). AreEnds nets ks (es ++ fs)) (sym is) (AreEnds-append nets (take a keys) (slice_range keys a b) es fs front back
    (λ i at. subst (λ (ks : List Key). IsEnd nets ks i) is (λ more d same.
    let low = length-take-le a keys (omega arith) in
    let all = length-take-le b keys end in
    let before : a - 1 ≡ i = omega arith in
    let here : i + 1 ≡ a = omega arith in
    let some : 0 < a = omega arith in
    let within : a < length keys = omega arith in
    cut some within d (ap (λ (n : ℕ). (net_of_key nets (get_or keys n d)).pins) before
    ∙ ap (λ (k : Key). (net_of_key nets k).pins) (sym (get_or-take b keys i d (omega arith)))
    ∙ same
    ∙ ap (λ (k : Key). (net_of_key nets k).pins) (get_or-take b keys (i + 1) d (omega arith))
    ∙ ap (λ (n : ℕ). (net_of_key nets (get_or keys n d)).pins) here))))

-- ---- all parts

module _ (nets : Hyper) (keys : List Key) (cuts : List ℕ) (are : AreCuts nets keys (length keys) cuts) where
  all_before : (lists : List (List Net)) → length lists + 1 ≡ length cuts → ((j : ℕ) → j < length lists → get_or lists j [] ≡ part_of nets keys cuts j) →
      (j : ℕ) → j ≤ length lists
      → all_nets (take j lists) ≡ merged (map (net_of_key nets) (take (slice_index cuts j) keys))
  all_before lists long each zero l = sym (ap (λ (n : ℕ). merged (map (net_of_key nets) (take n keys))) are.first)
  all_before lists long each (suc j) l =
      let next : suc j ≡ j + 1 = omega arith in
      ap (λ (n : ℕ). all_nets (take n lists)) next
      ∙ all_nets-take_more lists j (omega arith)
      ∙ ap₂ (λ (xs ys : List Net). xs ++ ys) (all_before lists long each j (omega arith)) (each j (omega arith))
      ∙ sym (merged_cut nets keys (slice_index cuts j) (slice_index cuts (j + 1)) (are.rising j (omega arith)) (are.within (j + 1) (omega arith))
      (are.each j (omega arith)))
      ∙ ap (λ (n : ℕ). merged (map (net_of_key nets) (take (slice_index cuts n) keys))) (sym next)

  pub all_parts : (lists : List (List Net)) → length lists + 1 ≡ length cuts → ((j : ℕ) → j < length lists → get_or lists j [] ≡ part_of nets keys cuts j) →
      all_nets lists ≡ merged (map (net_of_key nets) keys)
  all_parts lists long each =
      let at : length lists ≡ length cuts - 1 = omega arith in
      ap all_nets (sym (take_all (length lists) lists (omega arith)))
      ∙ all_before lists long each (length lists) (omega arith)
      ∙ ap (λ (n : ℕ). merged (map (net_of_key nets) (take (slice_index cuts n) keys))) at
      ∙ ap (λ (n : ℕ). merged (map (net_of_key nets) (take n keys))) are.last
      ∙ ap (λ (ks : List Key). merged (map (net_of_key nets) ks)) (take_all (length keys) keys (omega arith))

  -- a part is within the limits
  pub part_within : (j : ℕ) → j + 1 < length cuts → AreWithin (merged (map (net_of_key nets) keys)) → AreWithin (part_of nets keys cuts j)
  part_within j l within =
      let f = net_of_key nets in
      let a = slice_index cuts j in
      let b = slice_index cuts (j + 1) in
      let inside = are.within (j + 1) l in
      let low = merged (map f (take a keys)) in
      let here = part_of nets keys cuts j in
      let high = merged (map f (slice_range keys b (length keys))) in
      let one = merged_cut nets keys a b (are.rising j l) inside (are.each j (omega arith)) in
      let two = merged_cut nets keys b (length keys) inside (omega arith) (are.each (j + 1) l) in
      let all : merged (map f keys) ≡ low ++ here ++ high =
      ap (λ (ks : List Key). merged (map f ks)) (sym (take_all (length keys) keys (omega arith))) ∙ two ∙ ap (λ (xs : List Net). xs ++ high) one in
      let n = ap length all in
      let n2 = length-append (low ++ here) high in
      let n3 = length-append low here in
      let p = ap (total (λ (e : Net). length e.pins)) all in
      let p2 = total-append (λ (e : Net). length e.pins) (low ++ here) high in
      let p3 = total-append (λ (e : Net). length e.pins) low here in
      let w = ap (total (λ (e : Net). e.weight)) all in
      let w2 = total-append (λ (e : Net). e.weight) (low ++ here) high in
      let w3 = total-append (λ (e : Net). e.weight) low here in
      let c = within.count in
      let d = within.pins in
      let e = within.weight in
      record { count = omega arith; pins = omega arith; weight = omega arith }

-- the ends of parts, one part after the other
abbrev pub joined_ends : List MergedPart → List Bool
joined_ends parts = flat_map (λ (p : MergedPart). p.ends.items) parts

pub joined_ends-push : (parts : List MergedPart) (one : MergedPart) → joined_ends (parts ++ one ∷ []) ≡ joined_ends parts ++ one.ends.items
joined_ends-push parts one =
    flat_map-append (λ (p : MergedPart). p.ends.items) parts (one ∷ []) ∙ ap (λ (es : List Bool). joined_ends parts ++ es) (append-nil one.ends.items)

-- where each result is the merged part of its number
module _ {E : Type 0} (nets : Hyper) (keys : List Key) (cuts : List ℕ) (are : AreCuts nets keys (length keys) cuts) (results : List (Result MergedPart E))
    (parts : List MergedPart) (there : AreThere results parts) (long : length results + 1 ≡ length cuts)
    (each : (j : ℕ) (d : Result MergedPart E) → j < length results → IfOk (get_or results j d) (IsMergedPart nets keys cuts j)) where
  IsMergedPart-at : (j : ℕ) (d : MergedPart) → j < length parts → IsMergedPart nets keys cuts j (get_or parts j d)
  IsMergedPart-at j d l =
      let low : j < length results = (let same = there.long in omega arith) in
      subst (λ (r : Result MergedPart E). IfOk r (IsMergedPart nets keys cuts j)) (there.each j (Ok d) d low) (each j (Ok d) low)

  pub nets_there : all_nets (map (λ (p : MergedPart). p.nets) parts) ≡ merged (map (net_of_key nets) keys)
  nets_there =
      let same = there.long in
      let count = length-map parts (λ (p : MergedPart). p.nets) in
      all_parts nets keys cuts are (map (λ (p : MergedPart). p.nets) parts) (omega arith) (λ j l.
      let low : j < length parts = omega arith in
      let one = element_at parts j low in
      get_or-map (λ (p : MergedPart). p.nets) parts j one [] low ∙ (IsMergedPart-at j one low).nets)

  ends_taken : (t : ℕ) → t ≤ length parts → AreEnds nets (take (slice_index cuts t) keys) (joined_ends (take t parts))
  ends_taken zero l =
      subst (λ (n : ℕ). AreEnds nets (take n keys) []) (sym are.first) (record { count = refl; each = λ i low. absurd (omega arith) })
  ends_taken (suc t) l =
      let same = there.long in
      let low : t < length parts = omega arith in
      let one = element_at parts t low in
      let last = get_or parts t one in
      let next : t + 1 ≡ suc t = omega arith in
      subst (λ (n : ℕ). AreEnds nets (take (slice_index cuts n) keys) (joined_ends (take n parts))) next
      (subst (AreEnds nets (take (slice_index cuts (t + 1)) keys)) (sym (ap joined_ends (take_more parts t one low) ∙ joined_ends-push (take t parts) last))
      (AreEnds-cut nets keys (slice_index cuts t) (slice_index cuts (t + 1)) (are.rising t (omega arith)) (are.within (t + 1) (omega arith))
      (are.each t (omega arith)) (joined_ends (take t parts)) last.ends.items (ends_taken t (omega arith)) (IsMergedPart-at t one low).ends))

  pub ends_there : AreEnds nets keys (joined_ends parts)
  ends_there =
      let same = there.long in
      let at : length parts ≡ length cuts - 1 = omega arith in
      subst (λ (ks : List Key). AreEnds nets ks (joined_ends parts)) (take_all (length keys) keys (omega arith))
      (subst (λ (n : ℕ). AreEnds nets (take n keys) (joined_ends parts)) (ap (slice_index cuts) at ∙ are.last)
      (subst (λ (ps : List MergedPart). AreEnds nets (take (slice_index cuts (length parts)) keys) (joined_ends ps))
      (take_all (length parts) parts (omega arith)) (ends_taken (length parts) (omega arith))))
