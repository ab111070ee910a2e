-- Laws of merging equal neighbours.
use Rattle.std.proofs.Common.{◌≡◌, ◌≢◌, ℕ, ◌+◌, ◌<◌, ◌≤◌, ◌^◌, ◌⊎◌, inl, inr, ⊎_elim, Bool, true, false, true≢false, if◌then◌else◌}
use Rattle.std.proofs.Common.{List, [], ◌∷◌, ◌++◌, length, map, take, drop, length-append, get_or, slice_index, slice_set, All, nat_cmp, is_eq}
use Rattle.std.proofs.Common.{IsTrue, ◌↔◌, slice_index_or, refl, sym, ap, ◌∙◌, subst, arith}
use Rattle.std.proofs.lemmas.Bool.{cases_lt, cases_eq}
use Rattle.std.proofs.lemmas.Cmp.{tied_itself}
use Rattle.std.proofs.lemmas.List.{append_assoc, append-nil, length-map, map-append, get_or-append-add, get_or_default, drop_more, drop_all}
use Rattle.std.proofs.lemmas.List.{length_push, get_or_push, get_or_append_left, get_or-set_same, get_or-set_other}
use Rattle.std.proofs.lemmas.List.Elements.{All-more, All-weaker}
use Rattle.std.specs.Cmp.{Equal-is}
use Rattle.std.specs.Cmp.Lexicographic.{slice_cmp}
use Rattle.hg_defs.specs.Sums.{total}
use Rattle.hg_defs.specs.Hypergraph.{Net, Hyper, net_of}
use Rattle.hg_defs.proofs.SumLaws.{total-append}
use Rattle.hg_defs.proofs.SortLaws.{lists_cmp_total, lists_exact}
use Rattle.contract_nets.specs.declared.ledger.TheConstants.{DROPPED}
use Rattle.contract_nets.specs.Merging.{added, merged, AreWithin, HasPinsAt, ArePlaces}
use Rattle.contract_nets.specs.Keys.{Key, net_of_key, IsKey}
use Rattle.contract_nets.specs.Cuts.{IsEnd, AreEnds}

abbrev before : ℕ → List ℕ → List Net → List Net
before w ps nets = record { weight = w; pins = ps } ∷ nets

same_pins : (ps : List ℕ) → is_eq (slice_cmp nat_cmp ps ps) ≡ true
same_pins ps = ap is_eq (tied_itself lists_cmp_total ps)

pub added_test : (w : ℕ) (ps : List ℕ) (e : Net) (nets : List Net) (b : Bool) → is_eq (slice_cmp nat_cmp ps e.pins) ≡ b
    → added w ps (e ∷ nets) ≡ (if b then record { weight = w + e.weight; pins = ps } ∷ nets else record { weight = w; pins = ps } ∷ e ∷ nets)
added_test w ps e nets b h = ap (λ (t : Bool). if t then before (w + e.weight) ps nets else before w ps (e ∷ nets)) h

-- a net with the pins of the next one
pub added_same : (w v : ℕ) (ps : List ℕ) (nets : List Net) → added w ps (added v ps nets) ≡ added (w + v) ps nets
added_same w v ps [] = added_test w ps (record { weight = v; pins = ps }) [] true (same_pins ps)
added_same w v ps (e ∷ nets) = by (is_eq (slice_cmp nat_cmp ps e.pins)) refl
  where
    by : (b : Bool) → is_eq (slice_cmp nat_cmp ps e.pins) ≡ b → added w ps (added v ps (e ∷ nets)) ≡ added (w + v) ps (e ∷ nets)
    by true h =
        ap (added w ps) (added_test v ps e nets true h)
        ∙ added_test w ps (record { weight = v + e.weight; pins = ps }) nets true (same_pins ps)
        ∙ ap (λ (x : ℕ). before x ps nets) (let f = e.weight in let q : w + (v + f) ≡ w + v + f = omega arith in q)
        ∙ sym (added_test (w + v) ps e nets true h)
    by false h =
        ap (added w ps) (added_test v ps e nets false h)
        ∙ added_test w ps (record { weight = v; pins = ps }) (e ∷ nets) true (same_pins ps)
        ∙ sym (added_test (w + v) ps e nets false h)

-- a net with other pins than the next one
pub added_other : (w v : ℕ) (ps qs : List ℕ) (nets : List Net) → is_eq (slice_cmp nat_cmp ps qs) ≡ false → added w ps (added v qs nets) ≡ record {
  weight = w;
  pins = ps;
} ∷ added v qs nets
added_other w v ps qs [] h = added_test w ps (record { weight = v; pins = qs }) [] false h
added_other w v ps qs (e ∷ nets) h = by (is_eq (slice_cmp nat_cmp qs e.pins)) refl
  where
    by : (b : Bool) → is_eq (slice_cmp nat_cmp qs e.pins) ≡ b → added w ps (added v qs (e ∷ nets)) ≡ record { weight = w; pins = ps } ∷
        added v qs (e ∷ nets)
    by true k =
        ap (added w ps) (added_test v qs e nets true k)
        ∙ added_test w ps (record { weight = v + e.weight; pins = qs }) nets false h
        ∙ ap (before w ps) (sym (added_test v qs e nets true k))
    by false k =
        ap (added w ps) (added_test v qs e nets false k)
        ∙ added_test w ps (record { weight = v; pins = qs }) (e ∷ nets) false h
        ∙ ap (before w ps) (sym (added_test v qs e nets false k))

-- the weights of the first nets and of the next one are among all
pub weight_of_next : (w v : ℕ) (ps qs : List ℕ) (nets : List Net) → total (λ (e : Net). e.weight) (added w ps (added v qs nets)) ≡ w + v + total
    (λ (e : Net). e.weight) nets
weight_of_next w v ps qs nets = let a = weight_added w ps (added v qs nets) in let b = weight_added v qs nets in omega arith
  where
    weight_added : (x : ℕ) (rs : List ℕ) (es : List Net) → total (λ (e : Net). e.weight) (added x rs es) ≡ x + total (λ (e : Net). e.weight) es
    weight_added x rs [] = refl
    weight_added x rs (e ∷ es) = by (is_eq (slice_cmp nat_cmp rs e.pins)) refl
      where
        by : (b : Bool) → is_eq (slice_cmp nat_cmp rs e.pins) ≡ b → total (λ (e : Net). e.weight) (added x rs (e ∷ es)) ≡ x + total (λ (e : Net). e.weight)
            (e ∷ es)
        by true h = ap (total (λ (e : Net). e.weight)) (added_test x rs e es true h) ∙ (let t = total (λ (e : Net). e.weight) es in let f = e.weight in
            let q : x + f + t ≡ x + (f + t) = omega arith in q)
        by false h = ap (total (λ (e : Net). e.weight)) (added_test x rs e es false h)

pub tied_from_different : (ps qs : List ℕ) → (ps ≡ qs → ⊥) → is_eq (slice_cmp nat_cmp ps qs) ≡ false
tied_from_different ps qs h = by (is_eq (slice_cmp nat_cmp ps qs)) refl
  where
    by : (b : Bool) → is_eq (slice_cmp nat_cmp ps qs) ≡ b → b ≡ false
    by true e = absurd (h (lists_exact ps qs ((Equal-is (slice_cmp nat_cmp ps qs)).0 e)))
    by false e = refl

-- ---- the loop

abbrev pub pins : Hyper → Key → List ℕ
pins nets key = (net_of nets key.1).pins

-- the nets that are still to be made of keys, where the first one weighs so much more
abbrev pub pending : Hyper → ℕ → List Key → List Net
pending nets weight [] = []
pending nets weight (key ∷ keys) = added weight (pins nets key) (merged (map (net_of_key nets) (key ∷ keys)))

-- some nets were made, and those to come are made of the keys from i on
abbrev pub IsMerging : Hyper → List Key → ℕ → List Net → ℕ → Type 0
IsMerging nets keys i made weight = made ++ pending nets weight (drop i keys) ≡ merged (map (net_of_key nets) keys)

pub IsMerging-start : (nets : Hyper) (keys : List Key) → pending nets 0 keys ≡ merged (map (net_of_key nets) keys)
IsMerging-start nets [] = refl
IsMerging-start nets (key ∷ keys) =
    let n = net_of nets key.1 in
    let rest = merged (map (net_of_key nets) keys) in
    added_same 0 n.weight n.pins rest
    ∙ ap (λ (w : ℕ). added w n.pins rest) (let w = n.weight in let z : 0 + w ≡ w = omega arith in z)

pub IsMerging-end : (nets : Hyper) (keys : List Key) (i : ℕ) (made : List Net) (weight : ℕ) → IsMerging nets keys i made weight → length keys ≤ i →
    made ≡ merged (map (net_of_key nets) keys)
IsMerging-end nets keys i made weight m h =
    sym (append-nil made) ∙ ap (λ (ks : List Key). made ++ pending nets weight ks) (sym (drop_all i keys h)) ∙ m

first_net : (w : ℕ) (ps : List ℕ) (nets : List Net) → (v : ℕ) × (rest : List Net) × (added w ps nets ≡ before v ps rest)
first_net w ps [] = (w, [], refl)
first_net w ps (e ∷ nets) = by (is_eq (slice_cmp nat_cmp ps e.pins)) refl
  where
    by : (b : Bool) → is_eq (slice_cmp nat_cmp ps e.pins) ≡ b → (v : ℕ) × (rest : List Net) × (added w ps (e ∷ nets) ≡ before v ps rest)
    by true h = (w + e.weight, nets, added_test w ps e nets true h)
    by false h = (w, e ∷ nets, added_test w ps e nets false h)

module _ (nets : Hyper) (keys : List Key) (i : ℕ) (low : i < length keys) where
  -- what holds at one default holds at each
  pub IsEnd-from : (i + 1 < length keys → pins nets (get_or keys i (0, 0)) ≢ pins nets (get_or keys (i + 1) (0, 0))) → IsEnd nets keys i
  IsEnd-from h more d same =
      h more (ap (pins nets) (get_or_default keys i (0, 0) d low) ∙ same ∙ ap (pins nets) (get_or_default keys (i + 1) d (0, 0) more))

  -- a key that doesn't end its net has the pins of the next one
  pub same_from_inner : (IsEnd nets keys i → ⊥) → (i + 1 < length keys) × (pins nets (get_or keys i (0, 0)) ≡ pins nets (get_or keys (i + 1) (0, 0)))
  same_from_inner inner = (
    ⊎_elim (λ (m : i + 1 < length keys). m) (λ (e : length keys ≤ i + 1). absurd (inner (λ m d same. omega (arith, e, m)))) (cases_lt (i + 1) (length keys)),
    by (is_eq (slice_cmp nat_cmp ps qs)) refl,
  )
    where
      ps : List ℕ
      ps = pins nets (get_or keys i (0, 0))

      qs : List ℕ
      qs = pins nets (get_or keys (i + 1) (0, 0))

      by : (b : Bool) → is_eq (slice_cmp nat_cmp ps qs) ≡ b → ps ≡ qs
      by true e = lists_exact ps qs ((Equal-is (slice_cmp nat_cmp ps qs)).0 e)
      by false e =
          absurd (inner (IsEnd-from (λ more same. true≢false (sym (ap (λ (rs : List ℕ). is_eq (slice_cmp nat_cmp ps rs)) (sym same)
          ∙ same_pins ps) ∙ e))))

module _ (nets : Hyper) (keys : List Key) (i : ℕ) (made : List Net) (weight : ℕ) (m : IsMerging nets keys i made weight) (low : i < length keys) where
  abbrev pub key : Key
  key = get_or keys i (0, 0)

  abbrev pub heavier : ℕ
  heavier = weight + (net_of nets key.1).weight

  abbrev pub finished : Net
  finished = record { weight = heavier; pins = pins nets key }

  next : drop i keys ≡ key ∷ drop (i + 1) keys
  next = drop_more keys i (0, 0) low

  whole : made ++ pending nets weight (key ∷ drop (i + 1) keys) ≡ merged (map (net_of_key nets) keys)
  whole = ap (λ (ks : List Key). made ++ pending nets weight ks) (sym next) ∙ m

  -- the weight of the key's net is added
  counted : made ++ added heavier (pins nets key) (merged (map (net_of_key nets) (drop (i + 1) keys))) ≡ merged (map (net_of_key nets) keys)
  counted =
      ap (λ (es : List Net). made ++ es)
      (sym (added_same weight (net_of nets key.1).weight (pins nets key) (merged (map (net_of_key nets) (drop (i + 1) keys)))))
      ∙ whole

  -- the next net to be made has the place of those that were made
  pub place_of_next : HasPinsAt (map (λ e. e.pins) (merged (map (net_of_key nets) keys))) (length made) (pins nets key)
  place_of_next =
      let f = first_net heavier (pins nets key) (merged (map (net_of_key nets) (drop (i + 1) keys))) in
      let one : List ℕ = pins nets key in
      let rest = map (λ (e : Net). e.pins) f.1 in
      let front = map (λ (e : Net). e.pins) made in
      let is : front ++ one ∷ rest ≡ map (λ (e : Net). e.pins) (merged (map (net_of_key nets) keys)) =
      sym (map-append (λ (e : Net). e.pins) made (before f.0 one f.1))
      ∙ ap (map (λ (e : Net). e.pins)) (ap (λ (es : List Net). made ++ es) (sym f.2) ∙ counted)
      in
      let long = length-map made (λ (e : Net). e.pins) in
      let all = length-append front (one ∷ rest) in
      let at : length made ≡ length front + 0 = omega arith in
      subst (λ (ls : List (List ℕ)). HasPinsAt ls (length made) one) is (record {
        below = omega arith;
        pins_are = ap (λ (n : ℕ). get_or (front ++ one ∷ rest) n []) at ∙ get_or-append-add front (one ∷ rest) 0 [];
      })

  -- the net goes on with the next key
  pub IsMerging-more : (IsEnd nets keys i → ⊥) → IsMerging nets keys (i + 1) made heavier
  IsMerging-more inner =
      let same = same_from_inner nets keys i low inner in
      let after = get_or keys (i + 1) (0, 0) in
      let later_on = drop_more keys (i + 1) (0, 0) same.0 in
      ap (λ (ks : List Key). made ++ pending nets heavier ks) later_on
      ∙ ap (λ (ps : List ℕ). made ++ added heavier ps (merged (map (net_of_key nets) (after ∷ drop (i + 1 + 1) keys)))) (sym same.1)
      ∙ ap (λ (ks : List Key). made ++ added heavier (pins nets key) (merged (map (net_of_key nets) ks))) (sym later_on)
      ∙ counted

  module _ (end : IsEnd nets keys i) where
    apart : added heavier (pins nets key) (merged (map (net_of_key nets) (drop (i + 1) keys))) ≡ finished ∷ pending nets 0 (drop (i + 1) keys)
    apart = by (cases_lt (i + 1) (length keys))
      where
        by : (i + 1 < length keys) ⊎ (length keys ≤ i + 1) → added heavier (pins nets key) (merged (map (net_of_key nets) (drop (i + 1) keys)))
            ≡ finished ∷ pending nets 0 (drop (i + 1) keys)
        by (inl more) =
            let after = get_or keys (i + 1) (0, 0) in
            let later = drop (i + 1 + 1) keys in
            let later_on = drop_more keys (i + 1) (0, 0) more in
            ap (λ (ks : List Key). added heavier (pins nets key) (merged (map (net_of_key nets) ks))) later_on
            ∙ added_other heavier (net_of nets after.1).weight (pins nets key) (pins nets after) (merged (map (net_of_key nets) later))
            (tied_from_different _ _ (end more (0, 0)))
            ∙ ap (λ (es : List Net). finished ∷ es) (sym (IsMerging-start nets (after ∷ later)))
            ∙ ap (λ (ks : List Key). finished ∷ pending nets 0 ks) (sym later_on)
        by (inr none) =
            let no_more = drop_all (i + 1) keys none in
            ap (λ (ks : List Key). added heavier (pins nets key) (merged (map (net_of_key nets) ks))) no_more
            ∙ ap (λ (ks : List Key). finished ∷ pending nets 0 ks) (sym no_more)

    split : made ++ finished ∷ pending nets 0 (drop (i + 1) keys) ≡ merged (map (net_of_key nets) keys)
    split = ap (λ (es : List Net). made ++ es) (sym apart) ∙ counted

    -- the net is finished
    pub IsMerging-finished : IsMerging nets keys (i + 1) (made ++ finished ∷ []) 0
    IsMerging-finished = append_assoc made (finished ∷ []) (pending nets 0 (drop (i + 1) keys)) ∙ split

    pub few_pins : AreWithin (merged (map (net_of_key nets) keys)) → total (λ (e : Net). length e.pins) made + length (pins nets key) < 2 ^ 32
    few_pins within =
        let a = total-append (λ (e : Net). length e.pins) made (finished ∷ pending nets 0 (drop (i + 1) keys)) in
        let b = ap (total (λ (e : Net). length e.pins)) split in
        let l = within.pins in
        omega arith

  module _ (within : AreWithin (merged (map (net_of_key nets) keys))) where
    pub weight_fits : heavier < 2 ^ 54
    weight_fits =
        let rest = merged (map (net_of_key nets) (drop (i + 1) keys)) in
        let w = (net_of nets key.1).weight in
        let a = total-append (λ (e : Net). e.weight) made (added weight (pins nets key) (added w (pins nets key) rest)) in
        let b = weight_of_next weight w (pins nets key) (pins nets key) rest in
        let e = ap (total (λ (n : Net). n.weight)) whole in
        let l = within.weight in
        omega arith

    pub count_made : length made < 2 ^ 22
    count_made =
        let there = place_of_next in
        let below = there.below in
        let n = length-map (merged (map (net_of_key nets) keys)) (λ (e : Net). e.pins) in
        let l = within.count in
        omega arith

-- ---- ends

-- an entry for each key before i
pub record AreEndsUpto (nets : Hyper) (keys : List Key) (i : ℕ) (ends : List Bool) : Type 0 where
  pub count : length ends ≡ i
  pub each : (j : ℕ) → j < i → IsTrue (slice_index_or ends j false) ↔ IsEnd nets keys j

pub AreEndsUpto-start : (nets : Hyper) (keys : List Key) → AreEndsUpto nets keys 0 []
AreEndsUpto-start nets keys = record { count = refl; each = λ j l. absurd (omega arith) }

pub AreEndsUpto-more : (nets : Hyper) (keys : List Key) (i : ℕ) (ends : List Bool) (end : Bool) → AreEndsUpto nets keys i ends →
    IsTrue end ↔ IsEnd nets keys i → AreEndsUpto nets keys (i + 1) (ends ++ end ∷ [])
AreEndsUpto-more nets keys i ends end old is = record {
  count = length_push ends end ∙ ap (λ (n : ℕ). n + 1) old.count;
  each = λ j l. by j l (cases_lt j i);
}
  where
    by : (j : ℕ) → j < i + 1 → (j < i) ⊎ (i ≤ j) → IsTrue (slice_index_or (ends ++ end ∷ []) j false) ↔ IsEnd nets keys j
    by j l (inl low) =
        subst (λ (b : Bool). IsTrue b ↔ IsEnd nets keys j)
        (sym (get_or_append_left ends (end ∷ []) false j (let c = old.count in omega arith))) (old.each j low)
    by j l (inr high) =
        let same : j ≡ i = omega arith in
        subst (λ (n : ℕ). IsTrue (slice_index_or (ends ++ end ∷ []) n false) ↔ IsEnd nets keys n) (sym same)
        (subst (λ (b : Bool). IsTrue b ↔ IsEnd nets keys i) (sym (get_or_push ends end false i old.count)) is)

pub AreEnds-all : (nets : Hyper) (keys : List Key) (i : ℕ) (ends : List Bool) → AreEndsUpto nets keys i ends → i ≡ length keys → AreEnds nets keys ends
AreEnds-all nets keys i ends are same = record { count = are.count ∙ same; each = λ j l. are.each j (omega arith) }

-- ---- places

-- the keys before i have the places of the nets with their pins
pub record IsPlacing (nets : Hyper) (keys : List Key) (lists : List (List ℕ)) (i : ℕ) (places : List ℕ) : Type 0 where
  pub placed : ArePlaces nets.nets lists places
  pub all : All (λ key. slice_index places key.1 ≢ DROPPED) (take i keys)

pub IsPlacing-start : (nets : Hyper) (keys : List Key) (lists : List (List ℕ)) (places : List ℕ)
    → ((e : ℕ) → e < length nets.nets → slice_index places e ≡ DROPPED) → IsPlacing nets keys lists 0 places
IsPlacing-start nets keys lists places dropped = record {
  placed = λ e l other. absurd (other (dropped e l));
  all = λ k d l. absurd (omega arith);
}

module _ (nets : Hyper) (keys : List Key) (lists : List (List ℕ)) (i : ℕ) (places : List ℕ) (p : IsPlacing nets keys lists i places) (low : i < length keys)
    (is : IsKey nets (get_or keys i (0, 0))) (number : ℕ) (there : HasPinsAt lists number (pins nets (get_or keys i (0, 0)))) (few : number < 2 ^ 22)
    (long : length places ≡ length nets.nets) where
  e : ℕ
  e = (get_or keys i (0, 0)).1

  written : (u : ℕ) → u ≡ e → slice_index (slice_set places e number) u ≡ number
  unfolding e
  written u same =
      let k = is.net in
      let b : e < length places = omega arith in
      ap (slice_index (slice_set places e number)) same ∙ get_or-set_same places e number 0 b

  kept : (u : ℕ) → u ≢ e → slice_index (slice_set places e number) u ≡ slice_index places u
  kept u o = get_or-set_other places e u number 0 o

  known : (u : ℕ) → slice_index places u ≢ DROPPED → slice_index (slice_set places e number) u ≢ DROPPED
  known u was gone =
      ⊎_elim
      (λ (same : u ≡ e). let w = written u same in absurd (omega arith))
      (λ (o : u ≢ e). was (sym (kept u o) ∙ gone))
      (cases_eq u e)

  -- a key gets the place of its pins
  pub IsPlacing-more : IsPlacing nets keys lists (i + 1) (slice_set places (get_or keys i (0, 0)).1 number)
  unfolding e
  IsPlacing-more = record {
    placed = λ u l other.
        ⊎_elim
        (λ (same : u ≡ e).
        subst (λ (x : ℕ). HasPinsAt lists x (net_of nets u).pins) (sym (written u same))
        (subst (λ (x : ℕ). HasPinsAt lists number (net_of nets x).pins) (sym same) there))
        (λ (o : u ≢ e).
        subst (λ (x : ℕ). HasPinsAt lists x (net_of nets u).pins) (sym (kept u o))
        (p.placed u l (λ gone. other (kept u o ∙ gone))))
        (cases_eq u e);
    all =
        All-more (λ (k : Key). slice_index (slice_set places e number) k.1 ≢ DROPPED) keys i (0, 0) low
        (All-weaker (λ (k : Key). slice_index places k.1 ≢ DROPPED) (λ (k : Key). slice_index (slice_set places e number) k.1 ≢ DROPPED)
        (λ k. known k.1) (take i keys) p.all)
        (λ gone. let w = written e refl in absurd (omega arith));
  }
