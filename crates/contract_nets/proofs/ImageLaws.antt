-- Laws of images, list after list, in parts of a size.
use Rattle.std.proofs.Common.{◌≡◌, ℕ, ◌+◌, ◌-◌, ◌*◌, ◌/◌, ◌%◌, ◌<◌, ◌≤◌, ◌⊎◌, inl, inr, List, [], ◌∷◌, ◌++◌, length, map, take, drop, get_or}
use Rattle.std.proofs.Common.{slice_index, slice_range, All, nat_cmp, Result, Ok, refl, sym, ap, ap₂, ◌∙◌, subst, arith}
use Rattle.std.proofs.Math.Nat.{mod-add-div, mod-lt, mul_comm, div-lt_iff_lt-mul}
use Rattle.std.proofs.lemmas.Bool.{cases_lt}
use Rattle.std.proofs.lemmas.Cmp.{nat_cmp_total}
use Rattle.std.proofs.lemmas.List.{length-replicate, get_or_default, get_or_append_left, get_or_push, length_push, length-append, length-map, get_or-map}
use Rattle.std.proofs.lemmas.List.{append-nil, drop-append-le, take-append-le, length-drop, drop_at, take_all}
use Rattle.std.proofs.lemmas.List.Elements.{All-contains, Contains-get_or}
use Rattle.std.specs.Iterator.{Yields}
use Rattle.std.specs.Vec.Iter.{into_iter_items, into_iter_steps}
use Rattle.std.specs.declared.vec.IntoIter.{IntoIter}
use Rattle.hg_defs.specs.Sums.{total}
use Rattle.hg_defs.specs.Hypergraph.{Net, Hyper, vertex_count, net_count, net_of, IsHypergraph}
use Rattle.hg_defs.specs.Contraction.{image}
use Rattle.hg_defs.specs.Clustering.{cluster_count}
use Rattle.hg_defs.proofs.NumberingLaws.{below_count}
use Rattle.hg_defs.proofs.SumLaws.{total-take_more}
use Rattle.hg_defs.proofs.SortLaws.{nat_cmp_exact, length-set_of-le, Contains-from_set_of}
use Rattle.contract_nets.specs.Merging.{mapped_net}
use Rattle.contract_nets.specs.Images.{over, Lists, HasListAt, ArePartsOf}

-- a part of a list stays as more is appended
slice_range-append : (ps qs : List ℕ) (a b : ℕ) → a ≤ b → b ≤ length ps → slice_range (ps ++ qs) a b ≡ slice_range ps a b
slice_range-append ps qs a b h k =
    let l = length-drop a ps in
    ap (take (b - a)) (drop-append-le a ps qs (omega arith)) ∙ take-append-le (b - a) (drop a ps) qs (omega arith)

-- what was appended
slice_range_appended : (ps qs : List ℕ) (a b : ℕ) → a ≡ length ps → b ≡ length ps + length qs → slice_range (ps ++ qs) a b ≡ qs
slice_range_appended ps qs a b h k =
    ap (take (b - a)) (drop_at ps qs a (sym h)) ∙ take_all (b - a) qs (omega arith)

-- the images of n nets from a number on
pub record AreLists (h : Hyper) (cs : List ℕ) (from n : ℕ) (starts pins : List ℕ) : Type 0 where
  pub long : length starts ≡ n + 1
  pub last : slice_index starts n ≡ length pins
  pub few : length pins ≤ total (λ e. length e.pins) (take (from + n) h.nets)
  pub each : (i : ℕ) → i < n → HasListAt (record { starts = starts; pins = pins }) i (image cs (net_of h (from + i)))

pub AreLists-start : (h : Hyper) (cs : List ℕ) (from : ℕ) → AreLists h cs from 0 (0 ∷ []) []
AreLists-start h cs from = record {
  long = refl;
  last = refl;
  few = omega arith;
  each = λ i l. absurd (omega arith);
}

module _ (h : Hyper) (cs : List ℕ) (from n : ℕ) (starts pins more : List ℕ) (place : ℕ) (old : AreLists h cs from n starts pins)
    (below : from + n < net_count h) (is : more ≡ image cs (net_of h (from + n))) (end : place ≡ length pins + length more) where
  earlier_list : (i : ℕ) → i < n → HasListAt (record { starts = starts ++ place ∷ []; pins = pins ++ more }) i (image cs (net_of h (from + i)))
  earlier_list i l =
      let one = old.each i l in
      let long = old.long in
      let grown = length_push starts place in
      let more_pins = length-append pins more in
      let a = get_or_append_left starts (place ∷ []) 0 i (omega arith) in
      let b = get_or_append_left starts (place ∷ []) 0 (i + 1) (omega arith) in
      let order = one.order in
      let within = one.within in
      record {
        place = omega arith;
        order = omega arith;
        within = omega arith;
        value = ap₂ (slice_range (pins ++ more)) a b
            ∙ slice_range-append pins more (slice_index starts i) (slice_index starts (i + 1)) one.order one.within
            ∙ one.value;
      }

  new_list : HasListAt (record { starts = starts ++ place ∷ []; pins = pins ++ more }) n (image cs (net_of h (from + n)))
  new_list =
      let long = old.long in
      let last = old.last in
      let grown = length_push starts place in
      let more_pins = length-append pins more in
      let a = get_or_append_left starts (place ∷ []) 0 n (omega arith) in
      let b = get_or_push starts place 0 (n + 1) long in
      record {
        place = omega arith;
        order = omega arith;
        within = omega arith;
        value = ap₂ (slice_range (pins ++ more)) (a ∙ last) b ∙ slice_range_appended pins more (length pins) place refl end ∙ is;
      }

  pub few_more : length (pins ++ more) ≤ total (λ e. length e.pins) (take (from + (n + 1)) h.nets)
  few_more =
      let a = length-append pins more in
      let b = length-set_of-le nat_cmp (map (slice_index cs) (net_of h (from + n)).pins) in
      let c = length-map (net_of h (from + n)).pins (slice_index cs) in
      let d = total-take_more (λ e. length e.pins) h.nets (from + n) (record { weight = 0; pins = [] }) below in
      let e = ap length is in
      let f = old.few in
      let g : from + (n + 1) ≡ from + n + 1 = omega arith in
      let s = ap (λ x. total (λ (e : Net). length e.pins) (take x h.nets)) g in
      omega arith

  pub AreLists-more : AreLists h cs from (n + 1) (starts ++ place ∷ []) (pins ++ more)
  AreLists-more = record {
    long = length_push starts place ∙ ap (λ x. x + 1) old.long;
    last = get_or_push starts place 0 (n + 1) old.long ∙ end ∙ sym (length-append pins more);
    few = few_more;
    each = λ i l. by i l (cases_lt i n);
  }
    where
      by : (i : ℕ) → i < n + 1 → (i < n) ⊎ (n ≤ i) → HasListAt (record { starts = starts ++ place ∷ []; pins = pins ++ more }) i
          (image cs (net_of h (from + i)))
      by i l (inl low) = earlier_list i low
      by i l (inr high) =
          let same : n ≡ i = omega arith in
          subst (λ k. HasListAt (record { starts = starts ++ place ∷ []; pins = pins ++ more }) k (image cs (net_of h (from + k)))) same new_list

-- the numbers of an image are below those of all clusters
image_below : (cs : List ℕ) (count : ℕ) (e : Net) → All (λ i. i < count) cs → All (λ v. v < length cs) e.pins →
    All (λ i. i < count) (image cs e)
image_below cs count e all pins k d l =
    All-contains (λ i. i < count) (map (slice_index cs) e.pins) (get_or (image cs e) k d)
    (λ i x m. let n = length-map e.pins (slice_index cs) in
    subst (λ y. y < count) (sym (get_or-map (slice_index cs) e.pins i 0 x (omega arith))) (all (get_or e.pins i 0) 0 (pins i 0 (omega arith))))
    (Contains-from_set_of nat_cmp_total nat_cmp_exact (map (slice_index cs) e.pins) (get_or (image cs e) k d) (Contains-get_or (image cs e) k d l))

-- the part with a net has its image
pub list_of : (h : Hyper) (cs : List ℕ) (size : ℕ) (parts : List Lists) → ArePartsOf h cs size parts → (e : ℕ) (part : Lists) → e < net_count h →
    part ≡ get_or parts (e / size) part → HasListAt part (e % size) (image cs (net_of h e))
list_of h cs size parts are e part l read =
    let b = mod-add-div e size in
    let swap = mul_comm size (e / size) in
    let whole : e / size * size + e % size ≡ e = omega arith in
    let all = are.all in
    let low : e / size < length parts = (div-lt_iff_lt-mul are.some).1 (omega arith) in
    subst (λ p. HasListAt p (e % size) (image cs (net_of h e))) (sym read)
    (subst (λ x. HasListAt (get_or parts (e / size) part) (e % size) (image cs (net_of h x))) whole
    (are.each (e / size) part low (e % size) (mod-lt e are.some) (omega arith)))

-- the net over the clusters
pub pins_over : (h : Hyper) (cs : List ℕ) (e : ℕ) → e < net_count h → (net_of (over h cs) e).pins ≡ image cs (net_of h e)
pins_over h cs e l =
    ap (λ (n : Net). n.pins) (get_or-map (mapped_net cs) h.nets e (record { weight = 0; pins = [] }) (record { weight = 0; pins = [] }) l)

pub count_over : (h : Hyper) (cs : List ℕ) → net_count (over h cs) ≡ net_count h
count_over h cs = length-map h.nets (mapped_net cs)

pub vertices_over : (h : Hyper) (cs : List ℕ) → vertex_count (over h cs) ≡ cluster_count cs
vertices_over h cs = length-replicate (cluster_count cs) 0

pub image_over : (h : Hyper) (cs : List ℕ) → IsHypergraph h → length cs ≡ vertex_count h → (e : ℕ) → e < net_count h →
    All (λ i. i < vertex_count (over h cs)) (image cs (net_of h e))
image_over h cs sound long e l =
    subst (λ m. All (λ i. i < m) (image cs (net_of h e))) (sym (vertices_over h cs))
    (image_below cs (cluster_count cs) (net_of h e) (below_count cs)
    (subst (λ m. All (λ v. v < m) (net_of h e).pins) (sym long) (sound.nets e (record { weight = 0; pins = [] }) l).pins))

-- a list that is read where it starts and ends
module _ (lists : Lists) (i : ℕ) (list pins : List ℕ) (a b : ℕ) (one : HasListAt lists i list) (first : a ≡ get_or lists.starts i a)
    (next : b ≡ get_or lists.starts (i + 1) b) (read : pins ≡ lists.pins) where
  starts_at : a ≡ slice_index lists.starts i
  starts_at = first ∙ get_or_default lists.starts i a 0 (let l = one.place in omega arith)

  ends_at : b ≡ slice_index lists.starts (i + 1)
  ends_at = next ∙ get_or_default lists.starts (i + 1) b 0 one.place

  pub read_order : a ≤ b
  read_order = let p = one.order in let s = starts_at in let e = ends_at in omega arith

  pub read_within : b ≤ length pins
  read_within = let p = one.within in let e = ends_at in let l = ap length read in omega arith

  pub read_list : slice_range pins a b ≡ list
  read_list = ap (λ (xs : List ℕ). slice_range xs a b) read ∙ ap₂ (slice_range lists.pins) starts_at ends_at ∙ one.value

-- each result is a value
pub record AreThere {E X : Type 0} (results : List (Result X E)) (values : List X) : Type 0 where
  pub long : length values ≡ length results
  pub each : (j : ℕ) (r : Result X E) (d : X) → j < length results → get_or results j r ≡ Ok (get_or values j d)

pub AreThere-start : {E X : Type 0} → AreThere {E = E} {X = X} [] []
AreThere-start = record { long = refl; each = λ j r d l. absurd (omega arith) }

pub AreThere-more : {E X : Type 0} (results : List (Result X E)) (values : List X) (result : Result X E) (value : X) → AreThere results values →
    result ≡ Ok value → AreThere (results ++ result ∷ []) (values ++ value ∷ [])
AreThere-more {E} {X} results values result value old is = record {
  long = length_push values value ∙ ap (λ x. x + 1) old.long ∙ sym (length_push results result);
  each = λ j r d l. by j r d l (cases_lt j (length results));
}
  where
    by : (j : ℕ) (r : Result X E) (d : X) → j < length (results ++ result ∷ []) → (j < length results) ⊎ (length results ≤ j) →
        get_or (results ++ result ∷ []) j r ≡ Ok (get_or (values ++ value ∷ []) j d)
    by j r d l (inl low) =
        let long = old.long in
        get_or_append_left results (result ∷ []) r j low
        ∙ old.each j r d low
        ∙ ap (λ (p : X). Ok p) (sym (get_or_append_left values (value ∷ []) d j (omega arith)))
    by j r d l (inr high) =
        let long = old.long in
        let grown = length_push results result in
        get_or_push results result r j (omega arith)
        ∙ is
        ∙ ap (λ (p : X). Ok p) (sym (get_or_push values value d j (omega arith)))

-- what was taken out of a vector that is empty now is all of it
taken_front : {X A : Type 0} (s : IntoIter X A) (xs : List X) (t : IntoIter X A) → Yields into_iter_steps s xs t → into_iter_items s ≡ xs ++ into_iter_items t
taken_front s [] t y = ap into_iter_items y
taken_front s (x ∷ xs) t y = y.1.0 ∙ ap (λ ys. x ∷ ys) (taken_front y.0 xs t y.2)

none_left : {X : Type 0} (xs ys : List X) → length ys ≡ 0 → xs ++ ys ≡ xs
none_left xs [] e = append-nil xs
none_left xs (y ∷ ys) e = absurd (omega arith)

pub taken_all : {X A : Type 0} (s : IntoIter X A) (xs : List X) (t : IntoIter X A) → Yields into_iter_steps s xs t → length (into_iter_items t) ≡ 0 →
    into_iter_items s ≡ xs
taken_all s xs t y e = taken_front s xs t y ∙ none_left xs (into_iter_items t) e
