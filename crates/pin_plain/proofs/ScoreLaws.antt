-- Laws of what nets save and lose: by the counts that are read, and their bounds.
use Rattle.std.proofs.Common.{◌≡◌, ◌≢◌, ◌⊎◌, inl, inr, ℕ, zero, suc, ◌+◌, ◌-◌, ◌*◌, ◌/◌, ◌%◌, ◌<◌, ◌≤◌, ◌^◌}
use Rattle.std.proofs.Common.{Bool, true, false, true≢false, cond, not, ◌&&◌, if◌then◌else◌}
use Rattle.std.proofs.Common.{nat_eq, nat_lt, List, [], ◌∷◌, length, filter, All, take, drop, get_or, slice_index, refl, sym, ap, subst, ◌∙◌, arith}
use Rattle.std.specs.List.{range_with_len}
use Rattle.hg_base.specs.Packed.{count_at, fields_of, bits_of, words_of, field}
use Rattle.hg_defs.specs.declared.objective.Objective.{Objective}
use Rattle.hg_defs.specs.declared.objective.Objective.TheVariants.{Connectivity, CutNet, ExternalDegree}
use Rattle.hg_defs.specs.Sums.{total}
use Rattle.hg_defs.specs.Hypergraph.{Hyper, IsWithinLimits, net_count, net_of, total_net_weight}
use Rattle.hg_defs.specs.Pins.{pins_in}
use Rattle.hg_defs.proofs.SumLaws.{total-filter, total-le, total-scale, total-range, total-by_index, total_more-le}
use Rattle.hg_defs.specs.Partition.{block_of}
use Rattle.hg_defs.proofs.DistinctLaws.{present-le, blocks_of_pins}
use Rattle.hg_defs.specs.Incidence.{is_on, nets_of}
use Rattle.pin_plain.specs.Counts.{net_bits, net_words, net_start, counts_of}
use Rattle.pin_plain.specs.Savings.{saved, most_saved, lost, net_saved, net_most, net_lost}
use Rattle.pin_plain.specs.Parted.{IsTold}
use Rattle.pin_plain.proofs.CountLaws.{fields_enough, all_words-le, part_inside, count_same, net_part, pins_in-two}
use Rattle.pin_plain.proofs.TallyLaws.{none_past}
use Rattle.std.proofs.lemmas.List.{length-drop, length-take-le, get_or-take, get_or-drop}
use Rattle.std.proofs.lemmas.Nat.{div-mul-add, mod-mul-add}
use Rattle.std.proofs.Math.Nat.{mul-le-mul_left, mul-le-mul_right}
use Rattle.std.proofs.lemmas.Bool.{cases_lt, cases_eq, eqb-true}
use Rattle.incidence.proofs.IndexLaws.{nets_of-below}
use Rattle.std.proofs.lemmas.List.FromFn.{length-range_with_len}

-- ---- a count that is read

module _ (h : Hyper) (k : ℕ) (p starts words : List ℕ) (told : IsTold h k p starts words) (e size bits : ℕ) (pins : List ℕ) (net : e < net_count h)
    (is : pins ≡ (net_of h e).pins) (width : bits ≡ bits_of (length pins)) where
  pub told_bits : bits ≡ net_bits h e
  told_bits = width ∙ ap (λ ps. bits_of (length ps)) is

  pub told_inside : (b : ℕ) → b < k → slice_index starts e + b / fields_of bits < length words
  told_inside b low = part_inside h k starts words e b (slice_index starts e) bits told.laid net low (told.laid.starts_at e net) told_bits

  pub told_count : (b : ℕ) → b < k → count_at words (slice_index starts e) bits b ≡ counts_of h p e b
  told_count b low =
      count_same h k e (slice_index starts e) bits (told.laid.starts_at e net) told_bits words b
      ∙ told.counted e b net (let enough = fields_enough (length (net_of h e).pins) k in omega arith)

pub told_few : (h : Hyper) (k : ℕ) (p starts words : List ℕ) → IsTold h k p starts words → length words < 2 ^ 32
told_few h k p starts words told =
    let all = told.laid.all in
    let few = all_words-le h k told.parted.some told.parted.few told.parted.bounds told.parted.suits in
    omega arith

-- ---- what is saved and lost, of the numbers that are read

pub saved_is : (h : Hyper) (p : List ℕ) (b e w s count size : ℕ) (o : Objective) → w ≡ (net_of h e).weight → o ≡ h.objective → count ≡ counts_of h p e b →
    size ≡ length (net_of h e).pins → s ≡ saved o count size → w * s ≡ net_saved h p b e
saved_is h p b e w s count size o ew eo ec es is =
    ap (λ x. w * x) is ∙ ap (λ x. x * saved o count size) ew ∙ ap (λ x. (net_of h e).weight * saved x count size) eo ∙
    ap (λ x. (net_of h e).weight * saved h.objective x size) ec
    ∙ ap (λ x. (net_of h e).weight * saved h.objective (counts_of h p e b) x) es

pub lost_is : (h : Hyper) (p : List ℕ) (b e w s count size : ℕ) (o : Objective) → w ≡ (net_of h e).weight → o ≡ h.objective → count ≡ counts_of h p e b →
    size ≡ length (net_of h e).pins → s ≡ lost o count size → w * s ≡ net_lost h p b e
lost_is h p b e w s count size o ew eo ec es is =
    ap (λ x. w * x) is ∙ ap (λ x. x * lost o count size) ew ∙ ap (λ x. (net_of h e).weight * lost x count size) eo ∙
    ap (λ x. (net_of h e).weight * lost h.objective x size) ec
    ∙ ap (λ x. (net_of h e).weight * lost h.objective (counts_of h p e b) x) es

pub most_is : (h : Hyper) (p : List ℕ) (b e w s count size : ℕ) (o : Objective) → w ≡ (net_of h e).weight → o ≡ h.objective → count ≡ counts_of h p e b →
    size ≡ length (net_of h e).pins → s ≡ most_saved o count size → w * s ≡ net_most h p b e
most_is h p b e w s count size o ew eo ec es is =
    ap (λ x. w * x) is ∙ ap (λ x. x * most_saved o count size) ew ∙ ap (λ x. (net_of h e).weight * most_saved x count size) eo ∙
    ap (λ x. (net_of h e).weight * most_saved h.objective x size) ec
    ∙ ap (λ x. (net_of h e).weight * most_saved h.objective (counts_of h p e b) x) es

-- ---- bounds

one_or_none : (t : Bool) → (if t then 1 else 0) ≤ 1
one_or_none true = omega arith
one_or_none false = omega arith

none_or_one : (t : Bool) → (if t then 0 else 1) ≤ 1
none_or_one true = omega arith
none_or_one false = omega arith

saved-le : (o : Objective) (count size : ℕ) → saved o count size ≤ 2
saved-le Connectivity count size = let a = present-le count in omega arith
saved-le CutNet count size = let a = one_or_none (nat_lt 0 count && nat_eq (count + 1) size) in omega arith
saved-le ExternalDegree count size = let a = present-le count in let b = one_or_none (nat_lt 0 count && nat_eq (count + 1) size) in omega arith

lost-le : (o : Objective) (count size : ℕ) → lost o count size ≤ 2
lost-le Connectivity count size = let a = none_or_one (nat_eq count 1) in omega arith
lost-le CutNet count size = let a = one_or_none (nat_eq count size && not (nat_eq size 1)) in omega arith
lost-le ExternalDegree count size = let a = none_or_one (nat_eq count 1) in let b = one_or_none (nat_eq count size && not (nat_eq size 1)) in omega arith

most-le : (o : Objective) (count size : ℕ) → most_saved o count size ≤ 2
most-le Connectivity count size = let a = none_or_one (nat_eq count size) in omega arith
most-le CutNet count size = let a = none_or_one (nat_eq count size) in omega arith
most-le ExternalDegree count size = let a = none_or_one (nat_eq count size) in omega arith

unfilled : (t : Bool) → t ≡ false → 1 ≤ (if t then 0 else 1)
unfilled true q = absurd (true≢false q)
unfilled false q = omega arith

-- a net with pins outside of a block saves no more at another one than the most
saved-most : (o : Objective) (count own size : ℕ) → nat_eq own size ≡ false → saved o count size ≤ most_saved o own size
saved-most Connectivity count own size q = let a = present-le count in let b = unfilled (nat_eq own size) q in omega arith
saved-most CutNet count own size q =
    let a = one_or_none (nat_lt 0 count && nat_eq (count + 1) size) in let b = unfilled (nat_eq own size) q in omega arith
saved-most ExternalDegree count own size q =
    let a = present-le count in
    let b = one_or_none (nat_lt 0 count && nat_eq (count + 1) size) in
    let c = unfilled (nat_eq own size) q in
    omega arith

twice : (w s : ℕ) → s ≤ 2 → w * s ≤ 2 * w
twice w s h = by s h
  where
    by : (t : ℕ) → t ≤ 2 → w * t ≤ 2 * w
    by zero k = omega arith
    by (suc zero) k = omega arith
    by (suc (suc zero)) k = omega arith
    by (suc (suc (suc t))) k = absurd (omega arith)

chosen : (t : Bool) (n : ℕ) → (if t then n else 0) ≤ n
chosen true n = omega arith
chosen false n = omega arith

nets_weigh : (h : Hyper) (v : ℕ) → total (λ e. (net_of h e).weight) (nets_of h v) ≤ total_net_weight h
nets_weigh h v =
    let filtered = total-filter (λ e. (net_of h e).weight) (is_on h v) (range_with_len 0 (net_count h)) in
    let less = total-le (λ e. if is_on h v e then (net_of h e).weight else 0) (λ e. (net_of h e).weight) (range_with_len 0 (net_count h))
    (λ i d l. chosen (is_on h v (get_or (range_with_len 0 (net_count h)) i d)) _) in
    let all = total-range (λ e. (net_of h e).weight) (net_count h) in
    let nets = total-by_index (λ e. e.weight) (record { weight = 0; pins = [] }) h.nets in
    omega arith

within_twice : (h : Hyper) (v : ℕ) (f : ℕ → ℕ) → IsWithinLimits h → ((e : ℕ) → f e ≤ 2 * (net_of h e).weight) → total f (nets_of h v) < 2 ^ 55
within_twice h v f bounds each =
    let less = total-le f (λ e. 2 * (net_of h e).weight) (nets_of h v) (λ i d l. each (get_or (nets_of h v) i d)) in
    let scale = total-scale 2 (λ e. (net_of h e).weight) (nets_of h v) in
    let weigh = nets_weigh h v in
    let limit = bounds.net_weight in
    omega arith

pub saved_bound : (h : Hyper) (p : List ℕ) (b v : ℕ) → IsWithinLimits h → total (net_saved h p b) (nets_of h v) < 2 ^ 55
saved_bound h p b v bounds = within_twice h v (net_saved h p b) bounds (λ e. twice (net_of h e).weight _ (saved-le h.objective _ _))

pub lost_bound : (h : Hyper) (p : List ℕ) (a v : ℕ) → IsWithinLimits h → total (net_lost h p a) (nets_of h v) < 2 ^ 55
lost_bound h p a v bounds = within_twice h v (net_lost h p a) bounds (λ e. twice (net_of h e).weight _ (lost-le h.objective _ _))

pub saved_so_far : (h : Hyper) (p : List ℕ) (b v i : ℕ) (nets : List ℕ) → IsWithinLimits h → nets ≡ nets_of h v → i < length nets →
    total (net_saved h p b) (take i nets) + net_saved h p b (slice_index nets i) < 2 ^ 55
saved_so_far h p b v i nets bounds is l =
    let more = total_more-le (net_saved h p b) nets i 0 l in
    let all = ap (total (net_saved h p b)) is in
    let bound = saved_bound h p b v bounds in
    omega arith

pub lost_so_far : (h : Hyper) (p : List ℕ) (a v i : ℕ) (nets : List ℕ) → IsWithinLimits h → nets ≡ nets_of h v → i < length nets →
    total (net_lost h p a) (take i nets) + net_lost h p a (slice_index nets i) < 2 ^ 55
lost_so_far h p a v i nets bounds is l =
    let more = total_more-le (net_lost h p a) nets i 0 l in
    let all = ap (total (net_lost h p a)) is in
    let bound = lost_bound h p a v bounds in
    omega arith

most_bound : (h : Hyper) (p : List ℕ) (a v : ℕ) → IsWithinLimits h → total (net_most h p a) (nets_of h v) < 2 ^ 55
most_bound h p a v bounds = within_twice h v (net_most h p a) bounds (λ e. twice (net_of h e).weight _ (most-le h.objective _ _))

pub most_so_far : (h : Hyper) (p : List ℕ) (a v i : ℕ) (nets : List ℕ) → IsWithinLimits h → nets ≡ nets_of h v → i < length nets →
    total (net_most h p a) (take i nets) + net_most h p a (slice_index nets i) < 2 ^ 55
most_so_far h p a v i nets bounds is l =
    let more = total_more-le (net_most h p a) nets i 0 l in
    let all = ap (total (net_most h p a)) is in
    let bound = most_bound h p a v bounds in
    omega arith

-- a block without pins of the net is saved nothing
pub saved_none : (h : Hyper) (p : List ℕ) (b e : ℕ) → counts_of h p e b ≡ 0 → net_saved h p b e ≡ 0
saved_none h p b e z = ap (λ c. (net_of h e).weight * saved h.objective c (length (net_of h e).pins)) z ∙ by h.objective
  where
    by : (o : Objective) → (net_of h e).weight * saved o 0 (length (net_of h e).pins) ≡ 0
    by Connectivity = omega arith
    by CutNet = omega arith
    by ExternalDegree = omega arith

-- ---- the words of one net

split_div : (i f place : ℕ) → place < f → (i * f + place) / f ≡ i
split_div i f place l = div-mul-add i f place l

split_mod : (i f place : ℕ) → place < f → (i * f + place) % f ≡ place
split_mod i f place l = mod-mul-add i f place l

module _ (h : Hyper) (k : ℕ) (p starts words : List ℕ) (told : IsTold h k p starts words) (e start count bits : ℕ) (pins : List ℕ) (net : e < net_count h)
    (is : pins ≡ (net_of h e).pins) (width : bits ≡ bits_of (length pins)) (at : start ≡ slice_index starts e) (size : count ≡ words_of (length pins) k)
  where
    part_start : start ≡ net_start h k e
    part_start = at ∙ told.laid.starts_at e net

    part_size : count ≡ net_words h k e
    part_size = size ∙ ap (λ ps. words_of (length ps) k) is

    part_bits : bits ≡ net_bits h e
    part_bits = width ∙ ap (λ ps. bits_of (length ps)) is

    pub part_within : start + count ≤ length words
    part_within =
        let part = net_part h k e net in
        let all = told.laid.all in
        let a = part_start in
        let b = part_size in
        omega arith

    pub length-part : length (take (start + count - start) (drop start words)) ≡ count
    length-part =
        let within = part_within in
        let left = length-drop start words in
        let n : start + count - start ≡ count = omega arith in
        length-take-le (start + count - start) (drop start words) (omega arith) ∙ n

    fields_same : fields_of bits ≡ fields_of (net_bits h e)
    fields_same = ap fields_of part_bits

    pub part_counts : (i place : ℕ) → i < length (take (start + count - start) (drop start words)) → place < fields_of bits →
        field (slice_index (take (start + count - start) (drop start words)) i) bits place ≡ pins_in p pins (i * fields_of bits + place)
    part_counts i place l m =
        let len = length-part in
        let inside : i < count = omega arith in
        let f = fields_of bits in
        let taken = get_or-take (start + count - start) (drop start words) i 0 (omega arith) ∙ get_or-drop start words i 0 in
        let low : i * fields_of (net_bits h e) + place < net_words h k e * fields_of (net_bits h e) =
        subst (λ g. i * g + place < net_words h k e * g) fields_same (subst (λ w. i * fields_of bits + place < w * fields_of bits) part_size
        (within_product i count (fields_of bits) place inside m)) in
        let held = told.counted e (i * fields_of (net_bits h e) + place) net low in
        ap (λ w. field w bits place) taken
        ∙ ap (λ x. field (slice_index words (start + x)) bits place) (sym (split_div i f place m))
        ∙ ap (λ x. field (slice_index words (start + (i * f + place) / f)) bits x) (sym (split_mod i f place m))
        ∙ count_same h k e start bits part_start part_bits words (i * f + place)
        ∙ ap (λ g. count_at words (net_start h k e) (net_bits h e) (i * g + place)) fields_same
        ∙ held
        ∙ ap (λ ps. pins_in p ps (i * fields_of (net_bits h e) + place)) (sym is)
        ∙ ap (λ g. pins_in p pins (i * g + place)) (sym fields_same)
      where
        within_product : (i n f place : ℕ) → i < n → place < f → i * f + place < n * f
        within_product i n f place l m =
            let a = mul-le-mul_right f (let x : suc i ≤ n = l in x) in
            let b : suc i * f ≡ i * f + f = omega arith in
            omega arith

    pins_below : All (λ v. v < length p) pins
    pins_below = subst (λ ps. All (λ v. v < length p) ps) (sym is) (subst (λ n. All (λ v. v < n) (net_of h e).pins) (sym told.parted.partition.vertices)
        (told.parted.sound.nets e (record { weight = 0; pins = [] }) net).pins)

    pub part_all : (b : ℕ) → length (take (start + count - start) (drop start words)) * fields_of bits ≤ b → pins_in p pins b ≡ 0
    part_all b past =
        none_past k p pins b pins_below told.parted.partition.blocks
        (let enough = fields_enough (length (net_of h e).pins) k in
        let n : length (take (start + count - start) (drop start words)) * fields_of bits ≡ net_words h k e * fields_of (net_bits h e) =
        ap (λ x. x * fields_of bits) (length-part ∙ part_size) ∙ ap (λ g. net_words h k e * g) fields_same in
        omega arith)

    -- where all pins are in one block, none is in another
    pub whole_elsewhere : (from b : ℕ) → from < k → b ≢ from → counts_of h p e from ≡ length pins → counts_of h p e b ≡ 0
    whole_elsewhere from b low other own = by (cases_lt b k)
      where
        below : All (λ v. block_of p v < k) (net_of h e).pins
        below = blocks_of_pins k p (net_of h e).pins told.parted.partition.blocks (subst (λ n. All (λ v. v < n) (net_of h e).pins)
            (sym told.parted.partition.vertices) (told.parted.sound.nets e (record { weight = 0; pins = [] }) net).pins)

        by : (b < k) ⊎ (k ≤ b) → counts_of h p e b ≡ 0
        by (inl l) =
            let two = pins_in-two p (net_of h e).pins from b k low l other below in
            let len = ap length is in
            omega arith
        by (inr g) = none_past k p (net_of h e).pins b (subst (λ n. All (λ v. v < n) (net_of h e).pins) (sym told.parted.partition.vertices)
            (told.parted.sound.nets e (record { weight = 0; pins = [] }) net).pins) told.parted.partition.blocks g

-- ---- what nets save at most

-- no net saves more at another block than the most
saved_below_most : (h : Hyper) (k : ℕ) (p starts words : List ℕ) → IsTold h k p starts words → (from b e : ℕ) → e < net_count h → from < k → b ≢ from →
    net_saved h p b e ≤ net_most h p from e
saved_below_most h k p starts words told from b e net low other = by (nat_eq (counts_of h p e from) (length (net_of h e).pins)) refl
  where
    by : (t : Bool) → nat_eq (counts_of h p e from) (length (net_of h e).pins) ≡ t → net_saved h p b e ≤ net_most h p from e
    by true q =
        let none = saved_none h p b e
        (whole_elsewhere h k p starts words told e _ _ _ (net_of h e).pins net refl refl refl refl from b low other
        (eqb-true (counts_of h p e from) (length (net_of h e).pins) q)) in
        omega arith
    by false q = mul-le-mul_left (net_of h e).weight
        (saved-most h.objective (counts_of h p e b) (counts_of h p e from) (length (net_of h e).pins) q)

pub saved_at_most : (h : Hyper) (k : ℕ) (p starts words : List ℕ) → IsTold h k p starts words → (from b v : ℕ) → from < k → b ≢ from →
    total (net_saved h p b) (nets_of h v) ≤ total (net_most h p from) (nets_of h v)
saved_at_most h k p starts words told from b v low other =
    total-le (net_saved h p b) (net_most h p from) (nets_of h v)
    (λ i d l. saved_below_most h k p starts words told from b (get_or (nets_of h v) i d) (nets_of-below h v i d l) low other)

-- ---- all nets of a vertex

length_filter-le : (test : ℕ → Bool) (xs : List ℕ) → length (filter test xs) ≤ length xs
length_filter-le test [] = omega arith
length_filter-le test (x ∷ xs) = by (test x) (length_filter-le test xs)
  where
    by : (t : Bool) → length (filter test xs) ≤ length xs → length (cond t (x ∷ filter test xs) (filter test xs)) ≤ suc (length xs)
    by true r = omega arith
    by false r = omega arith

pub nets_few : (h : Hyper) (v : ℕ) → length (nets_of h v) ≤ net_count h
nets_few h v = let a = length_filter-le (is_on h v) (range_with_len 0 (net_count h)) in let b = length-range_with_len 0 (net_count h) in omega arith

-- a sum so far has room for what the next net saves
pub room_for :
    (h : Hyper) (p : List ℕ) (b from v i : ℕ) (nets sums : List ℕ) → IsWithinLimits h → nets ≡ nets_of h v → i < length nets → slice_index sums from ≡ 0
    → ((c : ℕ) → c ≢ from → slice_index sums c ≡ total (net_saved h p c) (take i nets))
    → slice_index sums b + net_saved h p b (slice_index nets i) < 2 ^ 64
room_for h p b from v i nets sums bounds is l own known = by (cases_eq b from)
  where
    by : (b ≡ from) ⊎ (b ≢ from) → slice_index sums b + net_saved h p b (slice_index nets i) < 2 ^ 64
    by (inl e) = let z = ap (slice_index sums) e ∙ own in let bound = saved_so_far h p b v i nets bounds is l in omega arith
    by (inr q) = let now = known b q in let bound = saved_so_far h p b v i nets bounds is l in omega arith
