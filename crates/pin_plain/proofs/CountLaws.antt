-- Laws of the counts of all nets: where they stand, and what a change of one net's words leaves.
use Rattle.std.proofs.Common.{◌≡◌, ◌≢◌, ◌⊎◌, inl, inr, ℕ, ◌+◌, ◌*◌, ◌/◌, ◌%◌, ◌^◌, ◌<◌, ◌≤◌, Bool, true, false, ◌||◌, cond}
use Rattle.std.proofs.Common.{if◌then◌else◌, nat_eq, nat_le, List, [], ◌∷◌, length, filter, take, All, Contains}
use Rattle.std.proofs.Common.{slice_index, get_or, slice_set, get_or-set_same, get_or-set_other, refl, sym, ap, ◌∙◌, subst, arith, true≢false}
use Rattle.std.proofs.lemmas.Bool.{eqb-true, eqb-false, ne_eqb, eq-eqb, leb-true, cases_eq, cases_lt}
use Rattle.hg_base.specs.Packed.{count_at, IsWidth, fields_of, bits_of, words_of, field}
use Rattle.hg_defs.specs.Hypergraph.{Hyper, IsHypergraph, IsWithinLimits, vertex_count, net_count, net_of, Suits}
use Rattle.hg_defs.specs.Partition.{IsPartition, block_of, divided_up}
use Rattle.hg_defs.specs.Pins.{pins_in}
use Rattle.hg_defs.specs.Cost.{connectivity}
use Rattle.hg_defs.specs.Moves.{moved}
use Rattle.std.specs.Set.{is_member}
use Rattle.std.specs.List.{range_with_len}
use Rattle.std.specs.List.Sorted.{IsStrictlyIncreasing}
use Rattle.hg_defs.specs.Incidence.{is_on, nets_of}
use Rattle.hg_defs.proofs.SumLaws.{sum_below_more, sum_below-same, sum_below-le, sum_below-constant, sum_below-add, weight_if}
use Rattle.hg_defs.proofs.DistinctLaws.{times_of-once, pins_in-set, pins_in-set_old, pins_in-set_apart, pins_in-sum, blocks_of_pins}
use Rattle.hg_defs.proofs.DistinctLaws.{connectivity-set, connectivity-set_apart}
use Rattle.std.proofs.Math.Bool.{or-false, or-true}
use Rattle.std.proofs.lemmas.Bool.Decides.{Decides-eqb}
use Rattle.std.proofs.lemmas.Map.Made.{is_member-Decides}
use Rattle.std.proofs.lemmas.List.Folds.{list_any_at}
use Rattle.std.proofs.lemmas.List.FromFn.{length-range_with_len, get_or-range_with_len}
use Rattle.incidence.proofs.IndexLaws.{sum_below_upto-le, nets_of-below, nets_of-rising, is_pin_new, is_pin_more}
use Rattle.pin_plain.proofs.GainLaws.{nets_of-hold, two_within}
use Rattle.pin_plain.specs.Counts.{net_bits, net_words, words_at_net, net_place, net_start, all_words, HasLayout, HasStride}
use Rattle.pin_plain.specs.Counts.{HoldsCounts, counts_of, counts_between, HaveSpreads, HaveSpreadsBetween}

-- ---- the width of a net's counts

pub bits_width : (n : ℕ) → IsWidth (bits_of n)
bits_width n = by (nat_le n 255) (nat_le n 65535)
  where
    by : (s t : Bool) → IsWidth (if s then 8 else (if t then 16 else 32))
    by true t = inl refl
    by false true = inr (inl refl)
    by false false = inr (inr refl)

-- a count of as many pins as the net has is below the next field
pub bits_room : (n : ℕ) → n ≤ 2 ^ 25 → n < 2 ^ bits_of n
bits_room n h = by (nat_le n 255) (nat_le n 65535) refl refl
  where
    by : (s t : Bool) → nat_le n 255 ≡ s → nat_le n 65535 ≡ t → n < 2 ^ (if s then 8 else (if t then 16 else 32))
    by true t d e = let r = leb-true n 255 d in omega arith
    by false true d e = let r = leb-true n 65535 e in omega arith
    by false false d e = omega arith

at_width : (P : ℕ → Type 0) (bits : ℕ) → IsWidth bits → P 8 → P 16 → P 32 → P bits
at_width P bits (inl e) a b c = subst P (sym e) a
at_width P bits (inr (inl e)) a b c = subst P (sym e) b
at_width P bits (inr (inr e)) a b c = subst P (sym e) c

pub words-le : (n k : ℕ) → 2 ≤ k → words_of n k ≤ k
words-le n k h = at_width (λ b. (k * b + 63) / 64 ≤ k) (bits_of n) (bits_width n) (omega arith) (omega arith) (omega arith)

-- the fields of a net's words are enough for k blocks
pub fields_enough : (n k : ℕ) → k ≤ words_of n k * fields_of (bits_of n)
fields_enough n k = at_width (λ b. k ≤ (k * b + 63) / 64 * (64 / b)) (bits_of n) (bits_width n) (omega arith) (omega arith) (omega arith)

pub word_below : (bits words b : ℕ) → IsWidth bits → b < words * fields_of bits → b / fields_of bits < words
word_below bits words b width = at_width (λ w. b < words * (64 / w) → b / (64 / w) < words) bits width (λ h. omega arith) (λ h. omega arith) (λ h. omega arith)

-- ---- where the words of a net stand

module _ (h : Hyper) (k : ℕ) where
  pub net_place_next : (e : ℕ) → net_place h k (e + 1) ≡ net_place h k e + words_at_net h k e
  net_place_next e = let m = sum_below_more (words_at_net h k) e in omega arith

  pub net_place-le : (e i : ℕ) → e ≤ i → net_place h k e ≤ net_place h k i
  net_place-le e i l = let m = sum_below_upto-le (words_at_net h k) e i l in omega arith

  pub net_part : (e : ℕ) → e < net_count h → net_start h k e + net_words h k e ≤ all_words h k
  net_part e l =
      let next = net_place_next e in
      let upto = net_place-le (e + 1) (net_count h) (omega arith) in
      omega arith

  pub all_words-le : 2 ≤ k → k ≤ 256 → IsWithinLimits h → Suits h k → all_words h k ≤ 2 ^ 27
  all_words-le some few bounds suits =
      let each = sum_below-le (net_words h k) (λ e. k) (net_count h) (λ e l. words-le (length (net_of h e).pins) k some) in
      let sum = sum_below-constant k (net_count h) in
      let one = sum_below-constant 1 (net_count h) in
      let both = sum_below-add (λ e. 1) (net_words h k) (net_count h) in
      let vertices = bounds.vertices in
      let nets = bounds.nets in
      omega arith

  -- where the counts of all nets are of one width, each net has as many words as any other
  pub strided : (bits first words : ℕ) → ((e : ℕ) → e < net_count h → net_bits h e ≡ bits) → first ≡ net_place h k 0 →
      words ≡ 1 + divided_up (k * bits) 64 → HasStride h k bits first words
  strided bits first words same from size = record { width_of = same; place_at = place }
    where
      each : (e : ℕ) → e < net_count h → words_at_net h k e ≡ words
      each e l = ap (λ b. 1 + divided_up (k * b) 64) (same e l) ∙ sym size

      place : (e : ℕ) → e < net_count h → net_place h k e ≡ first + e * words
      place e l =
          let sum = sum_below-same (words_at_net h k) (λ i. words) e (λ i m. each i (omega arith)) ∙ sum_below-constant words e in
          omega arith

  pub strided-le : 2 ≤ k → k ≤ 256 → IsWithinLimits h → Suits h k → (bits first words e : ℕ) → HasStride h k bits first words → e < net_count h →
      first + e * words ≤ 2 ^ 27
  strided-le some few bounds suits bits first words e stride l =
      let at = stride.place_at e l in
      let upto = net_place-le e (net_count h) (omega arith) in
      let all = all_words-le some few bounds suits in
      omega arith

  parts_apart : (e i x y : ℕ) → e < net_count h → i < net_count h → i ≢ e → x < net_words h k e → y < net_words h k i → net_start h k i + y ≢ net_start h k
      e +
      x
  parts_apart e i x y l m other a b = by (cases_lt i e)
    where
      by : (i < e) ⊎ (e ≤ i) → net_start h k i + y ≢ net_start h k e + x
      by (inl q) = let next = net_place_next i in let upto = net_place-le (i + 1) e (omega arith) in omega arith
      by (inr q) = let next = net_place_next e in let upto = net_place-le (e + 1) i (omega arith) in omega arith

  -- where the words of net e alone change, the other nets keep their counts
  pub HoldsCounts-net :
      (words new : List ℕ) (counts later : ℕ → ℕ → ℕ) (e : ℕ) → HoldsCounts h k words counts → e < net_count h
      → ((b : ℕ) → b < net_words h k e * fields_of (net_bits h e) → count_at new (net_start h k e) (net_bits h e) b ≡ later e b)
      → ((i : ℕ) → ((x : ℕ) → x < net_words h k e → i ≢ net_start h k e + x) → slice_index new i ≡ slice_index words i)
      → ((i b : ℕ) → i ≢ e → later i b ≡ counts i b)
      → HoldsCounts h k new later
  HoldsCounts-net words new counts later e held l own others same i b m low = by (cases_eq i e)
    where
      by : (i ≡ e) ⊎ (i ≢ e) → count_at new (net_start h k i) (net_bits h i) b ≡ later i b
      by (inl q) =
          subst (λ j. b < net_words h k j * fields_of (net_bits h j) → count_at new (net_start h k j) (net_bits h j) b ≡ later j b) (sym q) (own b) low
      by (inr q) =
          let inside = word_below (net_bits h i) (net_words h k i) b (bits_width (length (net_of h i).pins)) low in
          let word = others (net_start h k i + b / fields_of (net_bits h i)) (λ x a. parts_apart e i x (b / fields_of (net_bits h i)) l m q a inside) in
          ap (λ w. field w (net_bits h i) (b % fields_of (net_bits h i))) word ∙ held i b m low ∙ sym (same i b q)

-- ---- one net counted

eq_flip : (a b : ℕ) → nat_eq a b ≡ nat_eq b a
eq_flip a b = by (nat_eq b a) refl
  where
    by : (t : Bool) → nat_eq b a ≡ t → nat_eq a b ≡ t
    by true e = eq-eqb a b (sym (eqb-true b a e))
    by false e = ne_eqb a b (λ q. eqb-false b a e (sym q))

pub one_flip : (a b : ℕ) → weight_if a b 1 ≡ weight_if b a 1
one_flip a b = ap (λ t. if t then 1 else 0) (eq_flip a b)

pub part_inside : (h : Hyper) (k : ℕ) (starts words : List ℕ) (e b start bits : ℕ) → HasLayout h k starts words → e < net_count h → b < k →
    start ≡ net_start h k e → bits ≡ net_bits h e → start + b / fields_of bits < length words
part_inside h k starts words e b start bits laid l low es eb =
    let enough = fields_enough (length (net_of h e).pins) k in
    let inside = word_below (net_bits h e) (net_words h k e) b (bits_width (length (net_of h e).pins)) (omega arith) in
    let part = net_part h k e l in
    let all = laid.all in
    let same : start + b / fields_of bits ≡ net_start h k e + b / fields_of (net_bits h e) = ap (λ s. s + b / fields_of bits) es ∙
    ap (λ w. net_start h k e + b / fields_of w) eb in
    omega arith

pub count_same : (h : Hyper) (k e start bits : ℕ) → start ≡ net_start h k e → bits ≡ net_bits h e → (words : List ℕ) (b : ℕ) → count_at words start bits b ≡
    count_at words (net_start h k e) (net_bits h e) b
count_same h k e start bits es eb words b = ap (λ s. count_at words s bits b) es ∙ ap (λ w. count_at words (net_start h k e) w b) eb

-- ---- the numbers of blocks that the nets touch

module _ (h : Hyper) (k : ℕ) where
  spread_apart : (e i y : ℕ) → y < net_words h k i → net_start h k i + y ≢ net_place h k e
  spread_apart e i y l = by (cases_lt i e)
    where
      by : (i < e) ⊎ (e ≤ i) → net_start h k i + y ≢ net_place h k e
      by (inl q) = let next = net_place_next h k i in let upto = net_place-le h k (i + 1) e (omega arith) in omega arith
      by (inr q) = let upto = net_place-le h k e i q in omega arith

  -- the word before the counts of a net is none of them
  pub counts_beside : (words : List ℕ) (counts : ℕ → ℕ → ℕ) (e x : ℕ) → HoldsCounts h k words counts →
      HoldsCounts h k (slice_set words (net_place h k e) x) counts
  counts_beside words counts e x held i b l low =
      let inside = word_below (net_bits h i) (net_words h k i) b (bits_width (length (net_of h i).pins)) low in
      ap (λ w. field w (net_bits h i) (b % fields_of (net_bits h i)))
      (get_or-set_other words (net_place h k e) (net_start h k i + b / fields_of (net_bits h i)) x 0
      (spread_apart e i (b / fields_of (net_bits h i)) inside))
      ∙ held i b l low

-- ---- one pin moved

-- two blocks have no more pins than there are
pub pins_in-two : (p pins : List ℕ) (a b k : ℕ) → a < k → b < k → b ≢ a → All (λ v. block_of p v < k) pins → pins_in p pins a + pins_in p pins b ≤ length
    pins
pins_in-two p pins a b k l m q low =
    let sum = pins_in-sum k p pins low in
    let two = two_within (pins_in p pins) k a b l m q in
    omega arith

between_other : (h : Hyper) (p after nets : List ℕ) (i b : ℕ) → is_member nat_eq nets i ≡ false → counts_between h p after nets i b ≡ counts_of h p i b
between_other h p after nets i b q = ap (λ t. if t then counts_of h after i b else counts_of h p i b) q

between_done : (h : Hyper) (p after nets : List ℕ) (i b : ℕ) → is_member nat_eq nets i ≡ true → counts_between h p after nets i b ≡ counts_of h after i b
between_done h p after nets i b q = ap (λ t. if t then counts_of h after i b else counts_of h p i b) q

module _ (h : Hyper) (k : ℕ) (p : List ℕ) (v to e idx : ℕ) (nets : List ℕ) (good : IsHypergraph h) (whole : IsPartition h k p) (vertex : v < vertex_count h)
    (block : to < k) (other : to ≢ block_of p v) (same : nets ≡ nets_of h v) (at : idx < length nets) (here : e ≡ slice_index nets idx) where
  pub at_net : e < net_count h
  at_net = subst (λ i. i < net_count h) (sym here) (subst (All (λ i. i < net_count h)) (sym same) (nets_of-below h v) idx 0 at)

  at_pin : Contains (net_of h e).pins v
  at_pin = subst (λ i. Contains (net_of h i).pins v) (sym here) (subst (All (λ i. Contains (net_of h i).pins v)) (sym same) (nets_of-hold h v) idx 0 at)

  rising : IsStrictlyIncreasing (net_of h e).pins
  rising = (good.nets e (record { weight = 0; pins = [] }) at_net).rising

  inside : v < length p
  inside = let x = whole.vertices in omega arith

  not_yet : is_member nat_eq (take idx nets) e ≡ false
  not_yet = subst (λ i. is_member nat_eq (take idx nets) i ≡ false) (sym here)
      (is_pin_new nets idx (subst IsStrictlyIncreasing (sym same) (nets_of-rising h v)) at)

  now : is_member nat_eq (take (idx + 1) nets) e ≡ true
  now = is_pin_more nets idx e at ∙ ap (λ b. is_member nat_eq (take idx nets) e || b) (eq-eqb e (slice_index nets idx) here) ∙
      or-true (is_member nat_eq (take idx nets) e)

  still : (i : ℕ) → i ≢ e → is_member nat_eq (take (idx + 1) nets) i ≡ is_member nat_eq (take idx nets) i
  still i q =
      is_pin_more nets idx i at
      ∙ ap (λ b. is_member nat_eq (take idx nets) i || b) (ne_eqb i (slice_index nets idx) (λ r. q (r ∙ sym here)))
      ∙ or-false (is_member nat_eq (take idx nets) i)

  changed_counts : (c : ℕ) → counts_of h (moved p v to) e c + weight_if c (block_of p v) 1 ≡ counts_of h p e c + weight_if c to 1
  changed_counts c =
      let once = times_of-once (net_of h e).pins v rising at_pin in
      let change =
      subst (λ n. pins_in (slice_set p v to) (net_of h e).pins c + n * weight_if (block_of p v) c 1 ≡ pins_in p (net_of h e).pins c + n * weight_if to c 1)
      once
      (pins_in-set p (net_of h e).pins v to c inside) in
      let a = one_flip c (block_of p v) in
      let b = one_flip c to in
      omega arith

  old_held : 0 < counts_of h p e (block_of p v)
  old_held = let change = pins_in-set_old p (net_of h e).pins v to inside rising at_pin other in omega arith

  module _ (words : List ℕ) (start bits : ℕ) (es : start ≡ net_start h k e) (eb : bits ≡ net_bits h e)
      (held : HoldsCounts h k words (counts_between h p (moved p v to) (take idx nets))) where
    old_block : block_of p v < k
    old_block = whole.blocks v 0 inside

    now_at : (b : ℕ) → b < net_words h k e * fields_of (net_bits h e) → count_at words start bits b ≡ counts_of h p e b
    now_at b low = count_same h k e start bits es eb words b ∙ held e b at_net low ∙ between_other h p (moved p v to) (take idx nets) e b not_yet

    within : (b : ℕ) → b < k → b < net_words h k e * fields_of (net_bits h e)
    within b low = let enough = fields_enough (length (net_of h e).pins) k in omega arith

    pub pin_held : 0 < count_at words start bits (block_of p v)
    pin_held = let n = now_at (block_of p v) (within (block_of p v) old_block) in let z = old_held in omega arith

    -- the number of blocks that the net touches after the move
    pub spread_after : (joined left : ℕ) → joined ≡ weight_if (count_at words start bits to) 0 1 → left ≡ weight_if (count_at words start bits
        (block_of p v)) 1 1 → connectivity (moved p v to) (net_of h e).pins + left ≡ connectivity p (net_of h e).pins + joined
    spread_after joined left js ls =
        let law = connectivity-set p (net_of h e).pins v to inside rising at_pin other in
        let j = js ∙ ap (λ n. weight_if n 0 1) (now_at to (within to block)) in
        let l = ls ∙ ap (λ n. weight_if n 1 1) (now_at (block_of p v) (within (block_of p v) old_block)) in
        omega arith

    -- a word that no count of the net stands in
    count_apart : (b i : ℕ) → b < k → net_place h k i ≢ start + b / fields_of bits
    count_apart b i low q =
        spread_apart h k i e (b / fields_of (net_bits h e)) (word_below (net_bits h e) (net_words h k e) b (bits_width (length (net_of h e).pins))
        (within b low))
        (sym (q ∙ ap (λ s. s + b / fields_of bits) es ∙ ap (λ w. net_start h k e + b / fields_of w) eb))

    -- what the net's word says before the move
    pub spread_before : HaveSpreadsBetween h k p (moved p v to) (take idx nets) words → slice_index words (net_place h k e) ≡ 64 + connectivity p
        (net_of h e).pins
    spread_before have = have e at_net ∙ ap (λ t. 64 + (if t then connectivity (moved p v to) (net_of h e).pins else connectivity p (net_of h e).pins))
        not_yet

    pub spreads_kept : (mid new : List ℕ) → ((i : ℕ) → i ≢ start + block_of p v / fields_of bits → slice_index mid i ≡ slice_index words i)
        → ((i : ℕ) → i ≢ start + to / fields_of bits → slice_index new i ≡ slice_index mid i)
        → (i : ℕ) → slice_index new (net_place h k i) ≡ slice_index words (net_place h k i)
    spreads_kept mid new mid_others new_others i =
        new_others (net_place h k i) (count_apart to i block) ∙ mid_others (net_place h k i) (count_apart (block_of p v) i old_block)

    pub spreads_moved : (new : List ℕ) (x : ℕ) → ((i : ℕ) → slice_index new (net_place h k i) ≡ slice_index words (net_place h k i))
        → HaveSpreadsBetween h k p (moved p v to) (take idx nets) words → x ≡ 64 + connectivity (moved p v to) (net_of h e).pins
        → net_place h k e < length new → HaveSpreadsBetween h k p (moved p v to) (take (idx + 1) nets) (slice_set new (net_place h k e) x)
    spreads_moved new x kept have is wide i l = by (cases_eq i e)
      where
        told : ℕ → Bool → ℕ
        told j t = 64 + (if t then connectivity (moved p v to) (net_of h j).pins else connectivity p (net_of h j).pins)

        places : i ≢ e → net_place h k i ≢ net_place h k e
        places q = from (cases_lt i e)
          where
            from : (i < e) ⊎ (e ≤ i) → net_place h k i ≢ net_place h k e
            from (inl s) = let next = net_place_next h k i in let upto = net_place-le h k (i + 1) e (omega arith) in omega arith
            from (inr s) = let next = net_place_next h k e in let n : i ≢ e = q in let upto = net_place-le h k (e + 1) i (omega arith) in omega arith

        by : (i ≡ e) ⊎ (i ≢ e) → slice_index (slice_set new (net_place h k e) x) (net_place h k i) ≡ told i (is_member nat_eq (take (idx + 1) nets) i)
        by (inl q) = subst (λ j. slice_index (slice_set new (net_place h k e) x) (net_place h k j) ≡ told j (is_member nat_eq (take (idx + 1) nets) j)) (sym q)
            (get_or-set_same new (net_place h k e) x 0 wide ∙ is ∙ sym (ap (told e) now))
        by (inr q) =
            get_or-set_other new (net_place h k e) (net_place h k i) x 0 (places q) ∙ kept i ∙ have i l ∙ sym (ap (told i) (still i q))

    module _ (mid : List ℕ) (lowered : (c : ℕ) → count_at mid start bits c + (if nat_eq c (block_of p v) then 1 else 0) ≡ count_at words start bits c) where
      pub pin_room : length (net_of h e).pins ≤ 2 ^ 25 → count_at mid start bits to + 1 < 2 ^ bits
      pin_room few =
          let n = now_at to (within to block) in
          let l = lowered to in
          let two = pins_in-two p (net_of h e).pins (block_of p v) to k old_block block other (blocks_of_pins k p (net_of h e).pins whole.blocks
          (subst (λ n. All (λ u. u < n) (net_of h e).pins) (sym whole.vertices) (good.nets e (record { weight = 0; pins = [] }) at_net).pins)) in
          let z = old_held in
          let room = bits_room (length (net_of h e).pins) few in
          let width = ap (λ w. 2 ^ w) eb in
          omega arith

      pub pin_moved :
          (new : List ℕ)
          → ((i : ℕ) → i ≢ start + block_of p v / fields_of bits → slice_index mid i ≡ slice_index words i)
          → ((c : ℕ) → count_at new start bits c ≡ count_at mid start bits c + (if nat_eq c to then 1 else 0))
          → ((i : ℕ) → i ≢ start + to / fields_of bits → slice_index new i ≡ slice_index mid i)
          → HoldsCounts h k new (counts_between h p (moved p v to) (take (idx + 1) nets))
      pin_moved new mid_others raised new_others =
          HoldsCounts-net h k words new (counts_between h p (moved p v to) (take idx nets)) (counts_between h p (moved p v to) (take (idx + 1) nets)) e held
          at_net
          (λ b low.
          let a = count_same h k e start bits es eb new b in
          let n = now_at b low in
          let l = lowered b in
          let r = raised b in
          let c = changed_counts b in
          let d = between_done h p (moved p v to) (take (idx + 1) nets) e b now in
          omega arith)
          (λ i apart.
          new_others i (λ q. apart (to / fields_of (net_bits h e)) (word_of to block) (q ∙ place to))
          ∙ mid_others i (λ q. apart (block_of p v / fields_of (net_bits h e)) (word_of (block_of p v) old_block) (q ∙ place (block_of p v))))
          (λ i b q. ap (λ t. if t then counts_of h (moved p v to) i b else counts_of h p i b) (still i q))
        where
          word_of : (b : ℕ) → b < k → b / fields_of (net_bits h e) < net_words h k e
          word_of b low = word_below (net_bits h e) (net_words h k e) b (bits_width (length (net_of h e).pins)) (within b low)

          place : (b : ℕ) → start + b / fields_of bits ≡ net_start h k e + b / fields_of (net_bits h e)
          place b = ap (λ s. s + b / fields_of bits) es ∙ ap (λ w. net_start h k e + b / fields_of w) eb

-- ---- the pin moved on all nets

member_filter : (test : ℕ → Bool) (xs : List ℕ) (e : ℕ) → test e ≡ true → is_member nat_eq xs e ≡ true → is_member nat_eq (filter test xs) e ≡ true
member_filter test [] e t m = m
member_filter test (x ∷ xs) e t m = by (nat_eq e x) (test x) refl refl m (member_filter test xs e t)
  where
    by : (s u : Bool) → nat_eq e x ≡ s → test x ≡ u → (s || is_member nat_eq xs e) ≡ true →
        (is_member nat_eq xs e ≡ true → is_member nat_eq (filter test xs) e ≡ true) → is_member nat_eq (cond u (x ∷ filter test xs) (filter test xs)) e ≡
        true
    by true true q r m f = ap (λ b. b || is_member nat_eq (filter test xs) e) q
    by true false q r m f = absurd (true≢false (sym t ∙ ap test (eqb-true e x q) ∙ r))
    by false true q r m f = ap (λ b. nat_eq e x || b) (f m) ∙ or-true (nat_eq e x)
    by false false q r m f = f m

-- a net that has a vertex is in its list
member_of : (h : Hyper) (v e : ℕ) → e < net_count h → Contains (net_of h e).pins v → is_member nat_eq (nets_of h v) e ≡ true
member_of h v e l c =
    let on = (is_member-Decides Decides-eqb (net_of h e).pins v).1 c in
    let listed = list_any_at (nat_eq e) (range_with_len 0 (net_count h)) e 0 (let n = length-range_with_len 0 (net_count h) in omega arith)
    (eq-eqb e (get_or (range_with_len 0 (net_count h)) e 0) (let g = get_or-range_with_len 0 (net_count h) e 0 l in omega arith)) in
    member_filter (is_on h v) (range_with_len 0 (net_count h)) e on listed

between_all : (h : Hyper) (p : List ℕ) (v to e b : ℕ) → v < length p → e < net_count h → counts_between h p (moved p v to) (nets_of h v) e b ≡ counts_of h
    (moved p v to) e b
between_all h p v to e b inside l = by (is_member nat_eq (nets_of h v) e) refl
  where
    by : (t : Bool) → is_member nat_eq (nets_of h v) e ≡ t → (if t then counts_of h (moved p v to) e b else counts_of h p e b) ≡ counts_of h (moved p v to)
        e b
    by true q = refl
    by false q =
        sym (pins_in-set_apart p (net_of h e).pins v to inside (λ c. absurd (true≢false (sym (member_of h v e l c) ∙ q))) b)

pub all_moved : (h : Hyper) (k : ℕ) (p words : List ℕ) (v to : ℕ) → v < length p → HoldsCounts h k words (counts_between h p (moved p v to) (nets_of h v)) →
    HoldsCounts h k words (counts_of h (moved p v to))
all_moved h k p words v to inside held e b l low = held e b l low ∙ between_all h p v to e b inside l

spread_between_all : (h : Hyper) (p : List ℕ) (v to e : ℕ) → v < length p → e < net_count h →
    (if is_member nat_eq (nets_of h v) e then connectivity (moved p v to) (net_of h e).pins else connectivity p (net_of h e).pins) ≡ connectivity
    (moved p v to) (net_of h e).pins
spread_between_all h p v to e inside l = by (is_member nat_eq (nets_of h v) e) refl
  where
    by : (t : Bool) → is_member nat_eq (nets_of h v) e ≡ t → (if t then connectivity (moved p v to) (net_of h e).pins else connectivity p
        (net_of h e).pins) ≡ connectivity (moved p v to) (net_of h e).pins
    by true q = refl
    by false q = sym (connectivity-set_apart p (net_of h e).pins v to inside (λ c. absurd (true≢false (sym (member_of h v e l c) ∙ q))))

pub all_respread : (h : Hyper) (k : ℕ) (p words : List ℕ) (v to : ℕ) → v < length p → HaveSpreadsBetween h k p (moved p v to) (nets_of h v) words →
    HaveSpreads h k (moved p v to) (net_count h) words
all_respread h k p words v to inside have e l = have e l ∙ ap (λ n. 64 + n) (spread_between_all h p v to e inside l)

-- no net has been respread yet
pub none_respread : (h : Hyper) (k : ℕ) (p after words : List ℕ) → HaveSpreads h k p (net_count h) words → HaveSpreadsBetween h k p after [] words
none_respread h k p after words have e l = have e l
