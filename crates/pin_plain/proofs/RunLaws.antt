-- Laws of a run of nets that is tallied in a part of the words: one net more, and two runs that follow on each other.
use Rattle.std.proofs.Common.{◌≡◌, ◌≢◌, ◌⊎◌, inl, inr, ℕ, ◌+◌, ◌-◌, ◌*◌, ◌/◌, ◌%◌, ◌^◌, ◌<◌, ◌≤◌, List, ◌++◌, length, slice_index, slice_set, All}
use Rattle.std.proofs.Common.{get_or, get_or-set_same, get_or-set_other, length-append, sym, ap, subst, ◌∙◌, arith}
use Rattle.std.proofs.lemmas.Bool.{cases_lt}
use Rattle.std.proofs.lemmas.List.{get_or_append_left, get_or-append-add}
use Rattle.std.proofs.Math.Nat.{zero-div, zero-mod}
use Rattle.hg_base.specs.Packed.{field, fields_of, count_at}
use Rattle.hg_defs.specs.Hypergraph.{Hyper, IsWithinLimits, Suits, net_count, net_of}
use Rattle.hg_defs.specs.Cost.{connectivity}
use Rattle.hg_defs.specs.Pins.{pins_in}
use Rattle.pin_plain.specs.Counts.{net_bits, net_words, net_place, net_start, all_words, counts_of, HoldsCounts, HaveSpreads}
use Rattle.pin_plain.specs.Opened.{SameOutside}
use Rattle.pin_plain.specs.Tallies.{HaveRoom, AreTallied}
use Rattle.pin_plain.proofs.CountLaws.{bits_width, fields_enough, word_below, net_place_next, net_place-le, all_words-le}

-- a count in a word of 0
pub zero_count : (words : List ℕ) (at bits b : ℕ) → slice_index words (at + b / fields_of bits) ≡ 0 → count_at words at bits b ≡ 0
zero_count words at bits b z =
    ap (λ w. field w bits (b % fields_of bits)) z
    ∙ ap (λ w. w % 2 ^ bits) (zero-div (2 ^ ((b % fields_of bits) * bits)))
    ∙ zero-mod (2 ^ bits)

-- ---- one net

module _ (h : Hyper) (k e : ℕ) where
  -- the word of the count of a block, among those of the net
  pub block_word : (b : ℕ) → b < k → b / fields_of (net_bits h e) < net_words h k e
  block_word b l =
      let enough = fields_enough (length (net_of h e).pins) k in
      word_below (net_bits h e) (net_words h k e) b (bits_width (length (net_of h e).pins)) (omega arith)

  -- the words of the net are cleared, its pins are counted, and its number of blocks is written before its counts
  module _ (p : List ℕ) (place at bits : ℕ) (old words mid pins : List ℕ) (here : place + at ≡ net_start h k e) (wide : bits ≡ net_bits h e)
      (same : pins ≡ (net_of h e).pins) (blocks : All (λ b. b < k) p)
      (zeros : (i : ℕ) → at ≤ i → i < at + net_words h k e → slice_index words i ≡ 0) (cleared : SameOutside at (at + net_words h k e) old words)
      (counts : (b : ℕ) → count_at mid at bits b ≡ count_at words at bits b + pins_in p pins b)
      (others : (i : ℕ) → All (λ b. i ≢ at + b / fields_of bits) p → slice_index mid i ≡ slice_index words i) where
    pub net_counted : (b : ℕ) → b < net_words h k e * fields_of (net_bits h e) → count_at mid at (net_bits h e) b ≡ counts_of h p e b
    net_counted b inside =
        let word = subst (λ w. b / fields_of w < net_words h k e) (sym wide)
        (word_below (net_bits h e) (net_words h k e) b (bits_width (length (net_of h e).pins)) inside) in
        let zero = zero_count words at bits b (zeros (at + b / fields_of bits) (omega arith) (omega arith)) in
        let more = counts b in
        let told = ap (λ w. count_at mid at w b) wide in
        let pinned = ap (λ ps. pins_in p ps b) same in
        omega arith

    net_others : (i : ℕ) → (i < at) ⊎ (at + net_words h k e ≤ i) → slice_index mid i ≡ slice_index words i
    net_others i apart = others i (λ j d l q. none apart (get_or p j d / fields_of bits) (word j d l) q)
      where
        word : (j d : ℕ) → j < length p → get_or p j d / fields_of bits < net_words h k e
        word j d l = subst (λ w. get_or p j d / fields_of w < net_words h k e) (sym wide) (block_word (get_or p j d) (blocks j d l))

        none : (i < at) ⊎ (at + net_words h k e ≤ i) → (x : ℕ) → x < net_words h k e → i ≢ at + x
        none (inl l) x low = omega arith
        none (inr l) x low = omega arith

    module _ (t : ℕ) (is : t ≡ connectivity p (net_of h e).pins) (some : 0 < at) (inside : at - 1 < length mid) where
      abbrev new : List ℕ
      new = slice_set mid (at - 1) (64 + t)

      -- the words of the nets before it are as they were
      new_before : (i : ℕ) → place + i < net_place h k e → slice_index new i ≡ slice_index old i
      new_before i l =
          get_or-set_other mid (at - 1) i (64 + t) 0 (omega arith) ∙ net_others i (inl (omega arith)) ∙ cleared i (inl (omega arith))

      pub tallied_more : (from : ℕ) → AreTallied h k p from e place old → AreTallied h k p from (e + 1) place new
      tallied_more from done = record {
        counted = λ i spot b low l q inside. count_of i spot b low (cases_lt i e) l q inside;
        spreads = λ i spot low l q. spread_of i spot low (cases_lt i e) l q;
      }
        where
          count_of : (i spot b : ℕ) → from ≤ i → (i < e) ⊎ (e ≤ i) → i < e + 1 → place + spot ≡ net_start h k i →
              b < net_words h k i * fields_of (net_bits h i) → count_at new spot (net_bits h i) b ≡ counts_of h p i b
          count_of i spot b low (inl before) l q wide_enough =
              let next = net_place_next h k i in
              let upto = net_place-le h k (i + 1) e (omega arith) in
              let word = word_below (net_bits h i) (net_words h k i) b (bits_width (length (net_of h i).pins)) wide_enough in
              ap (λ w. field w (net_bits h i) (b % fields_of (net_bits h i))) (new_before (spot + b / fields_of (net_bits h i)) (omega arith))
              ∙ done.counted i spot b low before q wide_enough
          count_of i spot b low (inr behind) l q wide_enough =
              let it : i ≡ e = omega arith in
              let spot_is : spot ≡ at = (let start = ap (net_start h k) it in omega arith) in
              subst (λ j. count_at new spot (net_bits h j) b ≡ counts_of h p j b) (sym it)
              (subst (λ s. count_at new s (net_bits h e) b ≡ counts_of h p e b) (sym spot_is)
              (ap (λ w. field w (net_bits h e) (b % fields_of (net_bits h e)))
              (get_or-set_other mid (at - 1) (at + b / fields_of (net_bits h e)) (64 + t) 0 (omega arith))
              ∙ net_counted b (subst (λ j. b < net_words h k j * fields_of (net_bits h j)) it wide_enough)))

          spread_of : (i spot : ℕ) → from ≤ i → (i < e) ⊎ (e ≤ i) → i < e + 1 → place + spot ≡ net_place h k i →
              slice_index new spot ≡ 64 + connectivity p (net_of h i).pins
          spread_of i spot low (inl before) l q =
              let next = net_place_next h k i in
              let upto = net_place-le h k (i + 1) e (omega arith) in
              new_before spot (omega arith) ∙ done.spreads i spot low before q
          spread_of i spot low (inr behind) l q =
              let it : i ≡ e = omega arith in
              let spot_is : spot ≡ at - 1 = (let start = ap (net_place h k) it in omega arith) in
              subst (λ j. slice_index new spot ≡ 64 + connectivity p (net_of h j).pins) (sym it)
              (ap (slice_index new) spot_is ∙ get_or-set_same mid (at - 1) (64 + t) 0 inside ∙ ap (λ x. 64 + x) is)

-- ---- runs

pub tallied_none : (h : Hyper) (k : ℕ) (p : List ℕ) (from place : ℕ) (words : List ℕ) → AreTallied h k p from from place words
tallied_none h k p from place words = record {
  counted = λ e at b low l q inside. absurd (omega arith);
  spreads = λ e at low l q. absurd (omega arith);
}

-- a run over all words
pub tallied_counts : (h : Hyper) (k : ℕ) (p words : List ℕ) → AreTallied h k p 0 (net_count h) 0 words → HoldsCounts h k words (counts_of h p)
tallied_counts h k p words done e b l low = done.counted e (net_start h k e) b (omega arith) l (omega arith) low

pub tallied_spreads : (h : Hyper) (k : ℕ) (p words : List ℕ) → AreTallied h k p 0 (net_count h) 0 words → HaveSpreads h k p (net_count h) words
tallied_spreads h k p words done e l = done.spreads e (net_place h k e) (omega arith) l (omega arith)

-- the words are cut where those of a net begin
module _ (h : Hyper) (k from mid to place cut : ℕ) (xs ys zs : List ℕ) (whole : zs ≡ xs ++ ys) (first : place + length xs ≡ cut)
    (at : cut ≡ net_place h k mid) where
  long : length zs ≡ length xs + length ys
  long = ap length whole ∙ length-append xs ys

  pub room_others : mid ≤ to → HaveRoom h k from to place zs → HaveRoom h k mid to cut ys
  room_others m room =
      let ends = room.ends in
      let few = room.few in
      let size = long in
      record {
        ordered = m;
        nets = room.nets;
        begins = omega arith;
        ends = omega arith;
        few = omega arith;
      }

-- two runs that follow on each other
pub tallied_both : (h : Hyper) (k : ℕ) (p : List ℕ) (from mid to place cut : ℕ) (us vs : List ℕ) → place + length us ≡ cut → cut ≡ net_place h k mid →
    AreTallied h k p from mid place us → AreTallied h k p mid to cut vs → AreTallied h k p from to place (us ++ vs)
tallied_both h k p from mid to place cut us vs first here low high = record {
  counted = λ e at b l m q inside. count_of e at b l m q inside (cases_lt e mid);
  spreads = λ e at l m q. spread_of e at l m q (cases_lt e mid);
}
  where
    read_first : (i : ℕ) → i < length us → slice_index (us ++ vs) i ≡ slice_index us i
    read_first i l = get_or_append_left us vs 0 i l

    read_other : (i : ℕ) → length us ≤ i → slice_index (us ++ vs) i ≡ slice_index vs (i - length us)
    read_other i l =
        let split : i ≡ length us + (i - length us) = omega arith in
        ap (λ j. get_or (us ++ vs) j 0) split ∙ get_or-append-add us vs (i - length us) 0

    count_of : (e at b : ℕ) → from ≤ e → e < to → place + at ≡ net_start h k e → b < net_words h k e * fields_of (net_bits h e) →
        (e < mid) ⊎ (mid ≤ e) → count_at (us ++ vs) at (net_bits h e) b ≡ counts_of h p e b
    count_of e at b l m q inside (inl before) =
        let next = net_place_next h k e in
        let upto = net_place-le h k (e + 1) mid (omega arith) in
        let word = word_below (net_bits h e) (net_words h k e) b (bits_width (length (net_of h e).pins)) inside in
        ap (λ w. field w (net_bits h e) (b % fields_of (net_bits h e))) (read_first (at + b / fields_of (net_bits h e)) (omega arith))
        ∙ low.counted e at b l before q inside
    count_of e at b l m q inside (inr behind) =
        let upto = net_place-le h k mid e behind in
        let spot : at + b / fields_of (net_bits h e) - length us ≡ at - length us + b / fields_of (net_bits h e) = omega arith in
        ap (λ w. field w (net_bits h e) (b % fields_of (net_bits h e)))
        (read_other (at + b / fields_of (net_bits h e)) (omega arith) ∙ ap (slice_index vs) spot)
        ∙ high.counted e (at - length us) b behind m (omega arith) inside

    spread_of : (e at : ℕ) → from ≤ e → e < to → place + at ≡ net_place h k e → (e < mid) ⊎ (mid ≤ e) →
        slice_index (us ++ vs) at ≡ 64 + connectivity p (net_of h e).pins
    spread_of e at l m q (inl before) =
        let next = net_place_next h k e in
        let upto = net_place-le h k (e + 1) mid (omega arith) in
        read_first at (omega arith) ∙ low.spreads e at l before q
    spread_of e at l m q (inr behind) =
        let upto = net_place-le h k mid e behind in
        read_other at (omega arith) ∙ high.spreads e (at - length us) behind m (omega arith)

-- where the counts of a net of a run start in its words
pub spot_of : (h : Hyper) (k from to place : ℕ) (words : List ℕ) (e start : ℕ) → HaveRoom h k from to place words → from ≤ e → e < to →
    start ≡ net_start h k e →
    (place + (start - place) ≡ net_start h k e) × ((0 < start - place) × (start - place + net_words h k e ≤ length words))
spot_of h k from to place words e start room l m is =
    let begins = room.begins in
    let ends = room.ends in
    let low = net_place-le h k from e l in
    let next = net_place_next h k e in
    let high = net_place-le h k (e + 1) to (omega arith) in
    (omega arith, (omega arith, omega arith))

-- where the words of a run are cut, if its nets are cut before one of them
pub cut_of : (h : Hyper) (k from mid to place : ℕ) (words : List ℕ) (start : ℕ) → HaveRoom h k from to place words → from ≤ mid → mid ≤ to →
    start ≡ net_start h k mid → (start - 1 ≡ net_place h k mid) × ((place ≤ start - 1) × (start - 1 - place ≤ length words))
cut_of h k from mid to place words start room l m is =
    let begins = room.begins in
    let ends = room.ends in
    let low = net_place-le h k from mid l in
    let high = net_place-le h k mid to m in
    (omega arith, (omega arith, omega arith))

-- all nets, in all words
pub all_room : (h : Hyper) (k : ℕ) (words : List ℕ) → 2 ≤ k → k ≤ 256 → IsWithinLimits h → Suits h k → length words ≡ all_words h k →
    HaveRoom h k 0 (net_count h) 0 words
all_room h k words some few bounds suits long =
    let all = all_words-le h k some few bounds suits in
    record {
      ordered = omega arith;
      nets = omega arith;
      begins = omega arith;
      ends = omega arith;
      few = omega arith;
    }
