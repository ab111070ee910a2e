-- Where the words of a round stand: each within the table, and no two at one place but the counts that share a word.
use Rattle.std.proofs.Common.{◌≡◌, ◌≢◌, ℕ, ◌+◌, ◌*◌, ◌/◌, ◌%◌, ◌<◌, ◌≤◌, inl, inr, true, List, length, slice_index, set}
use Rattle.std.proofs.Common.{get_or-set_same, get_or-set_other, nat_lt, refl, sym, ap, ◌∙◌, subst, arith}
use Rattle.std.proofs.lemmas.Bool.{ltb-true, and_parts, cases_lt, cases_eq}
use Rattle.std.proofs.lemmas.Nat.{div-add-mod'}
use Rattle.hg_defs.specs.Hypergraph.{vertex_count, net_count, net_of}
use Rattle.hg_defs.proofs.SumLaws.{sum_below_more, sum_below-le_more}
use Rattle.hg_base.specs.Packed.{IsWidth, fields_of, bits_of, words_of, field}
use Rattle.pin_plain.proofs.CountLaws.{bits_width, fields_enough, word_below}
use Rattle.pin_plain.specs.Counts.{net_bits}
use Rattle.move_core.specs.declared.events.Word.{Word}
use Rattle.move_core.specs.declared.events.Word.TheVariants as word
use Rattle.move_core.specs.State.{Setup, read}
use Rattle.move_core.specs.Events.{is_word}
use Rattle.move_table.specs.Places.{words_at_net, net_place, word_count, word_place, counts_place, field_place, number_in, table_readings}

-- the word is one of the round's
abbrev pub Exists : Setup → Word → Type 0
Exists s (word.Claim v) = v < vertex_count s.graph
Exists s (word.Name v) = v < vertex_count s.graph
Exists s (word.Load b) = b < s.blocks
Exists s (word.Count e b) = (e < net_count s.graph) × (b < s.blocks)
Exists s (word.Spread e) = e < net_count s.graph
Exists s word.Next = Unit {0}
Exists s word.Cursor = Unit {0}

pub exists_word : (s : Setup) (w : Word) → is_word s w ≡ true → Exists s w
exists_word s (word.Claim v) h = ltb-true v (vertex_count s.graph) h
exists_word s (word.Name v) h = ltb-true v (vertex_count s.graph) h
exists_word s (word.Load b) h = ltb-true b s.blocks h
exists_word s (word.Count e b) h =
    let p = and_parts (nat_lt e (net_count s.graph)) (nat_lt b s.blocks) h in (ltb-true e (net_count s.graph) p.0, ltb-true b s.blocks p.1)
exists_word s (word.Spread e) h = ltb-true e (net_count s.graph) h
exists_word s word.Next h = tt
exists_word s word.Cursor h = tt

-- the number in a word's field, where another number is written into that word: it keeps the other fields
abbrev pub KeepsFields : Setup → Word → ℕ → ℕ → Type 0
KeepsFields s (word.Claim v) n y = Unit {0}
KeepsFields s (word.Name v) n y = Unit {0}
KeepsFields s (word.Load b) n y = Unit {0}
KeepsFields s (word.Count e b) n y = (q : ℕ) → q ≢ field_place s e b → field y (net_bits s.graph e) q ≡ field n (net_bits s.graph e) q
KeepsFields s (word.Spread e) n y = Unit {0}
KeepsFields s word.Next n y = Unit {0}
KeepsFields s word.Cursor n y = Unit {0}

-- the count of a block stands in one of its net's words
pub word_within : (pins k b : ℕ) → b < k → b / fields_of (bits_of pins) < words_of pins k
word_within pins k b l = word_below (bits_of pins) (words_of pins k) b (bits_width pins) (let e = fields_enough pins k in omega arith)

module _ (s : Setup) where
  -- what a word reads is the number that its word of the table tells
  pub reads_number : (words : List ℕ) (w : Word) → read (table_readings s words) w ≡ number_in s w (slice_index words (word_place s w))
  reads_number words (word.Claim v) = refl
  reads_number words (word.Name v) = refl
  reads_number words (word.Load b) = refl
  reads_number words (word.Count e b) = refl
  reads_number words (word.Spread e) = refl
  reads_number words word.Next = refl
  reads_number words word.Cursor = refl

  -- ---- the words of the nets

  pub net_place_next : (e : ℕ) → net_place s (e + 1) ≡ net_place s e + words_at_net s e
  net_place_next e = let m = sum_below_more (words_at_net s) e in omega arith

  pub net_place-below : (e : ℕ) → e < net_count s.graph → net_place s e + words_at_net s e ≤ word_count s
  net_place-below e l =
      let n = net_place_next e in
      let m = sum_below-le_more (words_at_net s) (e + 1) (net_count s.graph) (omega arith) in
      omega arith

  pub counts-within : (e b : ℕ) → b < s.blocks → counts_place s e b < net_place s e + words_at_net s e
  counts-within e b l = let w = word_within (length (net_of s.graph e).pins) s.blocks b l in omega arith

  nets_apart : (e f x y : ℕ) → e ≢ f → x < words_at_net s e → y < words_at_net s f → net_place s e + x ≢ net_place s f + y
  nets_apart e f x y other a b =
      elim (cases_lt e f) [
        | inl q ↦ let n = net_place_next e in let m = sum_below-le_more (words_at_net s) (e + 1) f (omega arith) in omega arith
        | inr q ↦ let n = net_place_next f in let m = sum_below-le_more (words_at_net s) (f + 1) e (grind arith) in omega arith
      ]

  pub place-below : (w : Word) → Exists s w → word_place s w < word_count s
  place-below (word.Claim v) l = omega arith
  place-below (word.Name v) l = omega arith
  place-below (word.Load b) l = omega arith
  place-below (word.Count e b) l = let n = net_place-below e l.0 in let c = counts-within e b l.1 in omega arith
  place-below (word.Spread e) l = let n = net_place-below e l in omega arith
  place-below word.Next l = omega arith
  place-below word.Cursor l = omega arith

  -- ---- a number written into a word

  module _ (words : List ℕ) (y : ℕ) where
    far : (i j : ℕ) → j ≢ i → slice_index (set words i y) j ≡ slice_index words j
    far i j n = get_or-set_other words i j y 0 n

    -- a word at another place
    apart : (w u : Word) → word_place s u ≢ word_place s w → read (table_readings s (set words (word_place s w) y)) u ≡ read (table_readings s words) u
    apart w u n =
        reads_number (set words (word_place s w) y) u
        ∙ ap (number_in s u) (far (word_place s w) (word_place s u) n)
        ∙ sym (reads_number words u)

    one_field : (f b c : ℕ) → c / f ≡ b / f → c ≢ b → c % f ≢ b % f
    one_field f b c q n r = n (sym (div-add-mod' c f) ∙ ap (λ x. x * f + c % f) q ∙ ap (λ x. b / f * f + x) r ∙ div-add-mod' b f)

    two_counts : (e b f c : ℕ) → Exists s (word.Count e b) → Exists s (word.Count f c) → word.Count f c ≢ word.Count e b → KeepsFields s (word.Count e b)
        (slice_index words (counts_place s e b)) y → counts_place s e b < length words → read (table_readings s (set words (counts_place s e b) y))
        (word.Count f c) ≡ read (table_readings s words) (word.Count f c)
    two_counts e b f c k l n keeps inside =
        elim (cases_eq f e) [
          | inl q ↦ subst (λ g. word.Count g c ≢ word.Count e b → read (table_readings s (set words (counts_place s e b) y)) (word.Count g c) ≡ read
              (table_readings s words) (word.Count g c)) (sym q) own n
          | inr q ↦
              let x = counts-within e b k.1 in
              let z = counts-within f c l.1 in
              let d = nets_apart f e (1 + c / fields_of (net_bits s.graph f)) (1 + b / fields_of (net_bits s.graph e)) q (omega arith) (omega arith) in
              apart (word.Count e b) (word.Count f c) (λ r. d (omega arith))
        ]
      where
        own : word.Count e c ≢ word.Count e b → read (table_readings s (set words (counts_place s e b) y)) (word.Count e c) ≡ read (table_readings s words)
            (word.Count e c)
        own o =
            elim (cases_eq (c / fields_of (net_bits s.graph e)) (b / fields_of (net_bits s.graph e))) [
              | inl q ↦
                  let at : counts_place s e c ≡ counts_place s e b = ap (λ x. net_place s e + 1 + x) q in
                  ap (λ i. field (slice_index (set words (counts_place s e b) y) i) (net_bits s.graph e) (field_place s e c)) at
                  ∙ ap (λ n. field n (net_bits s.graph e) (field_place s e c)) (get_or-set_same words (counts_place s e b) y 0 inside)
                  ∙ keeps (field_place s e c) (one_field (fields_of (net_bits s.graph e)) b c q (λ r. o (ap (word.Count e) r)))
                  ∙ ap (λ i. field (slice_index words i) (net_bits s.graph e) (field_place s e c)) (sym at)
              | inr q ↦ apart (word.Count e b) (word.Count e c) (λ r. q (omega arith))
            ]

    two_spreads : (e f : ℕ) → word.Spread f ≢ word.Spread e → net_place s f ≢ net_place s e
    two_spreads e f n r = nets_apart f e 0 0 (λ q. n (ap word.Spread q)) (omega arith) (omega arith) (omega arith)

    spread_count : (e f c : ℕ) → c < s.blocks → counts_place s f c ≢ net_place s e
    spread_count e f c l r =
        elim (cases_eq f e) [
          | inl q ↦ let p : net_place s f ≡ net_place s e = ap (net_place s) q in absurd (omega arith)
          | inr q ↦ let z = counts-within f c l in nets_apart f e (1 + c / fields_of (net_bits s.graph f)) 0 q (omega arith) (omega arith) (omega arith)
        ]

    pub others_read : (w u : Word) → Exists s w → Exists s u → u ≢ w → word_place s w < length words → KeepsFields s w (slice_index words (word_place s w))
        y →
        read (table_readings s (set words (word_place s w) y)) u ≡ read (table_readings s words) u
    others_read (word.Claim v) (word.Claim u) k l n i f = apart (word.Claim v) (word.Claim u) (λ q. n (ap word.Claim q))
    others_read (word.Claim v) (word.Name u) k l n i f = apart (word.Claim v) (word.Name u) (λ q. absurd (omega arith))
    others_read (word.Claim v) (word.Load c) k l n i f = apart (word.Claim v) (word.Load c) (λ q. absurd (omega arith))
    others_read (word.Claim v) (word.Count e c) k l n i f = apart (word.Claim v) (word.Count e c) (λ q. absurd (omega arith))
    others_read (word.Claim v) (word.Spread e) k l n i f = apart (word.Claim v) (word.Spread e) (λ q. absurd (omega arith))
    others_read (word.Claim v) word.Next k l n i f = apart (word.Claim v) word.Next (λ q. absurd (omega arith))
    others_read (word.Claim v) word.Cursor k l n i f = apart (word.Claim v) word.Cursor (λ q. absurd (omega arith))
    others_read (word.Name v) (word.Claim u) k l n i f = apart (word.Name v) (word.Claim u) (λ q. absurd (omega arith))
    others_read (word.Name v) (word.Name u) k l n i f = apart (word.Name v) (word.Name u) (λ q. n (ap word.Name (omega arith)))
    others_read (word.Name v) (word.Load c) k l n i f = apart (word.Name v) (word.Load c) (λ q. absurd (omega arith))
    others_read (word.Name v) (word.Count e c) k l n i f = apart (word.Name v) (word.Count e c) (λ q. absurd (omega arith))
    others_read (word.Name v) (word.Spread e) k l n i f = apart (word.Name v) (word.Spread e) (λ q. absurd (omega arith))
    others_read (word.Name v) word.Next k l n i f = apart (word.Name v) word.Next (λ q. absurd (omega arith))
    others_read (word.Name v) word.Cursor k l n i f = apart (word.Name v) word.Cursor (λ q. absurd (omega arith))
    others_read (word.Load b) (word.Claim u) k l n i f = apart (word.Load b) (word.Claim u) (λ q. absurd (omega arith))
    others_read (word.Load b) (word.Name u) k l n i f = apart (word.Load b) (word.Name u) (λ q. absurd (omega arith))
    others_read (word.Load b) (word.Load c) k l n i f = apart (word.Load b) (word.Load c) (λ q. n (ap word.Load (omega arith)))
    others_read (word.Load b) (word.Count e c) k l n i f = apart (word.Load b) (word.Count e c) (λ q. absurd (omega arith))
    others_read (word.Load b) (word.Spread e) k l n i f = apart (word.Load b) (word.Spread e) (λ q. absurd (omega arith))
    others_read (word.Load b) word.Next k l n i f = apart (word.Load b) word.Next (λ q. absurd (omega arith))
    others_read (word.Load b) word.Cursor k l n i f = apart (word.Load b) word.Cursor (λ q. absurd (omega arith))
    others_read (word.Count e b) (word.Claim u) k l n i f = apart (word.Count e b) (word.Claim u) (λ q. absurd (omega arith))
    others_read (word.Count e b) (word.Name u) k l n i f = apart (word.Count e b) (word.Name u) (λ q. absurd (omega arith))
    others_read (word.Count e b) (word.Load c) k l n i f = apart (word.Count e b) (word.Load c) (λ q. absurd (omega arith))
    others_read (word.Count e b) (word.Count g c) k l n i f = two_counts e b g c k l n f i
    others_read (word.Count e b) (word.Spread g) k l n i f = apart (word.Count e b) (word.Spread g) (λ q. spread_count g e b k.1 (sym q))
    others_read (word.Count e b) word.Next k l n i f = apart (word.Count e b) word.Next (λ q. absurd (omega arith))
    others_read (word.Count e b) word.Cursor k l n i f = apart (word.Count e b) word.Cursor (λ q. absurd (omega arith))
    others_read (word.Spread e) (word.Claim u) k l n i f = apart (word.Spread e) (word.Claim u) (λ q. absurd (omega arith))
    others_read (word.Spread e) (word.Name u) k l n i f = apart (word.Spread e) (word.Name u) (λ q. absurd (omega arith))
    others_read (word.Spread e) (word.Load c) k l n i f = apart (word.Spread e) (word.Load c) (λ q. absurd (omega arith))
    others_read (word.Spread e) (word.Count g c) k l n i f = apart (word.Spread e) (word.Count g c) (spread_count e g c l.1)
    others_read (word.Spread e) (word.Spread g) k l n i f = apart (word.Spread e) (word.Spread g) (two_spreads e g n)
    others_read (word.Spread e) word.Next k l n i f = apart (word.Spread e) word.Next (λ q. absurd (omega arith))
    others_read (word.Spread e) word.Cursor k l n i f = apart (word.Spread e) word.Cursor (λ q. absurd (omega arith))
    others_read word.Next (word.Claim u) k l n i f = apart word.Next (word.Claim u) (λ q. absurd (omega arith))
    others_read word.Next (word.Name u) k l n i f = apart word.Next (word.Name u) (λ q. absurd (omega arith))
    others_read word.Next (word.Load c) k l n i f = apart word.Next (word.Load c) (λ q. absurd (omega arith))
    others_read word.Next (word.Count e c) k l n i f = apart word.Next (word.Count e c) (λ q. absurd (omega arith))
    others_read word.Next (word.Spread e) k l n i f = apart word.Next (word.Spread e) (λ q. absurd (omega arith))
    others_read word.Next word.Next k l n i f = absurd (n refl)
    others_read word.Next word.Cursor k l n i f = apart word.Next word.Cursor (λ q. absurd (omega arith))
    others_read word.Cursor (word.Claim u) k l n i f = apart word.Cursor (word.Claim u) (λ q. absurd (omega arith))
    others_read word.Cursor (word.Name u) k l n i f = apart word.Cursor (word.Name u) (λ q. absurd (omega arith))
    others_read word.Cursor (word.Load c) k l n i f = apart word.Cursor (word.Load c) (λ q. absurd (omega arith))
    others_read word.Cursor (word.Count e c) k l n i f = apart word.Cursor (word.Count e c) (λ q. absurd (omega arith))
    others_read word.Cursor (word.Spread e) k l n i f = apart word.Cursor (word.Spread e) (λ q. absurd (omega arith))
    others_read word.Cursor word.Next k l n i f = apart word.Cursor word.Next (λ q. absurd (omega arith))
    others_read word.Cursor word.Cursor k l n i f = absurd (n refl)

-- the first count of a word of a net stands in that word, in its first field
pub first_word : (bits i : ℕ) → IsWidth bits → i * fields_of bits / fields_of bits ≡ i
first_word bits i (inl e) = subst (λ (b : ℕ). i * (64 / b) / (64 / b) ≡ i) (sym e) (omega arith)
first_word bits i (inr (inl e)) = subst (λ (b : ℕ). i * (64 / b) / (64 / b) ≡ i) (sym e) (omega arith)
first_word bits i (inr (inr e)) = subst (λ (b : ℕ). i * (64 / b) / (64 / b) ≡ i) (sym e) (omega arith)

pub first_field : (bits i : ℕ) → IsWidth bits → i * fields_of bits % fields_of bits ≡ 0
first_field bits i (inl e) = subst (λ (b : ℕ). i * (64 / b) % (64 / b) ≡ 0) (sym e) (omega arith)
first_field bits i (inr (inl e)) = subst (λ (b : ℕ). i * (64 / b) % (64 / b) ≡ 0) (sym e) (omega arith)
first_field bits i (inr (inr e)) = subst (λ (b : ℕ). i * (64 / b) % (64 / b) ≡ 0) (sym e) (omega arith)
