-- A step on one word: what every word reads afterwards.
use Rattle.std.proofs.Common.{◌≡◌, ◌≢◌, ℕ, ◌<◌, Bool, true, false, ◌&&◌, if◌then◌else◌, nat_eq, nat_lt, refl, sym, ap, ◌∙◌}
use Rattle.std.proofs.lemmas.Bool.{true≢false, eqb-true, eq-eqb, lt-ltb, and_parts, and_from}
use Rattle.hg_defs.specs.Hypergraph.{vertex_count, net_count}
use Rattle.move_core.specs.declared.events.Word.{Word}
use Rattle.move_core.specs.declared.events.Word.TheVariants as word
use Rattle.move_core.specs.State.{Setup, Readings, read}
use Rattle.move_core.specs.Events.{is_word, WritesWord}

abbrev pub is_claim : Word → ℕ → Bool
is_claim (word.Claim v) u = nat_eq v u
is_claim _ u = false

abbrev pub is_name : Word → ℕ → Bool
is_name (word.Name v) u = nat_eq v u
is_name _ u = false

abbrev pub is_load : Word → ℕ → Bool
is_load (word.Load b) c = nat_eq b c
is_load _ c = false

abbrev pub is_count : Word → ℕ → ℕ → Bool
is_count (word.Count e b) f c = nat_eq e f && nat_eq b c
is_count _ f c = false

abbrev pub is_spread : Word → ℕ → Bool
is_spread (word.Spread e) f = nat_eq e f
is_spread _ f = false

abbrev pub is_next : Word → Bool
is_next word.Next = true
is_next _ = false

abbrev pub is_cursor : Word → Bool
is_cursor word.Cursor = true
is_cursor _ = false

-- what every word reads after x was written into one of them
pub record WordsAfter (s : Setup) (r r' : Readings) (w : Word) (x : ℕ) : Type 0 where
  pub claim : (v : ℕ) → v < vertex_count s.graph → r'.claim v ≡ (if is_claim w v then x else r.claim v)
  pub name : (v : ℕ) → v < vertex_count s.graph → r'.name v ≡ (if is_name w v then x else r.name v)
  pub load : (b : ℕ) → b < s.blocks → r'.load b ≡ (if is_load w b then x else r.load b)
  pub count : (e b : ℕ) → e < net_count s.graph → b < s.blocks → r'.count e b ≡ (if is_count w e b then x else r.count e b)
  pub spread : (e : ℕ) → e < net_count s.graph → r'.spread e ≡ (if is_spread w e then x else r.spread e)
  pub next : r'.next ≡ (if is_next w then x else r.next)
  pub cursor : r'.cursor ≡ (if is_cursor w then x else r.cursor)

-- whether two words are one
abbrev is_same : Word → Word → Bool
is_same w (word.Claim v) = is_claim w v
is_same w (word.Name v) = is_name w v
is_same w (word.Load b) = is_load w b
is_same w (word.Count e b) = is_count w e b
is_same w (word.Spread e) = is_spread w e
is_same w word.Next = is_next w
is_same w word.Cursor = is_cursor w

same-true : (w u : Word) → is_same w u ≡ true → u ≡ w
same-true (word.Claim v) (word.Claim u) h = ap word.Claim (sym (eqb-true v u h))
same-true (word.Name v) (word.Name u) h = ap word.Name (sym (eqb-true v u h))
same-true (word.Load b) (word.Load c) h = ap word.Load (sym (eqb-true b c h))
same-true (word.Count e b) (word.Count f c) h =
    let p = and_parts (nat_eq e f) (nat_eq b c) h in
    ap (λ z. word.Count z c) (sym (eqb-true e f p.0)) ∙ ap (word.Count e) (sym (eqb-true b c p.1))
same-true (word.Spread e) (word.Spread f) h = ap word.Spread (sym (eqb-true e f h))
same-true word.Next word.Next h = refl
same-true word.Cursor word.Cursor h = refl
same-true _ _ h = absurd (true≢false (sym h))

same-false : (w u : Word) → is_same w u ≡ false → u ≢ w
same-false (word.Claim v) u h p = absurd (true≢false (sym (ap (is_same (word.Claim v)) p ∙ eq-eqb v v refl) ∙ h))
same-false (word.Name v) u h p = absurd (true≢false (sym (ap (is_same (word.Name v)) p ∙ eq-eqb v v refl) ∙ h))
same-false (word.Load b) u h p = absurd (true≢false (sym (ap (is_same (word.Load b)) p ∙ eq-eqb b b refl) ∙ h))
same-false (word.Count e b) u h p = absurd (true≢false (sym (ap (is_same (word.Count e b)) p
    ∙ and_from (nat_eq e e) (nat_eq b b) (eq-eqb e e refl) (eq-eqb b b refl)) ∙ h))
same-false (word.Spread e) u h p = absurd (true≢false (sym (ap (is_same (word.Spread e)) p ∙ eq-eqb e e refl) ∙ h))
same-false word.Next u h p = absurd (true≢false (sym (ap (is_same word.Next) p) ∙ h))
same-false word.Cursor u h p = absurd (true≢false (sym (ap (is_same word.Cursor) p) ∙ h))

-- every word there is, from a write
module _ (s : Setup) (w : Word) (x : ℕ) (r r' : Readings) (q : WritesWord s w x r r') where
  reads_after : (u : Word) → is_word s u ≡ true → read r' u ≡ (if is_same w u then x else read r u)
  reads_after u h = by (is_same w u) refl
    where
      by : (z : Bool) → is_same w u ≡ z → read r' u ≡ (if z then x else read r u)
      by true e = ap (read r') (same-true w u e) ∙ q.here
      by false e = q.others u h (same-false w u e)

  pub words_after : WordsAfter s r r' w x
  words_after = record {
    claim = λ v l. reads_after (word.Claim v) (lt-ltb v (vertex_count s.graph) l);
    name = λ v l. reads_after (word.Name v) (lt-ltb v (vertex_count s.graph) l);
    load = λ b l. reads_after (word.Load b) (lt-ltb b s.blocks l);
    count = λ e b l m. reads_after (word.Count e b) (and_from (nat_lt e (net_count s.graph)) (nat_lt b s.blocks) (lt-ltb e (net_count s.graph) l)
        (lt-ltb b s.blocks m));
    spread = λ e l. reads_after (word.Spread e) (lt-ltb e (net_count s.graph) l);
    next = reads_after word.Next refl;
    cursor = reads_after word.Cursor refl;
  }

-- where a word's own reading was written into it, every word reads as before
pub reads_same : (s : Setup) (w : Word) (r r' : Readings) → WritesWord s w (read r w) r r' → (u : Word) → is_word s u ≡ true → read r' u ≡ read r u
reads_same s w r r' q u h = reads_after s w (read r w) r r' q u h ∙ by (is_same w u) refl
  where
    by : (z : Bool) → is_same w u ≡ z → (if z then read r w else read r u) ≡ read r u
    by true e = sym (ap (read r) (same-true w u e))
    by false e = refl

-- reading is a write of what stands there
pub reads_itself : (s : Setup) (w : Word) (r : Readings) → WritesWord s w (read r w) r r
reads_itself s w r = record { here = refl; others = λ u h n. refl }
