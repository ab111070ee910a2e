-- Laws of counts packed into words: a change of one field leaves the others, where the field neither runs over nor falls below 0.
use Rattle.std.proofs.Common.{◌≡◌, ◌≢◌, ℕ, nat_eq, if◌then◌else◌, add-zero, ◌+◌, ◌-◌, ◌*◌, ◌/◌, ◌%◌, ◌^◌, ◌<◌, ◌≤◌, inl, inr}
use Rattle.std.proofs.Common.{replicate, slice_index, refl, sym, ap, ap₂, ◌∙◌, subst, ⊎_elim, arith}
use Rattle.std.proofs.lemmas.Bool.{cases_eq, cases_lt, eq-eqb, ne_eqb}
use Rattle.std.proofs.lemmas.List.{get_or-replicate, get_or_past, length-replicate}
use Rattle.std.proofs.lemmas.Nat.{pow_pos, pow-add, div-mul-add, mod-mul-add, mod_below, div_below, div-add-mod'}
use Rattle.std.proofs.Math.Nat.{add-mul-div_left, add-mul-div_right, add-mul-mod_self_left, div-div-eq-div-mul}
use Rattle.std.proofs.Math.Nat.{div-lt_iff_lt-mul, div-mul-le_self, mul-le-mul_right, mod-le, zero-div, zero-mod}
use Rattle.hg_base.specs.Packed.{field, unit, fields_of, count_at, IsWidth}

-- ---- a number in a base, of which one digit changes

-- u is the unit of the digit, base the number of its values, and n is added
module _ (u base w n : ℕ) (some : 0 < u) (most : w / u % base + n < base) where
  split_sum : w / u / base * base + (w / u % base + n) ≡ w / u + n
  split_sum = let e = div-add-mod' (w / u) base in omega arith

  shifted : (w + n * u) / u ≡ w / u + n
  shifted = add-mul-div_right w n some

  pub digit-same : (w + n * u) / u % base ≡ w / u % base + n
  digit-same = ap (λ x. x % base) (shifted ∙ sym split_sum) ∙ mod-mul-add (w / u / base) base (w / u % base + n) most

  higher : (w + n * u) / u / base ≡ w / u / base
  higher = ap (λ x. x / base) (shifted ∙ sym split_sum) ∙ div-mul-add (w / u / base) base (w / u % base + n) most

  pub digit-above : (t r : ℕ) → t ≡ u * (base * r) → (w + n * u) / t ≡ w / t
  digit-above t r e =
      ap (λ x. (w + n * u) / x) e ∙ sym (div-div-eq-div-mul (w + n * u) u (base * r)) ∙ sym (div-div-eq-div-mul ((w + n * u) / u) base r)
      ∙ ap (λ x. x / r) higher
      ∙ div-div-eq-div-mul (w / u) base r ∙ div-div-eq-div-mul w u (base * r) ∙ ap (λ x. w / x) (sym e)

-- a digit below that of u
digit-below : (t r base w n : ℕ) → 0 < t → (w + n * (t * (base * r))) / t % base ≡ w / t % base
digit-below t r base w n some =
    let e : n * (t * (base * r)) ≡ t * (base * (r * n)) = (omega arith) in
    ap (λ x. (w + x) / t % base) e
    ∙ ap (λ x. x % base) (add-mul-div_left w (base * (r * n)) some)
    ∙ add-mul-mod_self_left (w / t) base (r * n)

-- ---- fields of a word

unit_later : (bits p d : ℕ) → unit bits (p + 1 + d) ≡ unit bits p * (2 ^ bits * 2 ^ (d * bits))
unit_later bits p d =
    ap (λ n. 2 ^ n) (omega arith) ∙ pow-add 2 (p * bits) (bits + d * bits) ∙ ap (λ n. unit bits p * n) (pow-add 2 bits (d * bits))

module _ (bits p w n : ℕ) (most : field w bits p + n < 2 ^ bits) where
  pub field-add_same : field (w + n * unit bits p) bits p ≡ field w bits p + n
  field-add_same = digit-same (unit bits p) (2 ^ bits) w n (pow_pos (p * bits)) most

  pub field-add_other : (q : ℕ) → q ≢ p → field (w + n * unit bits p) bits q ≡ field w bits q
  field-add_other q other =
      ⊎_elim
      (λ (l : q < p).
      let d = p - (q + 1) in
      let at : p ≡ q + 1 + d = omega arith in
      ap (λ x. field (w + n * x) bits q) (ap (unit bits) at ∙ unit_later bits q d)
      ∙ digit-below (unit bits q) (2 ^ (d * bits)) (2 ^ bits) w n (pow_pos (q * bits)))
      (λ (l : p ≤ q).
      let d = q - (p + 1) in
      let at : q ≡ p + 1 + d = omega arith in
      ap (λ x. x % 2 ^ bits)
      (digit-above (unit bits p) (2 ^ bits) w n (pow_pos (p * bits)) most (unit bits q) (2 ^ (d * bits)) (ap (unit bits) at ∙ unit_later bits p d)))
      (cases_lt q p)

  -- the word stays within 64 bits
  pub field-add_fits : w < 2 ^ 64 → (p + 1) * bits ≤ 64 → w + n * unit bits p < 2 ^ 64
  field-add_fits small fits =
      let rest = 64 - (p + 1) * bits in
      let t = unit bits p * (2 ^ bits * 1) in
      let whole : 2 ^ 64 ≡ 2 ^ rest * t =
      (let a = pow-add 2 (p * bits) (bits + rest) in
      let b = ap (λ x. unit bits p * x) (pow-add 2 bits rest) in
      let c : unit bits p * (2 ^ bits * 2 ^ rest) ≡ 2 ^ rest * t = omega arith in
      let exponent : 64 ≡ p * bits + (bits + rest) = omega arith in
      ap (λ x. 2 ^ x) exponent ∙ a ∙ b ∙ c) in
      let some : 0 < t = (let a = pow-add 2 (p * bits) bits in let b = pow_pos (p * bits + bits) in omega arith) in
      let below = div_below w t (2 ^ rest) some (subst (λ x. w < x) whole small) in
      let same = digit-above (unit bits p) (2 ^ bits) w n (pow_pos (p * bits)) most t 1 refl in
      subst (λ x. w + n * unit bits p < x) (sym whole) ((div-lt_iff_lt-mul some).0 (subst (λ x. x < 2 ^ rest) (sym same) below))

-- the field less n
module _ (bits p w n : ℕ) (some : n ≤ field w bits p) where
  pub field-sub_within : n * unit bits p ≤ w
  field-sub_within =
      let a = div-mul-le_self w (unit bits p) in
      let b = mod-le (w / unit bits p) (2 ^ bits) in
      let c : n ≤ w / unit bits p = omega arith in
      let d = mul-le-mul_right (unit bits p) c in
      omega arith

  less : w - n * unit bits p + n * unit bits p ≡ w
  less = let h = field-sub_within in omega arith

  quotient : (w - n * unit bits p) / unit bits p + n ≡ w / unit bits p
  quotient = sym (add-mul-div_right (w - n * unit bits p) n (pow_pos (p * bits))) ∙ ap (λ x. x / unit bits p) less

  pub field-sub_same : field (w - n * unit bits p) bits p ≡ field w bits p - n
  field-sub_same =
      let h = w / unit bits p in
      let base = 2 ^ bits in
      let e = div-add-mod' h base in
      let q = quotient in
      let low = mod_below h base (pow_pos bits) in
      let at : (w - n * unit bits p) / unit bits p ≡ h / base * base + (field w bits p - n) = omega arith in
      ap (λ x. x % base) at ∙ mod-mul-add (h / base) base (field w bits p - n) (omega arith)

  pub field-sub_other : (q : ℕ) → q ≢ p → field (w - n * unit bits p) bits q ≡ field w bits q
  field-sub_other q other =
      let low = mod_below (w / unit bits p) (2 ^ bits) (pow_pos bits) in
      let same = field-sub_same in
      sym (field-add_other bits p (w - n * unit bits p) n (omega arith) q other) ∙ ap (λ x. field x bits q) less

place_within : (bits p : ℕ) → IsWidth bits → p < fields_of bits → (p + 1) * bits ≤ 64
place_within bits p (inl e) = subst (λ b. p < fields_of b → (p + 1) * b ≤ 64) (sym e) (λ l. omega arith)
place_within bits p (inr (inl e)) = subst (λ b. p < fields_of b → (p + 1) * b ≤ 64) (sym e) (λ l. omega arith)
place_within bits p (inr (inr e)) = subst (λ b. p < fields_of b → (p + 1) * b ≤ 64) (sym e) (λ l. omega arith)

-- ---- one field raised or lowered by one

pub raised_field : (w bits p q : ℕ) → field w bits p + 1 < 2 ^ bits → field (w + unit bits p) bits q ≡ field w bits q + (if nat_eq q p then 1 else 0)
raised_field w bits p q most =
    let one : w + unit bits p ≡ w + 1 * unit bits p = omega arith in
    ap (λ x. field x bits q) one
    ∙ ⊎_elim
    (λ (e : q ≡ p).
    ap (λ i. field (w + 1 * unit bits p) bits i) e ∙ field-add_same bits p w 1 most
    ∙ sym (ap (λ i. field w bits i + (if nat_eq i p then 1 else 0)) e ∙ ap (λ t. field w bits p + (if t then 1 else 0)) (eq-eqb p p refl)))
    (λ (e : q ≢ p).
    field-add_other bits p w 1 most q e ∙ sym (add-zero (field w bits q)) ∙ ap (λ t. field w bits q + (if t then 1 else 0)) (sym (ne_eqb q p e)))
    (cases_eq q p)

pub lowered_field : (w bits p q : ℕ) → 0 < field w bits p → field (w - unit bits p) bits q + (if nat_eq q p then 1 else 0) ≡ field w bits q
lowered_field w bits p q some =
    let one : w - unit bits p ≡ w - 1 * unit bits p = omega arith in
    ap (λ x. field x bits q + (if nat_eq q p then 1 else 0)) one
    ∙ ⊎_elim
    (λ (e : q ≡ p).
    ap (λ i. field (w - 1 * unit bits p) bits i + (if nat_eq i p then 1 else 0)) e
    ∙ ap (λ t. field (w - 1 * unit bits p) bits p + (if t then 1 else 0)) (eq-eqb p p refl)
    ∙ (let same = field-sub_same bits p w 1 some in omega arith)
    ∙ ap (field w bits) (sym e))
    (λ (e : q ≢ p).
    ap (λ t. field (w - 1 * unit bits p) bits q + (if t then 1 else 0)) (ne_eqb q p e)
    ∙ add-zero (field (w - 1 * unit bits p) bits q)
    ∙ field-sub_other bits p w 1 some q e)
    (cases_eq q p)

pub raised_field_fits : (w bits p : ℕ) → IsWidth bits → p < fields_of bits → w < 2 ^ 64 → field w bits p + 1 < 2 ^ bits → w + unit bits p < 2 ^ 64
raised_field_fits w bits p width place small most =
    let one : w + unit bits p ≡ w + 1 * unit bits p = omega arith in
    subst (λ x. x < 2 ^ 64) (sym one) (field-add_fits bits p w 1 most small (place_within bits p width place))

pub lowered_field_within : (w bits p : ℕ) → 0 < field w bits p → unit bits p ≤ w
lowered_field_within w bits p some = let h = field-sub_within bits p w 1 some in omega arith

-- ---- the places of fields

pub fields_positive : (bits : ℕ) → IsWidth bits → 0 < fields_of bits
fields_positive bits (inl e) = subst (λ b. 0 < fields_of b) (sym e) (omega arith)
fields_positive bits (inr (inl e)) = subst (λ b. 0 < fields_of b) (sym e) (omega arith)
fields_positive bits (inr (inr e)) = subst (λ b. 0 < fields_of b) (sym e) (omega arith)

pub place_below : (bits b : ℕ) → IsWidth bits → b % fields_of bits < fields_of bits
place_below bits b width = mod_below b (fields_of bits) (fields_positive bits width)

-- a block has a field of its own
pub same_block : (f a b : ℕ) → a / f ≡ b / f → a % f ≡ b % f → a ≡ b
same_block f a b e g = sym (div-add-mod' a f) ∙ ap₂ (λ x y. x * f + y) e g ∙ div-add-mod' b f

-- words of 0 count nothing
pub count_at-zeros : (start bits m b : ℕ) → count_at (replicate m 0) start bits b ≡ 0
count_at-zeros start bits m b =
    ap (λ w. field w bits (b % fields_of bits)) zeros ∙ ap (λ x. x % 2 ^ bits) (zero-div (unit bits (b % fields_of bits))) ∙ zero-mod (2 ^ bits)
  where
    zeros : slice_index (replicate m 0) (start + b / fields_of bits) ≡ 0
    zeros =
        ⊎_elim
        (λ (l : start + b / fields_of bits < m). get_or-replicate m (start + b / fields_of bits) 0 0 l)
        (λ (l : m ≤ start + b / fields_of bits). get_or_past (replicate m 0) (start + b / fields_of bits) 0 (let n = length-replicate {A = ℕ} m 0 in
        omega arith))
        (cases_lt (start + b / fields_of bits) m)
