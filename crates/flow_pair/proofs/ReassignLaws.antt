-- A partition after the vertices of a list got the blocks at their places.
use Rattle.std.proofs.Common.{◌≡◌, ◌≢◌, ◌⊎◌, inl, inr, ℕ, zero, suc, ◌+◌, ◌<◌, Bool, true, false, nat_eq, if◌then◌else◌}
use Rattle.std.proofs.Common.{List, [], ◌∷◌, length, All, drop, refl, sym, ap, subst, ◌∙◌, arith}
use Rattle.std.proofs.Common.{slice_index, slice_set, get_or-set_same, get_or-set_other, length-set}
use Rattle.std.specs.List.Sorted.{IsStrictlyIncreasing}
use Rattle.std.proofs.lemmas.Bool.{eq-eqb, ne_eqb}
use Rattle.std.proofs.lemmas.List.{get_or_default, drop_more}
use Rattle.std.proofs.lemmas.List.Elements.{All-head, All-tail}
use Rattle.hg_defs.specs.Partition.{block_of}
use Rattle.flow_net.specs.Flow.{is_in}
use Rattle.round_log.specs.Rounds.{IsAssignment}
use Rattle.flow_pair.specs.PairEnds.{reassigned}
use Rattle.flow_pair.proofs.RegionLaws.{rising-tail, rising-first}

pub length-reassigned : (p vs blocks : List ℕ) → length (reassigned p vs blocks) ≡ length p
length-reassigned p [] blocks = refl
length-reassigned p (v ∷ vs) [] = refl
length-reassigned p (v ∷ vs) (b ∷ blocks) = length-set (reassigned p vs blocks) v b ∙ length-reassigned p vs blocks

pub reassigned-other : (p vs blocks : List ℕ) (u : ℕ) → All (λ v. v ≢ u) vs → block_of (reassigned p vs blocks) u ≡ block_of p u
reassigned-other p [] blocks u n = refl
reassigned-other p (v ∷ vs) [] u n = refl
reassigned-other p (v ∷ vs) (b ∷ blocks) u n =
    get_or-set_other (reassigned p vs blocks) v u b 0 (λ e. All-head (λ x. x ≢ u) v vs n (sym e)) ∙ reassigned-other p vs blocks u
    (All-tail (λ x. x ≢ u) v vs n)

pub reassigned-at : (p vs blocks : List ℕ) (i : ℕ) → IsStrictlyIncreasing vs → All (λ v. v < length p) vs → length blocks ≡ length vs → i < length vs
    → block_of (reassigned p vs blocks) (slice_index vs i) ≡ slice_index blocks i
reassigned-at p [] blocks i r inside long l = absurd (omega arith)
reassigned-at p (v ∷ vs) [] i r inside long l = absurd (omega arith)
reassigned-at p (v ∷ vs) (b ∷ blocks) zero r inside long l =
    get_or-set_same (reassigned p vs blocks) v b 0 (let x = length-reassigned p vs blocks in let y = All-head (λ u. u < length p) v vs inside in
    omega arith)
reassigned-at p (v ∷ vs) (b ∷ blocks) (suc i) r inside long l =
    let x = rising-first v vs i r (omega arith) in
    get_or-set_other (reassigned p vs blocks) v (slice_index vs i) b 0 (λ e. absurd (omega arith))
    ∙ reassigned-at p vs blocks i (rising-tail v vs r) (All-tail (λ u. u < length p) v vs inside) (omega arith) (omega arith)

-- ---- the first vertex may get its block before the others

set-apart : (l : List ℕ) (i j x y : ℕ) → i ≢ j → slice_set (slice_set l i x) j y ≡ slice_set (slice_set l j y) i x
set-apart [] i j x y n = refl
set-apart (z ∷ l) zero zero x y n = absurd (n refl)
set-apart (z ∷ l) zero (suc j) x y n = refl
set-apart (z ∷ l) (suc i) zero x y n = refl
set-apart (z ∷ l) (suc i) (suc j) x y n = ap (λ r. z ∷ r) (set-apart l i j x y (λ e. n (ap suc e)))

pub reassigned-first : (p : List ℕ) (v b : ℕ) (vs blocks : List ℕ) → All (λ u. u ≢ v) vs
    → reassigned (slice_set p v b) vs blocks ≡ slice_set (reassigned p vs blocks) v b
reassigned-first p v b [] blocks n = refl
reassigned-first p v b (u ∷ vs) [] n = refl
reassigned-first p v b (u ∷ vs) (c ∷ blocks) n =
    ap (λ q. slice_set q u c) (reassigned-first p v b vs blocks (All-tail (λ x. x ≢ v) u vs n))
    ∙ set-apart (reassigned p vs blocks) v u b c (λ e. All-head (λ x. x ≢ v) u vs n (sym e))

-- ---- the rest of a list

pub drop_here : (xs : List ℕ) (i : ℕ) → i < length xs → drop i xs ≡ slice_index xs i ∷ drop (i + 1) xs
drop_here xs i l = drop_more xs i 0 l

rising_rest : (vs : List ℕ) (i : ℕ) → IsStrictlyIncreasing vs → i < length vs → All (λ u. u ≢ slice_index vs i) (drop (suc i) vs)
rising_rest [] i r l = absurd (omega arith)
rising_rest (v ∷ vs) zero r l = λ j d m. subst (λ x. x ≢ v) (get_or_default vs j 0 d m) (let x = rising-first v vs j r m in λ e. absurd (omega arith))
rising_rest (v ∷ vs) (suc i) r l = rising_rest vs i (rising-tail v vs r) (omega arith)

-- a number of a rising list differs from all later ones
pub rising-later : (vs : List ℕ) (i : ℕ) → IsStrictlyIncreasing vs → i < length vs → All (λ u. u ≢ slice_index vs i) (drop (i + 1) vs)
rising-later vs i r l =
    let e : suc i ≡ i + 1 = omega arith in
    subst (λ n. All (λ u. u ≢ slice_index vs i) (drop n vs)) e (rising_rest vs i r l)

-- ---- a region after each vertex got one of two blocks, by the sides of the nodes from 2 on

pair_of : (t : Bool) (a b : ℕ) → a ≢ b → nat_eq (if t then a else b) a ≡ t
pair_of true a b n = eq-eqb a a refl
pair_of false a b n = ne_eqb b a (λ e. n (sym e))

one_of : (t : Bool) (a b x : ℕ) → x ≡ (if t then a else b) → (x ≡ a) ⊎ (x ≡ b)
one_of true a b x e = inl e
one_of false a b x e = inr e

module _ (p : List ℕ) (a b : ℕ) (region blocks : List ℕ) (side : List Bool) (apart : a ≢ b) (rises : IsStrictlyIncreasing region)
    (within : All (λ v. v < length p) region) (long : length blocks ≡ length region)
    (each : (i : ℕ) → i < length blocks → slice_index blocks i ≡ (if is_in side (2 + i) then a else b)) where
  pub anew_at : (i : ℕ) → i < length region → block_of (reassigned p region blocks) (slice_index region i) ≡ (if is_in side (2 + i) then a else b)
  anew_at i m = reassigned-at p region blocks i rises within long m ∙ each i (omega arith)

  pub assigned_anew : IsAssignment p a b region (reassigned p region blocks)
  assigned_anew = record {
    vertices = length-reassigned p region blocks;
    inside = λ i d m. subst (λ v. (block_of (reassigned p region blocks) v ≡ a) ⊎ (block_of (reassigned p region blocks) v ≡ b))
        (get_or_default region i 0 d m)
        (one_of (is_in side (2 + i)) a b (block_of (reassigned p region blocks) (slice_index region i)) (anew_at i m));
    outside = λ v n. reassigned-other p region blocks v n;
  }

  pub anew_places : (i : ℕ) → i < length region → is_in side (2 + i) ≡ nat_eq (block_of (reassigned p region blocks) (slice_index region i)) a
  anew_places i m = sym (ap (λ x. nat_eq x a) (anew_at i m) ∙ pair_of (is_in side (2 + i)) a b apart)
