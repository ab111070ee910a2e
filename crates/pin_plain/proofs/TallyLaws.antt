-- Laws of the sums that are kept for blocks.
use Rattle.std.proofs.Common.{◌≡◌, ◌≢◌, ◌⊎◌, inl, inr, ℕ, ◌+◌, ◌-◌, ◌*◌, ◌<◌, ◌≤◌, Bool, true, false, ◌||◌, ◌&&◌, nat_le}
use Rattle.std.proofs.Common.{if◌then◌else◌, nat_eq, nat_lt, List, [], ◌∷◌, length, take, replicate, get_or, slice_index, slice_set}
use Rattle.std.proofs.Common.{All, Option, Some, None, refl, sym, ap, subst, ◌∙◌, arith, true≢false}
use Rattle.std.proofs.Math.Bool.{or-true, or-false}
use Rattle.std.proofs.lemmas.List.{length-set, get_or-set_same, get_or-set_other, take_more_set, set-get_or}
use Rattle.std.proofs.lemmas.List.{get_or_default, get_or_past, get_or-replicate, length-replicate}
use Rattle.std.proofs.lemmas.List.Folds.{list_any-append, list_any_more}
use Rattle.std.proofs.lemmas.List.{length-take-le, get_or-take}
use Rattle.std.proofs.lemmas.List.Elements.{All-head, All-tail, All-contains}
use Rattle.std.proofs.lemmas.Bool.Decides.{Decides-eqb}
use Rattle.std.proofs.lemmas.Map.Made.{is_member-Decides}
use Rattle.std.proofs.lemmas.Bool.{cases_eq, cases_lt, eq-eqb, ne_eqb, eqb-true, eqb-false, ltb-true, ltb-false, lt-ltb, leb-true, leb-false, le-leb}
use Rattle.std.specs.Set.{is_member}
use Rattle.hg_defs.specs.Sums.{total}
use Rattle.hg_defs.specs.Partition.{block_of}
use Rattle.hg_defs.specs.Pins.{pins_in, present}
use Rattle.hg_defs.proofs.SumLaws.{total-set, total-zero, total-le, total-ones, total-take_more, weight_if, weight_if-same, weight_if-other}
use Rattle.hg_defs.proofs.DistinctLaws.{present-le, present-zero, present-positive}
use Rattle.pin_plain.specs.Scores.{IsTracked, IsBefore, IsClear, IsTarget, IsHigher, IsTopAmong, amount_for, is_between}
use Rattle.pin_plain.specs.Savings.{saved}
use Rattle.hg_defs.specs.declared.objective.Objective.{Objective}
use Rattle.hg_defs.specs.declared.objective.Objective.TheVariants.{Connectivity, CutNet, ExternalDegree}

-- as long as a number is 0 there are fewer positive ones than numbers
present_room : (xs : List ℕ) (i : ℕ) → i < length xs → slice_index xs i ≡ 0 → total present xs < length xs
present_room xs i l z =
    let more = total-set present xs i 1 0 l in
    let one = present-positive 1 (omega arith) in
    let none = present-zero (slice_index xs i) z in
    let most = total-le present (λ x. 1) (slice_set xs i 1) (λ j d m. present-le (get_or (slice_set xs i 1) j d)) in
    let all = total-ones (slice_set xs i 1) in
    let len = length-set xs i 1 in
    omega arith

module _ (sums touched : List ℕ) (count block amount : ℕ) (tracked : IsTracked sums touched count) (low : block < 256) (some : 0 < amount) where
  pub tracked_room : slice_index sums block ≡ 0 → count < 256
  tracked_room z =
      let size = tracked.blocks in
      let room = present_room sums block (omega arith) z in
      let number = tracked.number in
      omega arith

  after_positive : present (slice_index sums block + amount) ≡ 1
  after_positive = present-positive (slice_index sums block + amount) (omega arith)

  more_present : total present (slice_set sums block (slice_index sums block + amount)) + present (slice_index sums block) ≡ total present sums + 1
  more_present =
      let size = tracked.blocks in
      let more = total-set present sums block (slice_index sums block + amount) 0 (omega arith) in
      let one = after_positive in
      omega arith

  more_positive : (b : ℕ) → block < length sums → 0 < slice_index (slice_set sums block (slice_index sums block + amount)) block
  more_positive b l = let at = get_or-set_same sums block (slice_index sums block + amount) 0 l in omega arith

  kept_positive : (b : ℕ) → 0 < slice_index sums b → 0 < slice_index (slice_set sums block (slice_index sums block + amount)) b
  kept_positive b h = by (cases_eq b block)
    where
      by : (b ≡ block) ⊎ (b ≢ block) → 0 < slice_index (slice_set sums block (slice_index sums block + amount)) b
      by (inl e) = subst (λ c. 0 < slice_index (slice_set sums block (slice_index sums block + amount)) c) (sym e)
          (more_positive block (let size = tracked.blocks in omega arith))
      by (inr q) = let at = get_or-set_other sums block b (slice_index sums block + amount) 0 q in omega arith

  -- a block that had no sum is listed
  pub tracked_new : slice_index sums block ≡ 0 → IsTracked (slice_set sums block (slice_index sums block + amount)) (slice_set touched count block)
      (count + 1)
  tracked_new z = record {
    blocks = length-set sums block (slice_index sums block + amount) ∙ tracked.blocks;
    places = length-set touched count block ∙ tracked.places;
    number = let more = more_present in let none = present-zero (slice_index sums block) z in let number = tracked.number in omega arith;
    below = λ i l. below i l (cases_eq i count);
    real = λ i l. real i l (cases_eq i count);
    listed = λ b h. listed b h (cases_eq b block);
  }
    where
      long : count < length touched
      long = let room = tracked_room z in let places = tracked.places in omega arith

      below : (i : ℕ) → i < count + 1 → (i ≡ count) ⊎ (i ≢ count) → slice_index (slice_set touched count block) i < 256
      below i l (inl e) = subst (λ j. slice_index (slice_set touched count block) j < 256) (sym e) (let at = get_or-set_same touched count block 0 long in
          omega arith)
      below i l (inr q) = let at = get_or-set_other touched count i block 0 q in let was = tracked.below i (let n : i ≢ count = q in omega arith) in
          omega arith

      real : (i : ℕ) → i < count + 1 → (i ≡ count) ⊎ (i ≢ count) → 0 < slice_index (slice_set sums block (slice_index sums block + amount))
          (slice_index (slice_set touched count block) i)
      real i l (inl e) =
          let at = ap (slice_index (slice_set touched count block)) e ∙ get_or-set_same touched count block 0 long in
          subst (λ x. 0 < slice_index (slice_set sums block (slice_index sums block + amount)) x) (sym at)
          (more_positive block (let size = tracked.blocks in omega arith))
      real i l (inr q) =
          let at = get_or-set_other touched count i block 0 q in
          let m : i < count = let n : i ≢ count = q in omega arith in
          subst (λ x. 0 < slice_index (slice_set sums block (slice_index sums block + amount)) x) (sym at)
          (kept_positive (slice_index touched i) (tracked.real i m))

      member : (b : ℕ) → is_member nat_eq (take (count + 1) (slice_set touched count block)) b ≡ (is_member nat_eq (take count touched) b ||
          (nat_eq b block || false))
      member b = ap (λ xs. is_member nat_eq xs b) (take_more_set touched count block long) ∙ list_any-append (nat_eq b) (take count touched) (block ∷ [])

      listed : (b : ℕ) → 0 < slice_index (slice_set sums block (slice_index sums block + amount)) b → (b ≡ block) ⊎ (b ≢ block) →
          is_member nat_eq (take (count + 1) (slice_set touched count block)) b ≡ true
      listed b h (inl e) = member b ∙ ap (λ t. is_member nat_eq (take count touched) b || (t || false)) (eq-eqb b block e) ∙
          or-true (is_member nat_eq (take count touched) b)
      listed b h (inr q) =
          let at = get_or-set_other sums block b (slice_index sums block + amount) 0 q in
          member b ∙ ap (λ t. t || (nat_eq b block || false)) (tracked.listed b (omega arith))

  -- a block that had a sum is listed already
  pub tracked_old : 0 < slice_index sums block → IsTracked (slice_set sums block (slice_index sums block + amount)) touched count
  tracked_old h = record {
    blocks = length-set sums block (slice_index sums block + amount) ∙ tracked.blocks;
    places = tracked.places;
    number = let more = more_present in let one = present-positive (slice_index sums block) h in let number = tracked.number in omega arith;
    below = tracked.below;
    real = λ i l. kept_positive (slice_index touched i) (tracked.real i l);
    listed = λ b k. listed b k (cases_eq b block);
  }
    where
      listed : (b : ℕ) → 0 < slice_index (slice_set sums block (slice_index sums block + amount)) b → (b ≡ block) ⊎ (b ≢ block) →
          is_member nat_eq (take count touched) b ≡ true
      listed b k (inl e) = subst (λ c. is_member nat_eq (take count touched) c ≡ true) (sym e) (tracked.listed block h)
      listed b k (inr q) = tracked.listed b (let at = get_or-set_other sums block b (slice_index sums block + amount) 0 q in omega arith)

-- a sum to which nothing is added
pub same_sum : (sums : List ℕ) (block amount : ℕ) → amount ≡ 0 → sums ≡ slice_set sums block (slice_index sums block + amount)
same_sum sums block amount z = sym (ap (λ x. slice_set sums block x) (let e : slice_index sums block + amount ≡ slice_index sums block = omega arith in e) ∙
    set-get_or sums block 0)

-- ---- the blocks of the first pins

pub touched_more : (p pins : List ℕ) (i b : ℕ) → i < length pins → nat_lt 0 (pins_in p (take (i + 1) pins) b) ≡ (nat_lt 0 (pins_in p (take i pins) b) ||
    nat_eq (block_of p (slice_index pins i)) b)
touched_more p pins i b l = by (cases_eq (block_of p (slice_index pins i)) b)
  where
    more : pins_in p (take (i + 1) pins) b ≡ pins_in p (take i pins) b + weight_if (block_of p (slice_index pins i)) b 1
    more = total-take_more (λ u. weight_if (block_of p u) b 1) pins i 0 l

    by : (block_of p (slice_index pins i) ≡ b) ⊎ (block_of p (slice_index pins i) ≢ b) → nat_lt 0 (pins_in p (take (i + 1) pins) b) ≡
        (nat_lt 0 (pins_in p (take i pins) b) || nat_eq (block_of p (slice_index pins i)) b)
    by (inl e) =
        let one = weight_if-same (block_of p (slice_index pins i)) b 1 e in
        let m = more in
        lt-ltb 0 (pins_in p (take (i + 1) pins) b) (omega arith)
        ∙ sym (ap (λ t. nat_lt 0 (pins_in p (take i pins) b) || t) (eq-eqb (block_of p (slice_index pins i)) b e) ∙
        or-true (nat_lt 0 (pins_in p (take i pins) b)))
    by (inr q) =
        let none = weight_if-other (block_of p (slice_index pins i)) b 1 q in
        let m = more in
        ap (nat_lt 0) (let e : pins_in p (take (i + 1) pins) b ≡ pins_in p (take i pins) b = omega arith in e)
        ∙ sym (ap (λ t. nat_lt 0 (pins_in p (take i pins) b) || t) (ne_eqb (block_of p (slice_index pins i)) b q) ∙
        or-false (nat_lt 0 (pins_in p (take i pins) b)))

-- a pin whose block was touched before, or isn't b, touches b no more than the pins before it
pub touched_kept : (p pins : List ℕ) (i b : ℕ) → i < length pins → (block_of p (slice_index pins i) ≡ b → nat_lt 0 (pins_in p (take i pins) b) ≡ true) →
    nat_lt 0 (pins_in p (take (i + 1) pins) b) ≡ nat_lt 0 (pins_in p (take i pins) b)
touched_kept p pins i b l old = touched_more p pins i b l ∙ by (cases_eq (block_of p (slice_index pins i)) b)
  where
    by : (block_of p (slice_index pins i) ≡ b) ⊎ (block_of p (slice_index pins i) ≢ b) →
        (nat_lt 0 (pins_in p (take i pins) b) || nat_eq (block_of p (slice_index pins i)) b) ≡ nat_lt 0 (pins_in p (take i pins) b)
    by (inl e) = ap (λ t. t || nat_eq (block_of p (slice_index pins i)) b) (old e) ∙ sym (old e)
    by (inr q) = ap (λ t. nat_lt 0 (pins_in p (take i pins) b) || t) (ne_eqb (block_of p (slice_index pins i)) b q) ∙
        or-false (nat_lt 0 (pins_in p (take i pins) b))

pub touched_now : (p pins : List ℕ) (i b : ℕ) → i < length pins → block_of p (slice_index pins i) ≡ b → nat_lt 0 (pins_in p (take (i + 1) pins) b) ≡ true
touched_now p pins i b l e = touched_more p pins i b l ∙ ap (λ t. nat_lt 0 (pins_in p (take i pins) b) || t)
    (eq-eqb (block_of p (slice_index pins i)) b e) ∙
    or-true (nat_lt 0 (pins_in p (take i pins) b))

-- one mark
pub marked_before : (seen : List ℕ) (stamp block : ℕ) → IsBefore seen (stamp + 1) → block < 256 → IsBefore (slice_set seen block stamp) (stamp + 1)
marked_before seen stamp block before low = record {
  size = length-set seen block stamp ∙ before.size;
  all = λ b l. by b l (cases_eq b block);
}
  where
    by : (b : ℕ) → b < 256 → (b ≡ block) ⊎ (b ≢ block) → slice_index (slice_set seen block stamp) b < stamp + 1
    by b l (inl e) = subst (λ c. slice_index (slice_set seen block stamp) c < stamp + 1) (sym e)
        (let at = get_or-set_same seen block stamp 0 (let s = before.size in omega arith) in omega arith)
    by b l (inr q) = let at = get_or-set_other seen block b stamp 0 q in let was = before.all b l in omega arith

-- a block without pins adds nothing
pub amount_all : (o : Objective) (w : ℕ) (p pins : List ℕ) (b : ℕ) → (if nat_lt 0 (pins_in p pins b) then amount_for o w p pins b else 0) ≡ amount_for o w p
    pins b
amount_all o w p pins b = by (nat_lt 0 (pins_in p pins b)) refl
  where
    none : (q : Objective) → w * saved q 0 (length pins) ≡ 0
    none Connectivity = omega arith
    none CutNet = omega arith
    none ExternalDegree = omega arith

    by : (t : Bool) → nat_lt 0 (pins_in p pins b) ≡ t → (if t then amount_for o w p pins b else 0) ≡ amount_for o w p pins b
    by true e = refl
    by false e =
        let r = ltb-false 0 (pins_in p pins b) e in
        let z : pins_in p pins b ≡ 0 = omega arith in
        sym (ap (λ c. w * saved o c (length pins)) z ∙ none o)

-- what is added at a block, where nothing was added before
pub amount_first : (p pins : List ℕ) (i b : ℕ) (o : Objective) (w : ℕ) → nat_lt 0 (pins_in p (take i pins) b) ≡ false →
    (if nat_lt 0 (pins_in p (take i pins) b) then amount_for o w p pins b else 0) ≡ 0
amount_first p pins i b o w e = ap (λ t. if t then amount_for o w p pins b else 0) e

pub amount_now : (p pins : List ℕ) (i b : ℕ) (o : Objective) (w : ℕ) → nat_lt 0 (pins_in p (take i pins) b) ≡ true →
    (if nat_lt 0 (pins_in p (take i pins) b) then amount_for o w p pins b else 0) ≡ amount_for o w p pins b
amount_now p pins i b o w e = ap (λ t. if t then amount_for o w p pins b else 0) e

pub amount_is : (o : Objective) (w s count size : ℕ) (p pins : List ℕ) (b : ℕ) → s ≡ saved o count size → count ≡ pins_in p pins b → size ≡ length pins →
    w * s ≡ amount_for o w p pins b
amount_is o w s count size p pins b is ec es = ap (λ x. w * x) is ∙ ap (λ x. w * saved o x size) ec ∙ ap (λ x. w * saved o (pins_in p pins b) x) es

-- the sums after a pin in a block that was not touched yet
pub sums_step :
    (p pins : List ℕ) (i block from : ℕ) (o : Objective) (w amount : ℕ) (sums first : List ℕ) → i < length pins → block ≡ block_of p (slice_index pins i) →
    block < length sums → amount ≡ amount_for o w p pins block
    → nat_lt 0 (pins_in p (take i pins) block) ≡ false
    → ((b : ℕ) → b ≢ from → slice_index sums b ≡ slice_index first b + (if nat_lt 0 (pins_in p (take i pins) b) then amount_for o w p pins b else 0))
    → (b : ℕ) → b ≢ from → slice_index (slice_set sums block (slice_index sums block + amount)) b ≡ slice_index first b +
    (if nat_lt 0 (pins_in p (take (i + 1) pins) b) then amount_for o w p pins b else 0)
sums_step p pins i block from o w amount sums first l is inside same new known b q = by (cases_eq b block)
  where
    by : (b ≡ block) ⊎ (b ≢ block) → slice_index (slice_set sums block (slice_index sums block + amount)) b ≡ slice_index first b +
        (if nat_lt 0 (pins_in p (take (i + 1) pins) b) then amount_for o w p pins b else 0)
    by (inl e) =
        subst (λ c. slice_index (slice_set sums block (slice_index sums block + amount)) c ≡ slice_index first c +
        (if nat_lt 0 (pins_in p (take (i + 1) pins) c) then amount_for o w p pins c else 0)) (sym e)
        (let at = get_or-set_same sums block (slice_index sums block + amount) 0 inside in
        let was = known block (subst (λ c. c ≢ from) e q) in
        let none = amount_first p pins i block o w new in
        let now = amount_now p pins (i + 1) block o w (touched_now p pins i block l (sym is)) in
        omega arith)
    by (inr r) =
        get_or-set_other sums block b (slice_index sums block + amount) 0 r
        ∙ known b q
        ∙ ap (λ t. slice_index first b + (if t then amount_for o w p pins b else 0)) (sym (touched_kept p pins i b l (λ e. absurd (r (sym e ∙ sym is)))))

-- ---- ranges of blocks

between_none : (a b x : ℕ) → (if is_between a 0 b then x else 0) ≡ 0
between_none a b x = by (nat_le a b) (nat_lt b (a + 0)) refl refl
  where
    by : (s t : Bool) → nat_le a b ≡ s → nat_lt b (a + 0) ≡ t → (if s && t then x else 0) ≡ 0
    by true true e f = let p = leb-true a b e in let q = ltb-true b (a + 0) f in absurd (omega arith)
    by true false e f = refl
    by false t e f = refl

between_more : (a n m b x : ℕ) → (if is_between a n b then x else 0) + (if is_between (a + n) m b then x else 0) ≡ (if is_between a (n + m) b then x else 0)
between_more a n m b x = by (nat_le a b) (nat_lt b (a + n)) (nat_le (a + n) b) (nat_lt b (a + n + m)) (nat_lt b (a + (n + m))) refl refl refl refl refl
  where
    by : (s t u v w : Bool) → nat_le a b ≡ s → nat_lt b (a + n) ≡ t → nat_le (a + n) b ≡ u → nat_lt b (a + n + m) ≡ v → nat_lt b (a + (n + m)) ≡ w
        → (if s && t then x else 0) + (if u && v then x else 0) ≡ (if s && w then x else 0)
    by true true true v w e f g h i = let p = ltb-true b (a + n) f in let q = leb-true (a + n) b g in absurd (omega arith)
    by true true false v true e f g h i = omega arith
    by true true false v false e f g h i = let p = ltb-true b (a + n) f in let q = ltb-false b (a + (n + m)) i in absurd (omega arith)
    by true false true true true e f g h i = omega arith
    by true false true true false e f g h i = let p = ltb-true b (a + n + m) h in let q = ltb-false b (a + (n + m)) i in absurd (omega arith)
    by true false true false true e f g h i = let p = ltb-false b (a + n + m) h in let q = ltb-true b (a + (n + m)) i in absurd (omega arith)
    by true false true false false e f g h i = omega arith
    by true false false v w e f g h i = let p = ltb-false b (a + n) f in let q = leb-false (a + n) b g in absurd (omega arith)
    by false t true v w e f g h i = let p = leb-false a b e in let q = leb-true (a + n) b g in absurd (omega arith)
    by false t false v w e f g h i = omega arith

between_one : (a b x : ℕ) → (if is_between a 1 b then x else 0) ≡ (if nat_eq b a then x else 0)
between_one a b x = by (nat_le a b) (nat_lt b (a + 1)) (nat_eq b a) refl refl refl
  where
    by : (s t u : Bool) → nat_le a b ≡ s → nat_lt b (a + 1) ≡ t → nat_eq b a ≡ u → (if s && t then x else 0) ≡ (if u then x else 0)
    by true true true e f g = refl
    by true true false e f g = let p = leb-true a b e in let q = ltb-true b (a + 1) f in let r = eqb-false b a g in absurd (r (omega arith))
    by true false true e f g = let q = ltb-false b (a + 1) f in let r = eqb-true b a g in absurd (omega arith)
    by true false false e f g = refl
    by false t true e f g = let p = leb-false a b e in let r = eqb-true b a g in absurd (omega arith)
    by false t false e f g = refl

pub between_past : (a n x : ℕ) → (if is_between a n (a + n) then x else 0) ≡ 0
between_past a n x = by (nat_le a (a + n)) (nat_lt (a + n) (a + n)) refl
  where
    by : (s t : Bool) → nat_lt (a + n) (a + n) ≡ t → (if s && t then x else 0) ≡ 0
    by true true e = let p = ltb-true (a + n) (a + n) e in absurd (omega arith)
    by true false e = refl
    by false t e = refl

pub amount_zero : (o : Objective) (w : ℕ) (p pins : List ℕ) (b : ℕ) → pins_in p pins b ≡ 0 → amount_for o w p pins b ≡ 0
amount_zero o w p pins b z = sym (amount_all o w p pins b) ∙ ap (λ n. if nat_lt 0 n then amount_for o w p pins b else 0) z

-- a block with a pin is one of the blocks
pub block_below : (k : ℕ) (p pins : List ℕ) (b : ℕ) → All (λ v. v < length p) pins → All (λ c. c < k) p → 0 < pins_in p pins b → b < k
block_below k p [] b low blocks some = absurd (omega arith)
block_below k p (v ∷ pins) b low blocks some = by (cases_eq (block_of p v) b) (block_below k p pins b (All-tail (λ u. u < length p) v pins low) blocks)
  where
    by : (block_of p v ≡ b) ⊎ (block_of p v ≢ b) → (0 < pins_in p pins b → b < k) → b < k
    by (inl e) r = subst (λ c. c < k) e (blocks v 0 (All-head (λ u. u < length p) v pins low))
    by (inr q) r = r (let none = weight_if-other (block_of p v) b 1 q in omega arith)

pub block_low : (p pins : List ℕ) (b : ℕ) → All (λ v. v < length p) pins → All (λ c. c < 256) p → 0 < pins_in p pins b → b < 256
block_low p pins b = block_below 256 p pins b

pub none_past : (k : ℕ) (p pins : List ℕ) (b : ℕ) → All (λ v. v < length p) pins → All (λ c. c < k) p → k ≤ b → pins_in p pins b ≡ 0
none_past k p pins b low blocks past = by (cases_eq (pins_in p pins b) 0)
  where
    by : (pins_in p pins b ≡ 0) ⊎ (pins_in p pins b ≢ 0) → pins_in p pins b ≡ 0
    by (inl e) = e
    by (inr q) = let r = block_below k p pins b low blocks (let n : pins_in p pins b ≢ 0 = q in omega arith) in absurd (omega arith)

-- the sums after the block at a place of a word
pub word_step :
    (o : Objective) (w amount : ℕ) (p pins : List ℕ) (first place from : ℕ) (sums before : List ℕ) → first + place < length sums → amount ≡ amount_for o w p
    pins (first + place)
    → ((b : ℕ) → b ≢ from → slice_index sums b ≡ slice_index before b + (if is_between first place b then amount_for o w p pins b else 0))
    → (b : ℕ) → b ≢ from → slice_index (slice_set sums (first + place) (slice_index sums (first + place) + amount)) b ≡ slice_index before b +
    (if is_between first (place + 1) b then amount_for o w p pins b else 0)
word_step o w amount p pins first place from sums before inside same known b q = by (cases_eq b (first + place))
  where
    more : (if is_between first place b then amount_for o w p pins b else 0) + (if nat_eq b (first + place) then amount_for o w p pins b else 0) ≡
        (if is_between first (place + 1) b then amount_for o w p pins b else 0)
    more = let a = between_more first place 1 b (amount_for o w p pins b) in let c = between_one (first + place) b (amount_for o w p pins b) in omega arith

    by : (b ≡ first + place) ⊎ (b ≢ first + place) → slice_index (slice_set sums (first + place) (slice_index sums (first + place) + amount)) b ≡
        slice_index
        before b + (if is_between first (place + 1) b then amount_for o w p pins b else 0)
    by (inl e) =
        let at = ap (slice_index (slice_set sums (first + place) (slice_index sums (first + place) + amount))) e ∙ get_or-set_same sums (first + place)
        (slice_index sums (first + place) + amount) 0 inside in
        let here = ap (slice_index sums) e in
        let was = known b q in
        let m = more in
        let one : (if nat_eq b (first + place) then amount_for o w p pins b else 0) ≡ amount_for o w p pins b =
        ap (λ t. if t then amount_for o w p pins b else 0) (eq-eqb b (first + place) e) in
        let a = same ∙ sym (ap (amount_for o w p pins) e) in
        omega arith
    by (inr r) =
        let at = get_or-set_other sums (first + place) b (slice_index sums (first + place) + amount) 0 r in
        let was = known b q in
        let m = more in
        let none : (if nat_eq b (first + place) then amount_for o w p pins b else 0) ≡ 0 = ap (λ t. if t then amount_for o w p pins b else 0)
        (ne_eqb b (first + place) r) in
        omega arith

-- the blocks of a whole word
pub words_more : (o : Objective) (w : ℕ) (p pins : List ℕ) (i f b : ℕ) → (if is_between 0 (i * f) b then amount_for o w p pins b else 0) +
    (if is_between (i * f) f b then amount_for o w p pins b else 0) ≡ (if is_between 0 ((i + 1) * f) b then amount_for o w p pins b else 0)
words_more o w p pins i f b =
    let e : (i + 1) * f ≡ i * f + f = omega arith in
    let z : 0 + i * f ≡ i * f = omega arith in
    let m = between_more 0 (i * f) f b (amount_for o w p pins b) in
    let a = ap (λ n. if is_between n f b then amount_for o w p pins b else 0) z in
    let c = ap (λ n. if is_between 0 n b then amount_for o w p pins b else 0) e in
    omega arith

-- a word of counts of 0
pub words_none : (o : Objective) (w : ℕ) (p pins : List ℕ) (i f b : ℕ) → ((place : ℕ) → place < f → pins_in p pins (i * f + place) ≡ 0) →
    (if is_between (i * f) f b then amount_for o w p pins b else 0) ≡ 0
words_none o w p pins i f b none = by (nat_le (i * f) b) (nat_lt b (i * f + f)) refl refl
  where
    by : (s t : Bool) → nat_le (i * f) b ≡ s → nat_lt b (i * f + f) ≡ t → (if s && t then amount_for o w p pins b else 0) ≡ 0
    by true true e g =
        let from = leb-true (i * f) b e in
        let to = ltb-true b (i * f + f) g in
        let at : i * f + (b - i * f) ≡ b = omega arith in
        amount_zero o w p pins b (ap (pins_in p pins) (sym at) ∙ none (b - i * f) (omega arith))
    by true false e g = refl
    by false t e g = refl

pub words_all : (o : Objective) (w : ℕ) (p pins : List ℕ) (n b : ℕ) → (n ≤ b → pins_in p pins b ≡ 0) →
    (if is_between 0 n b then amount_for o w p pins b else 0) ≡ amount_for o w p pins b
words_all o w p pins n b past =
    ap (λ t. if t && nat_lt b (0 + n) then amount_for o w p pins b else 0) (le-leb 0 b (omega arith)) ∙ by (nat_lt b (0 + n)) refl
  where
    by : (t : Bool) → nat_lt b (0 + n) ≡ t → (if t then amount_for o w p pins b else 0) ≡ amount_for o w p pins b
    by true e = refl
    by false e = let r = ltb-false b (0 + n) e in sym (amount_zero o w p pins b (past (omega arith)))

-- ---- the list of touched blocks

pub tracked_count : (sums touched : List ℕ) (count : ℕ) → IsTracked sums touched count → count ≤ 256
tracked_count sums touched count tracked =
    let most = total-le present (λ x. 1) sums (λ j d m. present-le (get_or sums j d)) in
    let all = total-ones sums in
    let size = tracked.blocks in
    let number = tracked.number in
    omega arith

-- without sums nothing is listed
pub tracked_none : (sums touched : List ℕ) → length sums ≡ 256 → length touched ≡ 256 → IsClear sums → IsTracked sums touched 0
tracked_none sums touched size places clear = record {
  blocks = size;
  places = places;
  number = sym (total-zero present sums (λ i d l. present-zero (get_or sums i d) (get_or_default sums i d 0 l ∙ clear i)));
  below = λ i l. absurd (omega arith);
  real = λ i l. absurd (omega arith);
  listed = λ b h. let z = clear b in absurd (omega arith);
}

pub clear_after : (first sums touched : List ℕ) (count : ℕ) → IsTracked first touched count → ((b : ℕ) → slice_index sums b ≤ slice_index first b) →
    ((b : ℕ) → is_member nat_eq (take count touched) b ≡ true → slice_index sums b ≡ 0) → IsClear sums
clear_after first sums touched count tracked less cleared b = by (cases_eq (slice_index sums b) 0)
  where
    by : (slice_index sums b ≡ 0) ⊎ (slice_index sums b ≢ 0) → slice_index sums b ≡ 0
    by (inl e) = e
    by (inr q) = cleared b (tracked.listed b (let l = less b in let n : slice_index sums b ≢ 0 = q in omega arith))

-- where no listed sum is above a number, none is
pub none_pass : (sums touched : List ℕ) (count loss : ℕ) → IsTracked sums touched count →
    ((i : ℕ) → i < count → slice_index sums (slice_index touched i) ≤ loss) → (b : ℕ) → slice_index sums b ≤ loss
none_pass sums touched count loss tracked each b = by (cases_lt 0 (slice_index sums b))
  where
    all : All (λ c. slice_index sums c ≤ loss) (take count touched)
    all i d l =
        let few = tracked_count sums touched count tracked in
        let places = tracked.places in
        let len = length-take-le count touched (omega arith) in
        let low : i < count = omega arith in
        subst (λ c. slice_index sums c ≤ loss) (sym (get_or-take count touched i d low ∙ get_or_default touched i d 0 (omega arith))) (each i low)

    by : (0 < slice_index sums b) ⊎ (slice_index sums b ≤ 0) → slice_index sums b ≤ loss
    by (inl some) = All-contains (λ c. slice_index sums c ≤ loss) (take count touched) b all
        ((is_member-Decides Decides-eqb (take count touched) b).0 (tracked.listed b some))
    by (inr none) = omega arith

-- ---- the best of the first blocks

member_more : (touched : List ℕ) (i b : ℕ) → i < length touched → is_member nat_eq (take (i + 1) touched) b ≡ true →
    (is_member nat_eq (take i touched) b ≡ true) ⊎ (b ≡ slice_index touched i)
member_more touched i b l h = by (is_member nat_eq (take i touched) b) (nat_eq b (slice_index touched i)) refl refl
    (sym (list_any_more (nat_eq b) touched i 0 l) ∙ h)
  where
    by : (s t : Bool) → is_member nat_eq (take i touched) b ≡ s → nat_eq b (slice_index touched i) ≡ t → (s || t) ≡ true →
        (is_member nat_eq (take i touched) b ≡ true) ⊎ (b ≡ slice_index touched i)
    by true t e f g = inl e
    by false true e f g = inr (eqb-true b (slice_index touched i) f)
    by false false e f g = absurd (true≢false (sym g))

module _ (sums loads : List ℕ) (limit weight from loss : ℕ) (touched : List ℕ) (i : ℕ) (inside : i < length touched) where
  -- a block that is no target, or isn't higher, leaves the best one
  pub top_kept : (best : Option ℕ) → (IsTarget loads limit weight from (slice_index touched i) → IsHigher sums loss best (slice_index touched i) → ⊥) →
      IsTopAmong sums loads limit weight from loss (take i touched) best → IsTopAmong sums loads limit weight from loss (take (i + 1) touched) best
  top_kept None none top = λ b m t. by b t (member_more touched i b inside m)
    where
      by : (b : ℕ) → IsTarget loads limit weight from b → (is_member nat_eq (take i touched) b ≡ true) ⊎ (b ≡ slice_index touched i) →
          slice_index sums b ≤ loss
      by b t (inl q) = top b q t
      by b t (inr e) = at (cases_lt loss (slice_index sums b))
        where
          at : (loss < slice_index sums b) ⊎ (slice_index sums b ≤ loss) → slice_index sums b ≤ loss
          at (inl h) = absurd (none (subst (IsTarget loads limit weight from) e t) (subst (λ c. loss < slice_index sums c) e h))
          at (inr g) = g
  top_kept (Some a) none top =
      (top.0, top.1, λ b m t. least b t (member_more touched i b inside m), λ b m l t. first b l t (member_more touched i b inside m))
    where
      not_higher : (b : ℕ) → b ≡ slice_index touched i → IsTarget loads limit weight from b → (slice_index sums a < slice_index sums b) ⊎
          ((slice_index sums b ≡ slice_index sums a) × (b < a)) → ⊥
      not_higher b e t h = none (subst (IsTarget loads limit weight from) e t)
          (subst (λ c. (slice_index sums a < slice_index sums c) ⊎ ((slice_index sums c ≡ slice_index sums a) × (c < a))) e h)

      least : (b : ℕ) → IsTarget loads limit weight from b → (is_member nat_eq (take i touched) b ≡ true) ⊎ (b ≡ slice_index touched i) →
          slice_index sums b ≤ slice_index sums a
      least b t (inl q) = top.2 b q t
      least b t (inr e) = at (cases_lt (slice_index sums a) (slice_index sums b))
        where
          at : (slice_index sums a < slice_index sums b) ⊎ (slice_index sums b ≤ slice_index sums a) → slice_index sums b ≤ slice_index sums a
          at (inl h) = absurd (not_higher b e t (inl h))
          at (inr g) = g

      first : (b : ℕ) → b < a → IsTarget loads limit weight from b → (is_member nat_eq (take i touched) b ≡ true) ⊎ (b ≡ slice_index touched i) →
          slice_index sums b < slice_index sums a
      first b l t (inl q) = top.3 b q l t
      first b l t (inr e) = at (cases_lt (slice_index sums b) (slice_index sums a))
        where
          at : (slice_index sums b < slice_index sums a) ⊎ (slice_index sums a ≤ slice_index sums b) → slice_index sums b < slice_index sums a
          at (inl h) = h
          at (inr g) = let less = least b t (inr e) in absurd (not_higher b e t (inr (omega arith, l)))

  -- a higher target is the best one
  pub top_taken : (best : Option ℕ) → IsTarget loads limit weight from (slice_index touched i) → IsHigher sums loss best (slice_index touched i) →
      IsTopAmong sums loads limit weight from loss (take i touched) best → IsTopAmong sums loads limit weight from loss (take (i + 1) touched)
      (Some (slice_index touched i))
  top_taken None target higher top =
      (target, higher, λ b m t. least b t (member_more touched i b inside m), λ b m l t. first b l t (member_more touched i b inside m))
    where
      least : (b : ℕ) → IsTarget loads limit weight from b → (is_member nat_eq (take i touched) b ≡ true) ⊎ (b ≡ slice_index touched i) →
          slice_index sums b ≤ slice_index sums (slice_index touched i)
      least b t (inl q) = let was = top b q t in omega arith
      least b t (inr e) = let same = ap (slice_index sums) e in omega arith

      first : (b : ℕ) → b < slice_index touched i → IsTarget loads limit weight from b → (is_member nat_eq (take i touched) b ≡ true) ⊎
          (b ≡ slice_index touched i) → slice_index sums b < slice_index sums (slice_index touched i)
      first b l t (inl q) = let was = top b q t in omega arith
      first b l t (inr e) = absurd (omega arith)
  top_taken (Some a) target higher top =
      (target, above higher, λ b m t. least b t (member_more touched i b inside m), λ b m l t. first b l t (member_more touched i b inside m))
    where
      no_less : (slice_index sums a < slice_index sums (slice_index touched i)) ⊎ ((slice_index sums (slice_index touched i) ≡ slice_index sums a) ×
          (slice_index touched i < a)) → slice_index sums a ≤ slice_index sums (slice_index touched i)
      no_less (inl h) = omega arith
      no_less (inr h) = let e = h.0 in omega arith

      above : (slice_index sums a < slice_index sums (slice_index touched i)) ⊎ ((slice_index sums (slice_index touched i) ≡ slice_index sums a) ×
          (slice_index touched i < a)) → loss < slice_index sums (slice_index touched i)
      above h = let n = no_less h in let t = top.1 in omega arith

      least : (b : ℕ) → IsTarget loads limit weight from b → (is_member nat_eq (take i touched) b ≡ true) ⊎ (b ≡ slice_index touched i) →
          slice_index sums b ≤ slice_index sums (slice_index touched i)
      least b t (inl q) = let was = top.2 b q t in let n = no_less higher in omega arith
      least b t (inr e) = let same = ap (slice_index sums) e in omega arith

      first : (b : ℕ) → b < slice_index touched i → IsTarget loads limit weight from b → (is_member nat_eq (take i touched) b ≡ true) ⊎
          (b ≡ slice_index touched i) → slice_index sums b < slice_index sums (slice_index touched i)
      first b l t (inl q) = by higher
        where
          by : (slice_index sums a < slice_index sums (slice_index touched i)) ⊎ ((slice_index sums (slice_index touched i) ≡ slice_index sums a) ×
              (slice_index touched i < a)) → slice_index sums b < slice_index sums (slice_index touched i)
          by (inl h) = let was = top.2 b q t in omega arith
          by (inr h) = let e = h.0 in let m = h.1 in let was = top.3 b q (omega arith) t in omega arith
      first b l t (inr e) = absurd (omega arith)

-- a listed block has a load
pub target_block : (sums touched loads : List ℕ) (count i : ℕ) → IsTracked sums touched count → i < count →
    ((b : ℕ) → length loads ≤ b → slice_index sums b ≡ 0) → slice_index touched i < length loads
target_block sums touched loads count i tracked l past = by (cases_lt (slice_index touched i) (length loads))
  where
    by : (slice_index touched i < length loads) ⊎ (length loads ≤ slice_index touched i) → slice_index touched i < length loads
    by (inl h) = h
    by (inr g) = let some = tracked.real i l in let none = past (slice_index touched i) g in absurd (omega arith)

-- ---- the beginning

pub zeros : (n b : ℕ) → slice_index (replicate n 0) b ≡ 0
zeros n b = by (cases_lt b n)
  where
    by : (b < n) ⊎ (n ≤ b) → slice_index (replicate n 0) b ≡ 0
    by (inl l) = get_or-replicate n b 0 0 l
    by (inr g) = get_or_past (replicate n 0) b 0 (subst (λ m. m ≤ b) (sym (length-replicate n 0)) g)

pub tracked_zeros : (n : ℕ) → n ≡ 256 → IsTracked (replicate n 0) (replicate n 0) 0
tracked_zeros n e = tracked_none (replicate n 0) (replicate n 0) (length-replicate n 0 ∙ e) (length-replicate n 0 ∙ e) (zeros n)

pub before_zeros : (n stamp : ℕ) → n ≡ 256 → IsBefore (replicate n 0) (stamp + 1)
before_zeros n stamp e = record { size = length-replicate n 0 ∙ e; all = λ b l. let z = zeros n b in omega arith }

pub before_more : (seen : List ℕ) (stamp : ℕ) → IsBefore seen stamp → IsBefore seen (stamp + 1)
before_more seen stamp before = record { size = before.size; all = λ b l. let m = before.all b l in omega arith }

-- no block is marked with a number past all
pub none_marked : (seen : List ℕ) (stamp b : ℕ) → IsBefore seen stamp → b < 256 → nat_eq (slice_index seen b) stamp ≡ false
none_marked seen stamp b before l = ne_eqb (slice_index seen b) stamp (let m = before.all b l in λ e. absurd (omega arith))

pub sum_inside : (sums : List ℕ) (b loss : ℕ) → length sums ≡ 256 → loss < slice_index sums b → b < 256
sum_inside sums b loss size h = by (cases_lt b 256)
  where
    by : (b < 256) ⊎ (256 ≤ b) → b < 256
    by (inl l) = l
    by (inr g) = let z = get_or_past sums b 0 (omega arith) in absurd (omega arith)
