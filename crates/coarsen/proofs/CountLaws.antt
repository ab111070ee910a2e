-- Laws of the counts of single pins.
use Rattle.std.proofs.Common.{◌≡◌, ◌≢◌, ◌⊎◌, inl, inr, ℕ, zero, suc, ◌+◌, ◌<◌, ◌≤◌, Bool, true, false, true≢false, cond, if◌then◌else◌, ◌||◌}
use Rattle.std.proofs.Common.{min, nat_eq, List, [], ◌∷◌, length, filter, take, replicate, get_or, set, slice_index, All, AllPairs}
use Rattle.std.proofs.Common.{refl, sym, ap, ◌∙◌, subst, arith, get_or-set_same, get_or-set_other}
use Rattle.std.specs.List.{range_with_len}
use Rattle.std.specs.List.Sorted.{IsStrictlyIncreasing}
use Rattle.std.specs.Set.{is_member}
use Rattle.std.proofs.lemmas.Bool.{cases_eq, cases_lt, eq-eqb, eqb-true, eqb-false, ne_eqb}
use Rattle.std.proofs.Math.Bool.{or-true, or-false}
use Rattle.std.proofs.lemmas.Bool.Decides.{Decides-eqb}
use Rattle.std.proofs.lemmas.List.{length-take, take_all, get_or-take, get_or_past, get_or-replicate, length-replicate}
use Rattle.std.proofs.lemmas.List.Folds.{list_any_none}
use Rattle.std.proofs.lemmas.List.Kept.{AllPairs-from_increasing}
use Rattle.std.proofs.lemmas.Map.Made.{is_member-Decides}
use Rattle.hg_defs.specs.Hypergraph.{Hyper, IsHypergraph, vertex_count, net_count, net_of}
use Rattle.hg_defs.specs.Incidence.{is_on, nets_of}
use Rattle.hg_defs.proofs.NumberingLaws.{Contains-from_filter, Contains_range}
use Rattle.hg_defs.proofs.PlacementLaws.{Contains_filter}
use Rattle.incidence.proofs.IndexLaws.{is_pin_new, is_pin_more}
use Rattle.coarsen.specs.Marks.{marked_pins, AreCounted}
use Rattle.coarsen.proofs.MarkLaws.{same_tests}
use Rattle.coarsen.proofs.SweepLaws.{filter_same}

-- ---- one more for each listed net

-- the counts after one was added to those of the listed nets
abbrev pub raised : List ℕ → List ℕ → ℕ → ℕ
raised nets counts e = if is_member nat_eq nets e then min (slice_index counts e + 1) 255 else slice_index counts e

pub raised_more : (nets start counts : List ℕ) (i y : ℕ) → IsStrictlyIncreasing nets → i < length nets → slice_index nets i < length counts →
    ((e : ℕ) → slice_index counts e ≡ raised (take i nets) start e) → y ≡ min (slice_index counts (slice_index nets i) + 1) 255
    → (e : ℕ) → slice_index (set counts (slice_index nets i) y) e ≡ raised (take (i + 1) nets) start e
raised_more nets start counts i y rising low below before made e = by (nat_eq e (slice_index nets i)) refl
  where
    old : slice_index counts (slice_index nets i) ≡ slice_index start (slice_index nets i)
    old = before (slice_index nets i) ∙ ap (λ (b : Bool). if b then min (slice_index start (slice_index nets i) + 1) 255 else
        slice_index start (slice_index nets i)) (is_pin_new nets i rising low)

    listed : is_member nat_eq (take (i + 1) nets) (slice_index nets i) ≡ true
    listed =
        is_pin_more nets i (slice_index nets i) low
        ∙ ap (λ (b : Bool). is_member nat_eq (take i nets) (slice_index nets i) || b) (eq-eqb (slice_index nets i) (slice_index nets i) refl)
        ∙ or-true (is_member nat_eq (take i nets) (slice_index nets i))

    here : slice_index (set counts (slice_index nets i) y) (slice_index nets i) ≡ raised (take (i + 1) nets) start (slice_index nets i)
    here =
        get_or-set_same counts (slice_index nets i) y 0 below
        ∙ made
        ∙ ap (λ (n : ℕ). min (n + 1) 255) old
        ∙ sym (ap (λ (b : Bool). if b then min (slice_index start (slice_index nets i) + 1) 255 else slice_index start (slice_index nets i)) listed)

    by : (t : Bool) → nat_eq e (slice_index nets i) ≡ t → slice_index (set counts (slice_index nets i) y) e ≡ raised (take (i + 1) nets) start e
    by true q =
        subst (λ (w : ℕ). slice_index (set counts (slice_index nets i) y) w ≡ raised (take (i + 1) nets) start w) (sym (eqb-true e (slice_index nets i) q))
        here
    by false q =
        get_or-set_other counts (slice_index nets i) e y 0 (eqb-false e (slice_index nets i) q)
        ∙ before e
        ∙ sym (ap (λ (b : Bool). if b then min (slice_index start e + 1) 255 else slice_index start e)
        (is_pin_more nets i e low ∙ ap (λ (b : Bool). is_member nat_eq (take i nets) e || b) q ∙ or-false (is_member nat_eq (take i nets) e)))

-- ---- one more marked vertex

-- a newly marked vertex counts once on a list that holds it
marked_once : (p q : ℕ → Bool) (v : ℕ) → p v ≡ false → q v ≡ true → ((u : ℕ) → u ≢ v → q u ≡ p u) → (xs : List ℕ) → AllPairs (λ x y. x < y) xs →
    length (filter q xs) ≡ length (filter p xs) + (if is_member nat_eq xs v then 1 else 0)
marked_once p q v off on others [] apart = refl
marked_once p q v off on others (x ∷ xs) apart =
    by (nat_eq v x) (p x) (q x) refl refl refl (marked_once p q v off on others xs (λ i j d l m. apart (suc i) (suc j) d (omega arith) (omega arith)))
  where
    later : v ≡ x → is_member nat_eq xs v ≡ false
    later e = list_any_none (nat_eq v) xs (λ k d l. let less = apart 0 (suc k) d (omega arith) (omega arith) in ne_eqb v (get_or xs k d)
        (λ s. absurd (omega arith)))

    not_later : v ≡ x → 0 + (if is_member nat_eq xs v then 1 else 0) ≡ 0
    not_later e = ap (λ (b : Bool). 0 + (if b then 1 else 0)) (later e)

    by : (t a b : Bool) → nat_eq v x ≡ t → p x ≡ a → q x ≡ b → length (filter q xs) ≡ length (filter p xs) + (if is_member nat_eq xs v then 1 else 0)
        → length (cond b (x ∷ filter q xs) (filter q xs)) ≡ length (cond a (x ∷ filter p xs) (filter p xs)) +
        (if t || is_member nat_eq xs v then 1 else 0)
    by true true b e f g rest = absurd (true≢false (sym f ∙ ap p (sym (eqb-true v x e)) ∙ off))
    by true false false e f g rest = absurd (true≢false (sym on ∙ ap q (eqb-true v x e) ∙ g))
    by true false true e f g rest =
        let none = not_later (eqb-true v x e) in
        omega arith
    by false true true e f g rest = omega arith
    by false false false e f g rest = rest
    by false true false e f g rest = absurd (true≢false (sym f ∙ sym (others x (λ s. eqb-false v x e (sym s))) ∙ g))
    by false false true e f g rest = absurd (true≢false (sym g ∙ others x (λ s. eqb-false v x e (sym s)) ∙ f))

-- marks of which the first v are left
past_taken : (marks : List Bool) (v u : ℕ) → v ≤ u → get_or (take v marks) u false ≡ false
past_taken marks v u l = get_or_past (take v marks) u false (let n = length-take v marks in omega arith)

taken_at : (marks : List Bool) (v : ℕ) → get_or (take (v + 1) marks) v false ≡ get_or marks v false
taken_at marks v = get_or-take (v + 1) marks v false (omega arith)

taken_other : (marks : List Bool) (v u : ℕ) → u ≢ v → get_or (take (v + 1) marks) u false ≡ get_or (take v marks) u false
taken_other marks v u other = by (cases_lt u v)
  where
    by : (u < v) ⊎ (v ≤ u) → get_or (take (v + 1) marks) u false ≡ get_or (take v marks) u false
    by (inl l) = get_or-take (v + 1) marks u false (omega arith) ∙ sym (get_or-take v marks u false l)
    by (inr l) = past_taken marks (v + 1) u (omega arith) ∙ sym (past_taken marks v u l)

taken_same : (marks : List Bool) (v u : ℕ) → get_or marks v false ≡ false → get_or (take (v + 1) marks) u false ≡ get_or (take v marks) u false
taken_same marks v u off = by (cases_eq u v)
  where
    by : (u ≡ v) ⊎ (u ≢ v) → get_or (take (v + 1) marks) u false ≡ get_or (take v marks) u false
    by (inl e) =
        ap (λ (w : ℕ). get_or (take (v + 1) marks) w false) e
        ∙ taken_at marks v
        ∙ off
        ∙ sym (past_taken marks v u (omega arith))
    by (inr n) = taken_other marks v u n

-- ---- the counts of the single vertices so far

unmarked : (pins : List ℕ) → length (filter (λ v. get_or [] v false) pins) ≡ 0
unmarked [] = refl
unmarked (v ∷ pins) = unmarked pins

pub counted_none : (h : Hyper) (single : List Bool) (counts : List ℕ) → counts ≡ replicate (net_count h) 0 → AreCounted h (take 0 single) counts
counted_none h single counts made = record {
  nets = ap length made ∙ length-replicate (net_count h) 0;
  each = λ e l.
      let none = unmarked (net_of h e).pins in
      let zero_there = ap (λ (xs : List ℕ). slice_index xs e) made ∙ get_or-replicate (net_count h) e 0 0 l in
      omega arith;
}

-- the nets of a vertex are those that hold it
is_listed : (h : Hyper) (v e : ℕ) → e < net_count h → is_member nat_eq (nets_of h v) e ≡ is_on h v e
is_listed h v e l = same_tests (is_member nat_eq (nets_of h v) e) (is_on h v e) to from
  where
    to : is_member nat_eq (nets_of h v) e ≡ true → is_on h v e ≡ true
    to q = (Contains-from_filter (is_on h v) (range_with_len 0 (net_count h)) e ((is_member-Decides Decides-eqb (nets_of h v) e).0 q)).1

    from : is_on h v e ≡ true → is_member nat_eq (nets_of h v) e ≡ true
    from q = (is_member-Decides Decides-eqb (nets_of h v) e).1
        (Contains_filter (is_on h v) (range_with_len 0 (net_count h)) e (Contains_range 0 (net_count h) e (omega arith) (omega arith)) q)

module _ (h : Hyper) (single : List Bool) (v : ℕ) (counts : List ℕ) (c : AreCounted h (take v single) counts) where
  pub counted_skipped : get_or single v false ≡ false → AreCounted h (take (v + 1) single) counts
  counted_skipped off = record {
    nets = c.nets;
    each = λ e l. c.each e l ∙ ap (λ (xs : List ℕ). min (length xs) 255) (filter_same (λ u. get_or (take v single) u false)
        (λ u. get_or (take (v + 1) single) u false) (net_of h e).pins (λ k d m. sym (taken_same single v (get_or (net_of h e).pins k d) off)));
  }

  pub counted_more : (next : List ℕ) → IsHypergraph h → get_or single v false ≡ true → length next ≡ length counts →
      ((e : ℕ) → slice_index next e ≡ raised (nets_of h v) counts e) → AreCounted h (take (v + 1) single) next
  counted_more next sound on long made = record { nets = long ∙ c.nets; each = λ e l. made e ∙ each e l }
    where
      more : (e : ℕ) → e < net_count h → marked_pins h (take (v + 1) single) e ≡ marked_pins h (take v single) e + (if is_on h v e then 1 else 0)
      more e l = marked_once (λ u. get_or (take v single) u false) (λ u. get_or (take (v + 1) single) u false) v (past_taken single v v (omega arith))
          (taken_at single v ∙ on) (taken_other single v) (net_of h e).pins (AllPairs-from_increasing (net_of h e).pins
          (sound.nets e (record { weight = 0; pins = [] }) l).rising)

      each : (e : ℕ) → e < net_count h → raised (nets_of h v) counts e ≡ min (marked_pins h (take (v + 1) single) e) 255
      each e l = ap (λ (b : Bool). if b then min (slice_index counts e + 1) 255 else slice_index counts e) (is_listed h v e l) ∙ by (is_on h v e) (more e l)
        where
          by : (b : Bool) → marked_pins h (take (v + 1) single) e ≡ marked_pins h (take v single) e + (if b then 1 else 0)
              → (if b then min (slice_index counts e + 1) 255 else slice_index counts e) ≡ min (marked_pins h (take (v + 1) single) e) 255
          by true m = let old = c.each e l in omega arith
          by false m = let old = c.each e l in omega arith

pub counted_all : (h : Hyper) (single : List Bool) (v : ℕ) (counts : List ℕ) → length single ≤ v → AreCounted h (take v single) counts →
    AreCounted h single counts
counted_all h single v counts past c = subst (λ (marks : List Bool). AreCounted h marks counts) (take_all v single past) c
