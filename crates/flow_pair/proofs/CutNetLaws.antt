-- Lists of cut nets.
use Rattle.std.proofs.Common.{◌≡◌, ◌≢◌, ◌⊎◌, inl, inr, ℕ, zero, suc, ◌+◌, ◌<◌, ◌≤◌, Bool, true, false, ◌&&◌, not, nat_eq, nat_lt, List, [], ◌∷◌, ◌++◌}
use Rattle.std.proofs.Common.{filter, length, All, Contains}
use Rattle.std.proofs.Common.{◌||◌, if◌then◌else◌, refl, sym, ap, subst, ◌∙◌, arith, true≢false, slice_index, slice_index_or, slice_set, replicate}
use Rattle.std.proofs.Common.{length-set, get_or-set_same, get_or-set_other}
use Rattle.std.specs.List.{list_any, flat_map, range_with_len}
use Rattle.std.specs.Ordering.{nat_cmp}
use Rattle.std.specs.Set.{is_member}
use Rattle.std.proofs.lemmas.Bool.{and_parts, or_cases, eqb-true, eq-eqb, cases_eq, cases_lt, lt-ltb, le-ltb}
use Rattle.std.proofs.lemmas.Cmp.{nat_cmp_total}
use Rattle.std.proofs.lemmas.List.{length-replicate}
use Rattle.std.proofs.lemmas.List.Elements.{All-nil, All-cons, All-append, All-contains, Contains-append_left, Contains-append_right, Contains-append_cases}
use Rattle.hg_defs.specs.declared.moves.Move.{Move}
use Rattle.hg_defs.specs.Hypergraph.{Hyper, net_count, net_of}
use Rattle.hg_defs.specs.Incidence.{nets_of, is_on}
use Rattle.hg_defs.specs.Partition.{block_of}
use Rattle.hg_defs.specs.Pins.{pins_in}
use Rattle.hg_defs.specs.Replay.{replay}
use Rattle.hg_defs.specs.Sorting.{set_of}
use Rattle.hg_defs.proofs.DistinctLaws.{pins_in-le}
use Rattle.hg_defs.proofs.NumberingLaws.{Contains-from_filter, Contains_range}
use Rattle.hg_defs.proofs.PlacementLaws.{Contains_filter}
use Rattle.hg_defs.proofs.ReplayLaws.{replay-apart}
use Rattle.hg_defs.proofs.SortLaws.{nat_cmp_exact, Contains-nil, Contains_head, Contains_later, increasing-set_of, Contains-set_of, Contains-from_set_of}
use Rattle.round_log.specs.Rounds.{has_pin, touching}
use Rattle.flow_pair.specs.Sides.{touching_nets}
use Rattle.flow_pair.specs.CutNets.{HoldsTouching, HoldsCutOf, AreCutLists, AreCutListsIn, IsNotedIn, AreJoined, KeepNets, with_nets}
use Rattle.flow_pair.proofs.MemberLaws.{any_is, any_from, member_true, Contains-flat_map, Contains-from_flat_map, Contains-from_range, rising_is_filter}
use Rattle.flow_pair.proofs.NetLaws.{all_of, touching_some, touching_none}
use Rattle.flow_pair.proofs.PairLaws.{in_pair, IsRearranged}

-- ---- those that touch a pair

module _ (h : Hyper) (p : List ℕ) (a b : ℕ) (nets : List ℕ) where
  abbrev touches : ℕ → Bool
  touches e = has_pin p (net_of h e) a && has_pin p (net_of h e) b

  pub between_found : All (λ e. e < net_count h) nets → HoldsTouching h p a b nets
      → set_of nat_cmp (filter (λ e. has_pin p (net_of h e) a && has_pin p (net_of h e) b) nets) ≡ touching_nets h p a b
  between_found below all =
      rising_is_filter (set_of nat_cmp (filter touches nets)) touches (net_count h) (increasing-set_of (filter touches nets))
      (λ e c. let x = Contains-from_filter touches nets e (Contains-from_set_of nat_cmp_total nat_cmp_exact (filter touches nets) e c) in
      (All-contains (λ i. i < net_count h) nets e below x.0, x.1))
      (λ e low t. Contains-set_of nat_cmp_total nat_cmp_exact (filter touches nets) e (Contains_filter touches nets e (all e low t) t))

filter_none : (test : ℕ → Bool) (xs : List ℕ) → list_any test xs ≡ false → filter test xs ≡ []
filter_none test [] e = refl
filter_none test (x ∷ xs) e = by (test x) e (filter_none test xs)
  where
    by : (t : Bool) → (t || list_any test xs) ≡ false → (list_any test xs ≡ false → filter test xs ≡ [])
        → (if t then x ∷ filter test xs else filter test xs) ≡ []
    by true f rest = absurd (true≢false f)
    by false f rest = rest f

-- none of them touches the pair just where no net does
module _ (h : Hyper) (p : List ℕ) (a b : ℕ) (nets : List ℕ) (below : All (λ e. e < net_count h) nets) where
  abbrev is_between : ℕ → Bool
  is_between e = has_pin p (net_of h e) a && has_pin p (net_of h e) b

  pub none_between : HoldsTouching h p a b nets → list_any (λ e. has_pin p (net_of h e) a && has_pin p (net_of h e) b) nets ≡ false
      → touching h p a b ≡ []
  none_between all e =
      touching_some h p a b (sym (between_found h p a b nets below all) ∙ ap (set_of nat_cmp) (filter_none is_between nets e))

  pub between_none : touching h p a b ≡ [] → list_any (λ e. has_pin p (net_of h e) a && has_pin p (net_of h e) b) nets ≡ false
  between_none e = by (list_any is_between nets) refl
    where
      by : (t : Bool) → list_any is_between nets ≡ t → t ≡ false
      by false f = refl
      by true f =
          let x = any_is is_between nets f in
          let low = All-contains (λ i. i < net_count h) nets x.0 below x.1 in
          let c = Contains_filter is_between (range_with_len 0 (net_count h)) x.0 (Contains_range 0 (net_count h) x.0 (omega arith) (omega arith)) x.2 in
          absurd (Contains-nil x.0 (subst (λ xs. Contains xs x.0) (touching_none h p a b e) c))

-- ---- all of them

-- whether not all pins are in the block of the first one
abbrev pub mixed_pins : List ℕ → List ℕ → Bool
mixed_pins p pins = list_any (λ v. not (nat_eq (block_of p v) (block_of p (slice_index pins 0)))) pins

abbrev pub is_mixed : Hyper → List ℕ → ℕ → Bool
is_mixed h p e = mixed_pins p (net_of h e).pins

-- pins that are not mixed are in one block
unmixed : (p pins : List ℕ) (v : ℕ) → mixed_pins p pins ≡ false → Contains pins v → block_of p v ≡ block_of p (slice_index pins 0)
unmixed p pins v none c = by (nat_eq (block_of p v) (block_of p (slice_index pins 0))) refl
  where
    by : (t : Bool) → nat_eq (block_of p v) (block_of p (slice_index pins 0)) ≡ t → block_of p v ≡ block_of p (slice_index pins 0)
    by true e = eqb-true (block_of p v) (block_of p (slice_index pins 0)) e
    by false e =
        absurd (true≢false (sym (any_from (λ u. not (nat_eq (block_of p u) (block_of p (slice_index pins 0)))) pins v c (ap not e)) ∙ none))

-- a net that touches two blocks is mixed
touching_mixed : (h : Hyper) (p : List ℕ) (e a b : ℕ) → b ≢ a → (has_pin p (net_of h e) a && has_pin p (net_of h e) b) ≡ true → is_mixed h p e ≡ true
touching_mixed h p e a b other t = by (is_mixed h p e) refl
  where
    by : (m : Bool) → is_mixed h p e ≡ m → is_mixed h p e ≡ true
    by true f = f
    by false f =
        let both = and_parts (has_pin p (net_of h e) a) (has_pin p (net_of h e) b) t in
        let u = any_is (λ v. nat_eq (block_of p v) a) (net_of h e).pins both.0 in
        let v = any_is (λ v. nat_eq (block_of p v) b) (net_of h e).pins both.1 in
        absurd (other (sym (eqb-true (block_of p v.0) b v.2) ∙ unmixed p (net_of h e).pins v.0 f v.1
        ∙ sym (unmixed p (net_of h e).pins u.0 f u.1) ∙ eqb-true (block_of p u.0) a u.2))

-- not all pins are in a block where fewer are there than there are
pub outside_count : (p pins : List ℕ) (b : ℕ) → list_any (λ v. not (nat_eq (block_of p v) b)) pins ≡ nat_lt (pins_in p pins b) (length pins)
outside_count p [] b = refl
outside_count p (v ∷ pins) b = by (nat_eq (block_of p v) b) (outside_count p pins b)
  where
    later : (m n : ℕ) → nat_lt m n ≡ nat_lt (1 + m) (suc n)
    later m n = go (cases_lt m n)
      where
        go : (m < n) ⊎ (n ≤ m) → nat_lt m n ≡ nat_lt (1 + m) (suc n)
        go (inl l) = lt-ltb m n l ∙ sym (lt-ltb (1 + m) (suc n) (omega arith))
        go (inr l) = le-ltb m n l ∙ sym (le-ltb (1 + m) (suc n) (omega arith))

    by : (t : Bool) → list_any (λ u. not (nat_eq (block_of p u) b)) pins ≡ nat_lt (pins_in p pins b) (length pins)
        → (not t || list_any (λ u. not (nat_eq (block_of p u) b)) pins) ≡ nat_lt ((if t then 1 else 0) + pins_in p pins b) (suc (length pins))
    by true e = e ∙ later (pins_in p pins b) (length pins)
    by false e = sym (lt-ltb (0 + pins_in p pins b) (suc (length pins)) (let l = pins_in-le p pins b in omega arith))

-- ---- after some vertices moved

-- a vertex is moved, or differs from all that are
moved_or_not : (v : ℕ) (moves : List Move) → ((m : Move) × Contains moves m × (m.vertex ≡ v)) ⊎ All (λ m. m.vertex ≢ v) moves
moved_or_not v [] = inr (All-nil (λ (m : Move). m.vertex ≢ v))
moved_or_not v (m ∷ moves) = by (cases_eq m.vertex v) (moved_or_not v moves)
  where
    by : (m.vertex ≡ v) ⊎ (m.vertex ≢ v) → ((n : Move) × Contains moves n × (n.vertex ≡ v)) ⊎ All (λ n. n.vertex ≢ v) moves
        → ((n : Move) × Contains (m ∷ moves) n × (n.vertex ≡ v)) ⊎ All (λ n. n.vertex ≢ v) (m ∷ moves)
    by (inl e) r = inl (m, Contains_head m moves, e)
    by (inr d) (inl x) = inl (x.0, Contains_later m moves x.0 x.1, x.2)
    by (inr d) (inr a) = inr (All-cons (λ (n : Move). n.vertex ≢ v) m moves d a)

module _ (h : Hyper) (p : List ℕ) (moves : List Move) (list : List ℕ) (e : ℕ) (low : e < net_count h) where
  abbrev more : List ℕ
  more = list ++ flat_map (λ (m : Move). nets_of h m.vertex) moves

  -- a net with a moved pin is in the list now
  moved_net : (v : ℕ) → Contains (net_of h e).pins v → ((m : Move) × Contains moves m × (m.vertex ≡ v)) → Contains more e
  moved_net v c m =
      Contains-append_right list (flat_map (λ (m : Move). nets_of h m.vertex) moves) e
      (Contains-flat_map (λ (m : Move). nets_of h m.vertex) moves m.0 e m.1
      (Contains_filter (is_on h m.0.vertex) (range_with_len 0 (net_count h)) e (Contains_range 0 (net_count h) e (omega arith) (omega arith))
      (member_true (net_of h e).pins m.0.vertex (subst (Contains (net_of h e).pins) (sym m.2) c))))

  -- a net that touches two blocks has a moved pin, or touched them before
  pub touching_after : (a b : ℕ) → (has_pin (replay p moves) (net_of h e) a && has_pin (replay p moves) (net_of h e) b) ≡ true
      → ((has_pin p (net_of h e) a && has_pin p (net_of h e) b) ≡ true → Contains list e) → Contains more e
  touching_after a b t was =
      by (moved_or_not u.0 moves) (moved_or_not v.0 moves)
    where
      both : (has_pin (replay p moves) (net_of h e) a ≡ true) × (has_pin (replay p moves) (net_of h e) b ≡ true)
      both = and_parts (has_pin (replay p moves) (net_of h e) a) (has_pin (replay p moves) (net_of h e) b) t

      u : (x : ℕ) × Contains (net_of h e).pins x × (nat_eq (block_of (replay p moves) x) a ≡ true)
      u = any_is (λ x. nat_eq (block_of (replay p moves) x) a) (net_of h e).pins both.0

      v : (x : ℕ) × Contains (net_of h e).pins x × (nat_eq (block_of (replay p moves) x) b ≡ true)
      v = any_is (λ x. nat_eq (block_of (replay p moves) x) b) (net_of h e).pins both.1

      had : (c x : ℕ) → Contains (net_of h e).pins x → nat_eq (block_of (replay p moves) x) c ≡ true → All (λ m. m.vertex ≢ x) moves
          → has_pin p (net_of h e) c ≡ true
      had c x pin is still = any_from (λ y. nat_eq (block_of p y) c) (net_of h e).pins x pin
          (ap (λ y. nat_eq y c) (sym (replay-apart p moves x still)) ∙ is)

      by : ((m : Move) × Contains moves m × (m.vertex ≡ u.0)) ⊎ All (λ m. m.vertex ≢ u.0) moves
          → ((m : Move) × Contains moves m × (m.vertex ≡ v.0)) ⊎ All (λ m. m.vertex ≢ v.0) moves → Contains more e
      by (inl m) r = moved_net u.0 u.1 m
      by (inr s) (inl m) = moved_net v.0 v.1 m
      by (inr s) (inr r) = Contains-append_left list (flat_map (λ (m : Move). nets_of h m.vertex) moves) e
          (was (ap (λ x. x && has_pin p (net_of h e) b) (had a u.0 u.1 u.2 s) ∙ had b v.0 v.1 v.2 r))

module _ (h : Hyper) (p : List ℕ) (moves : List Move) (list : List ℕ) where
  more_nets : All (λ e. e < net_count h) list → All (λ e. e < net_count h) (list ++ flat_map (λ (m : Move). nets_of h m.vertex) moves)
  more_nets below = all_of (λ e. e < net_count h) (list ++ flat_map (λ (m : Move). nets_of h m.vertex) moves)
      (λ e c. by e (Contains-append_cases list (flat_map (λ (m : Move). nets_of h m.vertex) moves) e c))
    where
      by : (e : ℕ) → Contains list e ⊎ Contains (flat_map (λ (m : Move). nets_of h m.vertex) moves) e → e < net_count h
      by e (inl c) = All-contains (λ i. i < net_count h) list e below c
      by e (inr c) =
          let x = Contains-from_flat_map (λ (m : Move). nets_of h m.vertex) moves e c in
          Contains-from_range (net_count h) e (Contains-from_filter (is_on h x.0.vertex) (range_with_len 0 (net_count h)) e x.2).0

  pub cut_of_after : (a : ℕ) → HoldsCutOf h p a list → HoldsCutOf h (replay p moves) a (list ++ flat_map (λ (m : Move). nets_of h m.vertex) moves)
  cut_of_after a s = record {
    nets = more_nets s.nets;
    all = λ b other e low t. touching_after h p moves list e low a b t (s.all b other e low);
  }

-- ---- block by block

-- nothing changed
pub keep_none : (m : ℕ) (lists : List (List ℕ)) → KeepNets m lists lists
keep_none m lists = record { count = refl; below = λ a all. all; kept = λ a e c. c }

pub keep_more : (m : ℕ) (xs ys zs : List (List ℕ)) → KeepNets m xs ys → KeepNets m ys zs → KeepNets m xs zs
keep_more m xs ys zs x y = record {
  count = y.count ∙ x.count;
  below = λ a all. y.below a (x.below a all);
  kept = λ a e c. y.kept a e (x.kept a e c);
}

-- one net more for a block
module _ (m e block : ℕ) (lists : List (List ℕ)) (low : e < m) (at : block < length lists) where
  abbrev longer : List ℕ
  longer = slice_index_or lists block [] ++ e ∷ []

  pub here : slice_index_or (slice_set lists block longer) block [] ≡ longer
  here = get_or-set_same lists block longer [] at

  there : (a : ℕ) → a ≢ block → slice_index_or (slice_set lists block longer) a [] ≡ slice_index_or lists a []
  there a n = get_or-set_other lists block a longer [] n

  pub keep_one : KeepNets m lists (slice_set lists block longer)
  keep_one = record {
    count = length-set lists block longer;
    below = λ a all. by_below a all (cases_eq a block);
    kept = λ a f c. by_kept a f c (cases_eq a block);
  }
    where
      by_below : (a : ℕ) → All (λ f. f < m) (slice_index_or lists a []) → (a ≡ block) ⊎ (a ≢ block)
          → All (λ f. f < m) (slice_index_or (slice_set lists block longer) a [])
      by_below a all (inl same) =
          subst (All (λ f. f < m)) (sym (ap (λ x. slice_index_or (slice_set lists block longer) x []) same ∙ here))
          (All-append (λ f. f < m) (slice_index_or lists block []) (e ∷ []) (subst (λ x. All (λ f. f < m) (slice_index_or lists x [])) same all)
          (All-cons (λ f. f < m) e [] low (All-nil (λ f. f < m))))
      by_below a all (inr n) = subst (All (λ f. f < m)) (sym (there a n)) all

      by_kept : (a f : ℕ) → Contains (slice_index_or lists a []) f → (a ≡ block) ⊎ (a ≢ block)
          → Contains (slice_index_or (slice_set lists block longer) a []) f
      by_kept a f c (inl same) =
          subst (λ xs. Contains xs f) (sym (ap (λ x. slice_index_or (slice_set lists block longer) x []) same ∙ here))
          (Contains-append_left (slice_index_or lists block []) (e ∷ []) f (subst (λ x. Contains (slice_index_or lists x []) f) same c))
      by_kept a f c (inr n) = subst (λ xs. Contains xs f) (sym (there a n)) c

  pub noted_one : Contains (slice_index_or (slice_set lists block longer) block []) e
  noted_one = subst (λ xs. Contains xs e) (sym here) (Contains-append_right (slice_index_or lists block []) (e ∷ []) e (Contains_head e []))

pub empty_at : (k a : ℕ) (none : List ℕ) → slice_index_or (replicate k none) a none ≡ none
empty_at zero a none = refl
empty_at (suc k) zero none = refl
empty_at (suc k) (suc a) none = empty_at k a none

-- a net that isn't mixed touches no two blocks
pub noted_none : (h : Hyper) (p : List ℕ) (e : ℕ) (lists : List (List ℕ)) → is_mixed h p e ≡ false → IsNotedIn h p e lists
noted_none h p e lists none = λ a b other t. absurd (true≢false (sym (touching_mixed h p e a b other t) ∙ none))

-- one that is in the lists of the blocks of its pins is in those of all blocks that it touches
pub noted_all : (h : Hyper) (p : List ℕ) (e : ℕ) (lists : List (List ℕ))
    → All (λ v. Contains (slice_index_or lists (block_of p v) []) e) (net_of h e).pins → IsNotedIn h p e lists
noted_all h p e lists all =
    λ a b other t.
    let both = and_parts (has_pin p (net_of h e) a) (has_pin p (net_of h e) b) t in
    let u = any_is (λ v. nat_eq (block_of p v) a) (net_of h e).pins both.0 in
    subst (λ x. Contains (slice_index_or lists x []) e) (eqb-true (block_of p u.0) a u.2)
    (All-contains (λ v. Contains (slice_index_or lists (block_of p v) []) e) (net_of h e).pins u.0 all u.1)

-- ---- those of a run

pub lists_none : (h : Hyper) (k : ℕ) (p : List ℕ) (from : ℕ) (lists : List (List ℕ)) → lists ≡ replicate k [] → AreCutListsIn h k p from from lists
lists_none h k p from lists is = record {
  count = ap length is ∙ length-replicate k [];
  nets = λ a low. subst (All (λ e. e < net_count h)) (sym (ap (λ (xs : List (List ℕ)). slice_index_or xs a []) is ∙ empty_at k a []))
      (All-nil (λ (e : ℕ). e < net_count h));
  all = λ a b low other e first last t. absurd (let l : from < from = omega arith in omega arith);
}

-- one net more is noted
pub lists_more : (h : Hyper) (k : ℕ) (p : List ℕ) (from e : ℕ) (lists lists' : List (List ℕ)) → KeepNets (net_count h) lists lists'
    → IsNotedIn h p e lists' → AreCutListsIn h k p from e lists → AreCutListsIn h k p from (e + 1) lists'
lists_more h k p from e lists lists' kept noted were = record {
  count = kept.count ∙ were.count;
  nets = λ a low. kept.below a (were.nets a low);
  all = λ a b low other i first last t. found a b low other i first last t (cases_eq i e);
}
  where
    found : (a b : ℕ) → a < k → b ≢ a → (i : ℕ) → from ≤ i → i < e + 1 → (has_pin p (net_of h i) a && has_pin p (net_of h i) b) ≡ true
        → (i ≡ e) ⊎ (i ≢ e) → Contains (slice_index_or lists' a []) i
    found a b low other i first last t (inl same) =
        subst (Contains (slice_index_or lists' a [])) (sym same)
        (noted a b other (subst (λ x. (has_pin p (net_of h x) a && has_pin p (net_of h x) b) ≡ true) same t))
    found a b low other i first last t (inr apart) = kept.kept a i (were.all a b low other i first (omega arith) t)

pub lists_end : (h : Hyper) (k : ℕ) (p : List ℕ) (from to e : ℕ) (lists : List (List ℕ)) → to ≤ e → AreCutListsIn h k p from e lists
    → AreCutListsIn h k p from to lists
lists_end h k p from to e lists l are = record {
  count = are.count;
  nets = are.nets;
  all = λ a b low other i first last t. are.all a b low other i first (omega arith) t;
}

-- the lists of two runs, one behind the other
pub lists_joined : (h : Hyper) (k : ℕ) (p : List ℕ) (from mid to : ℕ) (xs ys joined : List (List ℕ)) → AreJoined xs ys joined
    → AreCutListsIn h k p from mid xs → AreCutListsIn h k p mid to ys → AreCutListsIn h k p from to joined
lists_joined h k p from mid to xs ys joined is x y = record {
  count = is.count ∙ x.count;
  nets = λ a low. subst (All (λ e. e < net_count h)) (sym (at a low))
      (All-append (λ e. e < net_count h) (slice_index_or xs a []) (slice_index_or ys a []) (x.nets a low) (y.nets a low));
  all = λ a b low other e first last t. subst (λ list. Contains list e) (sym (at a low)) (found a b low other e first last t (cases_lt e mid));
}
  where
    at : (a : ℕ) → a < k → slice_index_or joined a [] ≡ slice_index_or xs a [] ++ slice_index_or ys a []
    at a low = is.each a (let n = x.count in omega (arith, n, low))

    found : (a b : ℕ) → a < k → b ≢ a → (e : ℕ) → from ≤ e → e < to → (has_pin p (net_of h e) a && has_pin p (net_of h e) b) ≡ true
        → (e < mid) ⊎ (mid ≤ e) → Contains (slice_index_or xs a [] ++ slice_index_or ys a []) e
    found a b low other e first last t (inl before) =
        Contains-append_left (slice_index_or xs a []) (slice_index_or ys a []) e (x.all a b low other e first before t)
    found a b low other e first last t (inr behind) =
        Contains-append_right (slice_index_or xs a []) (slice_index_or ys a []) e (y.all a b low other e behind last t)

pub lists_all : (h : Hyper) (k : ℕ) (p : List ℕ) (lists : List (List ℕ)) → AreCutListsIn h k p 0 (net_count h) lists → AreCutLists h k p lists
lists_all h k p lists are = record {
  count = are.count;
  each = λ a l. record { nets = are.nets a l; all = λ b other e low t. are.all a b l other e (omega arith) low t };
}

-- to each list below a place the one at the same place was appended
pub record AreJoinedBelow (m : ℕ) (xs ys joined : List (List ℕ)) : Type 0 where
  pub count : length joined ≡ length xs
  pub done : (a : ℕ) → a < m → slice_index_or joined a [] ≡ slice_index_or xs a [] ++ slice_index_or ys a []
  pub rest : (a : ℕ) → m ≤ a → slice_index_or joined a [] ≡ slice_index_or xs a []

module _ (m : ℕ) (xs ys now : List (List ℕ)) (list : List ℕ) where
  abbrev long : List ℕ
  long = slice_index_or now m [] ++ list

  joined_at : (a : ℕ) → m < length xs → list ≡ slice_index_or ys m [] → AreJoinedBelow m xs ys now → a < m + 1 → (a ≡ m) ⊎ (a ≢ m)
      → slice_index_or (slice_set now m long) a [] ≡ slice_index_or xs a [] ++ slice_index_or ys a []
  joined_at a low is were l (inl same) =
      ap (λ x. slice_index_or (slice_set now m long) x []) same
      ∙ get_or-set_same now m long [] (let n = were.count in omega (arith, n, low))
      ∙ ap (λ zs. zs ++ list) (were.rest m (omega arith)) ∙ ap (λ zs. slice_index_or xs m [] ++ zs) is
      ∙ sym (ap (λ x. slice_index_or xs x [] ++ slice_index_or ys x []) same)
  joined_at a low is were l (inr apart) = get_or-set_other now m a long [] apart ∙ were.done a (omega (arith, l, apart))

  pub joined_more : (next : List (List ℕ)) → m < length xs → list ≡ slice_index_or ys m [] → next ≡ slice_set now m (slice_index_or now m [] ++ list)
      → AreJoinedBelow m xs ys now → AreJoinedBelow (m + 1) xs ys next
  joined_more next low is set were = subst (AreJoinedBelow (m + 1) xs ys) (sym set) (record {
    count = length-set now m long ∙ were.count;
    done = λ a l. joined_at a low is were l (cases_eq a m);
    rest = λ a l. get_or-set_other now m a long [] (omega (arith, l)) ∙ were.rest a (omega (arith, l));
  })

pub joined_all : (m : ℕ) (xs ys joined : List (List ℕ)) → length xs ≤ m → AreJoinedBelow m xs ys joined → AreJoined xs ys joined
joined_all m xs ys joined l were = record { count = were.count; each = λ a low. were.done a (omega (arith, l, low)) }

-- a pair's nets are in the list of its second block, too
pub second_holds : (h : Hyper) (p : List ℕ) (a b : ℕ) (list : List ℕ) → a ≢ b → HoldsCutOf h p b list → HoldsTouching h p a b list
second_holds h p a b list other s =
    λ e low t.
    let both = and_parts (has_pin p (net_of h e) a) (has_pin p (net_of h e) b) t in
    s.all a other e low (ap (λ x. x && has_pin p (net_of h e) a) both.1 ∙ both.0)

-- and so in what both lists have
pub common_holds : (h : Hyper) (p : List ℕ) (a b : ℕ) (firsts seconds : List ℕ) → a ≢ b → HoldsCutOf h p a firsts → HoldsCutOf h p b seconds
    → HoldsTouching h p a b (filter (is_member nat_eq seconds) firsts)
common_holds h p a b firsts seconds apart x y =
    λ e low t. Contains_filter (is_member nat_eq seconds) firsts e (x.all b (λ s. apart (sym s)) e low t)
    (member_true seconds e (second_holds h p a b seconds apart y e low t))

pub common_below : (n : ℕ) (firsts seconds : List ℕ) → All (λ e. e < n) firsts → All (λ e. e < n) (filter (is_member nat_eq seconds) firsts)
common_below n firsts seconds all =
    all_of (λ e. e < n) (filter (is_member nat_eq seconds) firsts)
    (λ e c. All-contains (λ e. e < n) firsts e all (Contains-from_filter (is_member nat_eq seconds) firsts e c).0)

or_second : (x y : Bool) → y ≡ true → (x || y) ≡ true
or_second true y f = refl
or_second false y f = f

-- moves between two blocks leave the list of another one
module _ (h : Hyper) (p q : List ℕ) (a b c : ℕ) (list : List ℕ) (r : IsRearranged p q a b) (first : c ≢ a) (second : c ≢ b) where
  had_pin : (e d : ℕ) → d ≢ a → d ≢ b → has_pin q (net_of h e) d ≡ true → has_pin p (net_of h e) d ≡ true
  had_pin e d x y t =
      let v = any_is (λ v. nat_eq (block_of q v) d) (net_of h e).pins t in
      any_from (λ v. nat_eq (block_of p v) d) (net_of h e).pins v.0 v.1 (sym (r.others v.0 d x y) ∙ v.2)

  held : (e d : ℕ) → e < net_count h → HoldsCutOf h p c list → d ≢ c → has_pin p (net_of h e) c ≡ true → has_pin p (net_of h e) d ≡ true
      → Contains list e
  held e d low s n x y = s.all d n e low (ap (λ t. t && has_pin p (net_of h e) d) x ∙ y)

  -- a pin in one of the two blocks was in one of them before
  held_pair : (e v : ℕ) → e < net_count h → HoldsCutOf h p c list → has_pin p (net_of h e) c ≡ true → Contains (net_of h e).pins v
      → in_pair q a b v ≡ true → Contains list e
  held_pair e v low s x pin t = by (or_cases (nat_eq (block_of p v) a) (nat_eq (block_of p v) b) (sym (r.pair v) ∙ t))
    where
      by : (nat_eq (block_of p v) a ≡ true) ⊎ (nat_eq (block_of p v) b ≡ true) → Contains list e
      by (inl y) = held e a low s (λ z. first (sym z)) x (any_from (λ u. nat_eq (block_of p u) a) (net_of h e).pins v pin y)
      by (inr y) = held e b low s (λ z. second (sym z)) x (any_from (λ u. nat_eq (block_of p u) b) (net_of h e).pins v pin y)

  held_at : (e d v : ℕ) → d ≢ c → e < net_count h → HoldsCutOf h p c list → has_pin p (net_of h e) c ≡ true → Contains (net_of h e).pins v
      → block_of q v ≡ d → has_pin q (net_of h e) d ≡ true → (d ≡ a) ⊎ (d ≢ a) → (d ≡ b) ⊎ (d ≢ b) → Contains list e
  held_at e d v n low s x pin is has (inl f) g = held_pair e v low s x pin (ap (λ z. z || nat_eq (block_of q v) b) (eq-eqb (block_of q v) a (is ∙ f)))
  held_at e d v n low s x pin is has (inr f) (inl g) =
      held_pair e v low s x pin (or_second (nat_eq (block_of q v) a) (nat_eq (block_of q v) b) (eq-eqb (block_of q v) b (is ∙ g)))
  held_at e d v n low s x pin is has (inr f) (inr g) = held e d low s n x (had_pin e d f g has)

  pub cut_of_other : HoldsCutOf h p c list → HoldsCutOf h q c list
  cut_of_other s = record {
    nets = s.nets;
    all = λ d n e low t.
        let both = and_parts (has_pin q (net_of h e) c) (has_pin q (net_of h e) d) t in
        let v = any_is (λ u. nat_eq (block_of q u) d) (net_of h e).pins both.1 in
        held_at e d v.0 n low s (had_pin e c first second both.0) v.1 (eqb-true (block_of q v.0) d v.2) both.1 (cases_eq d a) (cases_eq d b);
  }

-- the lists after moves between two blocks
module _ (h : Hyper) (k : ℕ) (p q : List ℕ) (a b : ℕ) (moves : List Move) (lists : List (List ℕ)) (s : AreCutLists h k p lists)
    (first : a < k) (second : b < k) (apart : a ≢ b) (r : IsRearranged p q a b) (same : q ≡ replay p moves) where
  abbrev once : List (List ℕ)
  once = with_nets h moves lists a

  abbrev more_of : List ℕ → List ℕ
  more_of list = list ++ flat_map (λ (m : Move). nets_of h m.vertex) moves

  long_once : length once ≡ k
  long_once = length-set lists a (more_of (slice_index_or lists a [])) ∙ s.count

  at_first : slice_index_or (with_nets h moves once b) a [] ≡ more_of (slice_index_or lists a [])
  at_first =
      get_or-set_other once b a (more_of (slice_index_or once b [])) [] apart
      ∙ get_or-set_same lists a (more_of (slice_index_or lists a [])) [] (let l = s.count in omega (arith, l, first))

  at_second : slice_index_or (with_nets h moves once b) b [] ≡ more_of (slice_index_or lists b [])
  at_second =
      get_or-set_same once b (more_of (slice_index_or once b [])) [] (let l = long_once in omega (arith, l, second))
      ∙ ap more_of (get_or-set_other lists a b (more_of (slice_index_or lists a [])) [] (λ x. apart (sym x)))

  at_other : (c : ℕ) → c ≢ a → c ≢ b → slice_index_or (with_nets h moves once b) c [] ≡ slice_index_or lists c []
  at_other c x y =
      get_or-set_other once b c (more_of (slice_index_or once b [])) [] y
      ∙ get_or-set_other lists a c (more_of (slice_index_or lists a [])) [] x

  pub lists_after : AreCutLists h k q (with_nets h moves once b)
  lists_after = record {
    count = length-set once b (more_of (slice_index_or once b [])) ∙ long_once;
    each = λ c l. by c l (cases_eq c a) (cases_eq c b);
  }
    where
      by : (c : ℕ) → c < k → (c ≡ a) ⊎ (c ≢ a) → (c ≡ b) ⊎ (c ≢ b) → HoldsCutOf h q c (slice_index_or (with_nets h moves once b) c [])
      by c l (inl x) y =
          subst (λ z. HoldsCutOf h q z (slice_index_or (with_nets h moves once b) z [])) (sym x)
          (subst (HoldsCutOf h q a) (sym at_first) (subst (λ z. HoldsCutOf h z a (more_of (slice_index_or lists a []))) (sym same)
          (cut_of_after h p moves (slice_index_or lists a []) a (s.each a first))))
      by c l (inr x) (inl y) =
          subst (λ z. HoldsCutOf h q z (slice_index_or (with_nets h moves once b) z [])) (sym y)
          (subst (HoldsCutOf h q b) (sym at_second) (subst (λ z. HoldsCutOf h z b (more_of (slice_index_or lists b []))) (sym same)
          (cut_of_after h p moves (slice_index_or lists b []) b (s.each b second))))
      by c l (inr x) (inr y) = subst (HoldsCutOf h q c) (sym (at_other c x y)) (cut_of_other h p q a b c (slice_index_or lists c []) r x y (s.each c l))
