-- Laws of what nets save together: net by net, part by part, and all nets that moves touch.
use Rattle.std.proofs.Common.{◌≡◌, ◌≢◌, ◌⊎◌, inl, inr, ℕ, zero, suc, ◌+◌, ◌*◌, ◌^◌, ◌<◌, ◌≤◌, List, [], ◌∷◌, take, drop}
use Rattle.std.proofs.Common.{length, get_or, replicate, All, AllPairs, Contains, Result, Ok, IfOk, ℤ}
use Rattle.std.proofs.Common.{pos, ◌+ℤ◌, ◌-ℤ◌, ◌≤ℤ◌, refl, sym, ap, ◌∙◌, subst, arith, if◌then◌else◌, nat_eq, Bool, true, false, ◌++◌}
use Rattle.std.proofs.lemmas.Int.{ints}
use Rattle.std.proofs.lemmas.List.{take_all, length-replicate}
use Rattle.std.proofs.lemmas.Bool.{eqb-true, eqb-false, cases_lt}
use Rattle.std.proofs.lemmas.List.Elements.{All-head, All-tail, All-nil, All-append, All-weaker, Contains-append_left, Contains-append_right}
use Rattle.std.proofs.lemmas.List.Kept.{AllPairs-cons}
use Rattle.hg_defs.specs.declared.moves.Move.{Move}
use Rattle.hg_defs.specs.Sums.{total, sum_below}
use Rattle.hg_defs.specs.Hypergraph.{Net, Hyper, IsWithinLimits, net_count, net_of}
use Rattle.hg_defs.specs.Incidence.{nets_of}
use Rattle.hg_defs.specs.Cost.{cost, net_cost}
use Rattle.hg_defs.specs.Replay.{replay_first}
use Rattle.hg_defs.proofs.SumLaws.{total-take_more, total-append, total-le}
use Rattle.hg_defs.proofs.SumLaws.{total-by_index, sum_below-change, sum_below-same, sum_below-le, total-same}
use Rattle.hg_base.proofs.CountLaws.{net_cost-le}
use Rattle.std.specs.List.{range_with_len}
use Rattle.std.specs.Set.{is_member}
use Rattle.std.proofs.lemmas.List.{take-append-le}
use Rattle.std.proofs.lemmas.List.FromFn.{length-range_with_len, get_or-range_with_len}
use Rattle.std.proofs.lemmas.List.Elements.{Contains-get_or}
use Rattle.std.proofs.lemmas.Bool.Decides.{Decides-eqb}
use Rattle.std.proofs.lemmas.Map.Made.{is_member-Decides}
use Rattle.hg_defs.specs.Cost.{price}
use Rattle.std.specs.Set.{distinct_count}
use Rattle.hg_defs.proofs.PlacementLaws.{Contains_filter}
use Rattle.hg_defs.specs.Incidence.{is_on}
use Rattle.rollback_prefix.specs.Steps.{AreReplayGains}
use Rattle.rollback_prefix.proofs.StepLaws.{no_move}
use Rattle.rollback_prefix.proofs.KernelLaws.{quiet_one}
use Rattle.rollback_prefix.specs.Gains.{IsInRun, AreSavings, AreSmall, AreTouchedOf, AreSavingsOf, cost_of_nets, saved_by_net, pin_weight}

-- ---- small sums

pub cost_of_nets-le : (h : Hyper) (p : List ℕ) (nets : List ℕ) → cost_of_nets h p nets ≤ pin_weight h nets
cost_of_nets-le h p nets = total-le (λ e. net_cost h.objective p (net_of h e)) (λ e. (net_of h e).weight * length (net_of h e).pins) nets
    (λ k d l. net_cost-le h.objective p (net_of h (get_or nets k d)))

pub savings_small : (h : Hyper) (p : List ℕ) (moves : List Move) (nets : List ℕ) (gains : List ℤ) → AreSavings h p moves nets gains →
    pin_weight h nets < 2 ^ 57 → AreSmall gains
savings_small h p moves nets gains s few i l =
    let is = s.each i (let n = s.size in omega arith) in
    let a = cost_of_nets-le h (replay_first p moves i) nets in
    let b = cost_of_nets-le h (replay_first p moves (i + 1)) nets in (
      within_low (get_or gains i (pos 0)) (cost_of_nets h (replay_first p moves i) nets) (cost_of_nets h (replay_first p moves (i + 1)) nets) is
          (omega arith),
      within_high (get_or gains i (pos 0)) (cost_of_nets h (replay_first p moves i) nets) (cost_of_nets h (replay_first p moves (i + 1)) nets) is
          (omega arith),
    )
  where
    within_low : (g : ℤ) (x y : ℕ) → g ≡ pos x -ℤ pos y → y < 2 ^ 57 → (pos 0 -ℤ pos (2 ^ 60)) ≤ℤ g
    within_low g x y e l = omega (arith, ints)

    within_high : (g : ℤ) (x y : ℕ) → g ≡ pos x -ℤ pos y → x < 2 ^ 57 → g ≤ℤ pos (2 ^ 60)
    within_high g x y e l = omega (arith, ints)

-- ---- net by net

zero_at : (n i : ℕ) → get_or (replicate n (pos 0)) i (pos 0) ≡ pos 0
zero_at zero i = refl
zero_at (suc n) zero = refl
zero_at (suc n) (suc i) = zero_at n i

pub savings_none : (h : Hyper) (p : List ℕ) (moves : List Move) → AreSavings h p moves [] (replicate (length moves) (pos 0))
savings_none h p moves = record {
  size = length-replicate (length moves) (pos 0);
  each = λ i l. zero_at (length moves) i;
}

joined : (g o : ℤ) (a b x y m n : ℕ) → o ≡ pos a -ℤ pos b → g ≡ o +ℤ (pos x -ℤ pos y) → m ≡ a + x → n ≡ b + y → g ≡ pos m -ℤ pos n
joined g o a b x y m n e f i j = omega (arith, ints)

pub savings_more : (h : Hyper) (p : List ℕ) (moves : List Move) (nets : List ℕ) (j : ℕ) (old new : List ℤ) → j < length nets →
    AreSavings h p moves (take j nets) old → length new ≡ length moves
    → ((i : ℕ) → i < length moves → get_or new i (pos 0) ≡ get_or old i (pos 0) +ℤ saved_by_net h p moves (get_or nets j 0) i)
    → AreSavings h p moves (take (j + 1) nets) new
savings_more h p moves nets j old new l s long added = record {
  size = long;
  each = λ i m. joined (get_or new i (pos 0)) (get_or old i (pos 0))
      (cost_of_nets h (replay_first p moves i) (take j nets)) (cost_of_nets h (replay_first p moves (i + 1)) (take j nets))
      (net_cost h.objective (replay_first p moves i) (net_of h (get_or nets j 0))) (net_cost h.objective (replay_first p moves (i + 1))
      (net_of h (get_or nets j 0)))
      (cost_of_nets h (replay_first p moves i) (take (j + 1) nets)) (cost_of_nets h (replay_first p moves (i + 1)) (take (j + 1) nets))
      (s.each i m) (added i m)
      (total-take_more (λ e. net_cost h.objective (replay_first p moves i) (net_of h e)) nets j 0 l)
      (total-take_more (λ e. net_cost h.objective (replay_first p moves (i + 1)) (net_of h e)) nets j 0 l);
}

-- ---- part by part

pub savings_joined : (h : Hyper) (p : List ℕ) (moves : List Move) (xs ys : List ℕ) (old part new : List ℤ) → AreSavings h p moves xs old →
    AreSavings h p moves ys part → length new ≡ length moves
    → ((i : ℕ) → i < length moves → get_or new i (pos 0) ≡ get_or old i (pos 0) +ℤ get_or part i (pos 0))
    → AreSavings h p moves (xs ++ ys) new
savings_joined h p moves xs ys old part new s t long added = record {
  size = long;
  each = λ i m. joined (get_or new i (pos 0)) (get_or old i (pos 0))
      (cost_of_nets h (replay_first p moves i) xs) (cost_of_nets h (replay_first p moves (i + 1)) xs)
      (cost_of_nets h (replay_first p moves i) ys) (cost_of_nets h (replay_first p moves (i + 1)) ys)
      (cost_of_nets h (replay_first p moves i) (xs ++ ys)) (cost_of_nets h (replay_first p moves (i + 1)) (xs ++ ys))
      (s.each i m) (added i m ∙ ap (λ z. get_or old i (pos 0) +ℤ z) (t.each i m))
      (total-append (λ e. net_cost h.objective (replay_first p moves i) (net_of h e)) xs ys)
      (total-append (λ e. net_cost h.objective (replay_first p moves (i + 1)) (net_of h e)) xs ys);
}

pub savings_whole : (h : Hyper) (p : List ℕ) (moves : List Move) (nets : List ℕ) (n : ℕ) (gains : List ℤ) → length nets ≤ n →
    AreSavings h p moves (take n nets) gains → AreSavings h p moves nets gains
savings_whole h p moves nets n gains l s = subst (λ (xs : List ℕ). AreSavings h p moves xs gains) (take_all n nets l) s

pub written : {A : Type 0} (n : ℕ) (new old : List A) → length new ≡ n → take n (new ++ drop (length new) old) ≡ new
written n new old e = take-append-le n new (drop (length new) old) (omega arith) ∙ take_all n new (omega arith)

-- ---- all nets

only_if : Bool → ℕ → ℕ → ℕ
only_if t x y = if t then x else y

-- two sums over the numbers below a bound differ by what they differ on a list of them
change_all : (m : ℕ) (g : ℕ → ℕ) (nets : List ℕ) → All (λ e. e < m) nets → AllPairs (λ a b. a ≢ b) nets → (f : ℕ → ℕ) →
    ((e : ℕ) → e < m → (Contains nets e → ⊥) → f e ≡ g e)
    → sum_below f m + total g nets ≡ sum_below g m + total f nets
change_all m g [] low once f h = let e = sum_below-same f g m (λ i l. h i l (λ c. let n = c.1 in absurd (omega arith))) in omega arith
change_all m g (x ∷ nets) low once f h =
    let inside = All-head (λ e. e < m) x nets low in
    let next = λ (e : ℕ). if nat_eq e x then g e else f e in
    let rest = change_all m g nets (All-tail (λ e. e < m) x nets low) (λ i j d l n. once (suc i) (suc j) d (omega arith) (omega arith)) next
    (λ e l q. outside e l q (nat_eq e x) refl) in
    let change = sum_below-change f next m x inside (λ j l q. sym (elsewhere j q (nat_eq j x) refl)) in
    let here : next x ≡ g x = at (nat_eq x x) refl in
    let same : total next nets ≡ total f nets = total-same next f nets
    (λ k d l. elsewhere (get_or nets k d) (λ q. once 0 (suc k) d (omega arith) (omega arith) (sym q)) (nat_eq (get_or nets k d) x) refl) in
    omega arith
  where
    elsewhere : (j : ℕ) → j ≢ x → (t : Bool) → nat_eq j x ≡ t → (if t then g j else f j) ≡ f j
    elsewhere j q true e = absurd (q (eqb-true j x e))
    elsewhere j q false e = refl

    at : (t : Bool) → nat_eq x x ≡ t → (if t then g x else f x) ≡ g x
    at true e = refl
    at false e = absurd (eqb-false x x e refl)

    outside : (e : ℕ) → e < m → (Contains nets e → ⊥) → (t : Bool) → nat_eq e x ≡ t → (if t then g e else f e) ≡ g e
    outside e l q true r = refl
    outside e l q false r = h e l (λ c. by (c.0) c.1 c.2)
      where
        by : (k : ℕ) → k < length (x ∷ nets) → get_or (x ∷ nets) k e ≡ e → ⊥
        by zero n s = eqb-false e x r (sym s)
        by (suc k) n s = q (k, omega arith, s)

-- a sum over different numbers is within the sum over all
total_within : (m : ℕ) (f : ℕ → ℕ) (nets : List ℕ) → All (λ e. e < m) nets → AllPairs (λ a b. a ≢ b) nets → total f nets ≤ sum_below f m
total_within m f nets low once =
    let g = λ (e : ℕ). if is_member nat_eq nets e then 0 else f e in
    let law = change_all m g nets low once f (λ e l q. sym (outside e q (is_member nat_eq nets e) refl)) in
    let less = sum_below-le g f m (λ i l. at-le i (is_member nat_eq nets i)) in
    let zero_here : total g nets ≡ 0 = total-same g (λ e. 0) nets (λ k d l. inside (get_or nets k d) (Contains-get_or nets k d l)
    (is_member nat_eq nets (get_or nets k d)) refl) ∙ none nets in
    omega arith
  where
    outside : (e : ℕ) → (Contains nets e → ⊥) → (t : Bool) → is_member nat_eq nets e ≡ t → (if t then 0 else f e) ≡ f e
    outside e q true r = absurd (q ((is_member-Decides Decides-eqb nets e).0 r))
    outside e q false r = refl

    inside : (e : ℕ) → Contains nets e → (t : Bool) → is_member nat_eq nets e ≡ t → (if t then 0 else f e) ≡ 0
    inside e c true r = refl
    inside e c false r = absurd (let x = (is_member-Decides Decides-eqb nets e).1 c in cc)

    at-le : (e : ℕ) (t : Bool) → (if t then 0 else f e) ≤ f e
    at-le e true = omega arith
    at-le e false = omega arith

    none : (xs : List ℕ) → total (λ e. 0) xs ≡ 0
    none [] = refl
    none (x ∷ xs) = let e = none xs in omega arith

-- what different nets weigh, each for each pin, is small
pub listed_small : (h : Hyper) (nets : List ℕ) → IsWithinLimits h → All (λ e. e < net_count h) nets → AllPairs (λ a b. a ≢ b) nets →
    pin_weight h nets < 2 ^ 57
listed_small h nets bounds below once =
    let a = total_within (net_count h) (λ e. (net_of h e).weight * length (net_of h e).pins) nets below once in
    let b = total-by_index (λ (e : Net). e.weight * length e.pins) (record { weight = 0; pins = [] }) h.nets in
    let c = bounds.pin_weight in
    omega arith

cost_by_number : (h : Hyper) (p : List ℕ) → cost h p ≡ sum_below (λ e. net_cost h.objective p (net_of h e)) (net_count h)
cost_by_number h p = total-by_index (net_cost h.objective p) (record { weight = 0; pins = [] }) h.nets

-- a net that no move touches costs the same before and after it
untouched_same : (h : Hyper) (p : List ℕ) (moves : List Move) (nets : List ℕ) (i e : ℕ) →
    ((d : Move) → Contains (nets_of h (get_or moves i d).vertex) e → Contains nets e)
    → i < length moves → e < net_count h → (Contains nets e → ⊥)
    → net_cost h.objective (replay_first p moves i) (net_of h e) ≡ net_cost h.objective (replay_first p moves (i + 1)) (net_of h e)
untouched_same h p moves nets i e all here low q =
    ap (λ (xs : List ℕ). (net_of h e).weight * price h.objective (distinct_count nat_eq xs))
    (sym (quiet_one p (net_of h e).pins moves i here (λ c. q (all no_move (on (get_or moves i no_move).vertex c)))))
  where
    on : (v : ℕ) → Contains (net_of h e).pins v → Contains (nets_of h v) e
    on v c =
        let m = length-range_with_len 0 (net_count h) in
        Contains_filter (is_on h v) (range_with_len 0 (net_count h)) e (e, omega arith, get_or-range_with_len 0 (net_count h) e e low ∙ omega arith)
        ((is_member-Decides Decides-eqb (net_of h e).pins v).1 c)

-- ---- all parts

pub no_parts : (h : Hyper) (p : List ℕ) (moves : List Move) (end : ℕ) → end ≡ 0 → AreSavingsOf h p moves 0 end (replicate (length moves) (pos 0))
no_parts h p moves end none = record {
  nets = [];
  touched = record {
    below = All-nil (λ e. e < net_count h);
    once = λ i j d l n. absurd (omega arith);
    each = All-nil (IsInRun 0 end);
    all = λ i d e l c m. absurd (let x = m.1 in omega arith);
  };
  savings = savings_none h p moves;
}

pairs_append : {A : Type 0} (R : A → A → Type 0) (xs ys : List A) → AllPairs R xs → AllPairs R ys → All (λ x. All (R x) ys) xs → AllPairs R (xs ++ ys)
pairs_append R [] ys a b c = b
pairs_append R (x ∷ xs) ys a b c =
    AllPairs-cons R x (xs ++ ys)
    (All-append (R x) xs ys (λ i d low. a 0 (suc i) d (omega arith) (omega arith)) (All-head (λ z. All (R z) ys) x xs c))
    (pairs_append R xs ys (λ i j d l m. a (suc i) (suc j) d (omega arith) (omega arith)) b (All-tail (λ z. All (R z) ys) x xs c))

touched_joined : (h : Hyper) (moves : List Move) (m n : ℕ) (xs ys : List ℕ) → m ≤ n → AreTouchedOf h moves 0 m xs → AreTouchedOf h moves m n ys →
    AreTouchedOf h moves 0 n (xs ++ ys)
touched_joined h moves m n xs ys more t u = record {
  below = All-append (λ e. e < net_count h) xs ys t.below u.below;
  once = pairs_append (λ a b. a ≢ b) xs ys t.once u.once
      (All-weaker (IsInRun 0 m) (λ x. All (λ y. x ≢ y) ys) (λ x k. All-weaker (IsInRun m n) (λ y. x ≢ y) (λ y l e. apart x y k.1 l.0 e) ys u.each) xs t.each);
  each = All-append (IsInRun 0 n) xs ys (All-weaker (IsInRun 0 m) (IsInRun 0 n) (λ e k. (k.0, early e k.1)) xs t.each)
      (All-weaker (IsInRun m n) (IsInRun 0 n) (λ e k. (zero-le e, k.1)) ys u.each);
  all = λ i d e l c k. by i d e l c k.1 (cases_lt e m);
}
  where
    apart : (a b : ℕ) → a < m → m ≤ b → a ≡ b → ⊥
    apart a b l k e = omega arith

    early : (e : ℕ) → e < m → e < n
    early e l = omega arith

    zero-le : (e : ℕ) → 0 ≤ e
    zero-le e = omega arith

    by : (i : ℕ) (d : Move) (e : ℕ) → i < length moves → Contains (nets_of h (get_or moves i d).vertex) e → e < n → (e < m) ⊎ (m ≤ e) → Contains (xs ++ ys) e
    by i d e l c k (inl a) = Contains-append_left xs ys e (t.all i d e l c (zero-le e, a))
    by i d e l c k (inr a) = Contains-append_right xs ys e (u.all i d e l c (a, k))

-- the gains by one more part
pub parts_more : (h : Hyper) (p : List ℕ) (moves : List Move) (m n : ℕ) (old part new : List ℤ) → m ≤ n → AreSavingsOf h p moves 0 m old →
    AreSavingsOf h p moves m n part → length new ≡ length moves
    → ((i : ℕ) → i < length moves → get_or new i (pos 0) ≡ get_or old i (pos 0) +ℤ get_or part i (pos 0))
    → AreSavingsOf h p moves 0 n new
parts_more h p moves m n old part new more s t long added = record {
  nets = s.nets ++ t.nets;
  touched = touched_joined h moves m n s.nets t.nets more s.touched t.touched;
  savings = savings_joined h p moves s.nets t.nets old part new s.savings t.savings long added;
}

-- the gains by a part are small enough for those by one more
pub part_small : (h : Hyper) (p : List ℕ) (moves : List Move) (first end : ℕ) (gains : List ℤ) → IsWithinLimits h →
    AreSavingsOf h p moves first end gains → AreSmall gains
part_small h p moves first end gains bounds s =
    savings_small h p moves s.nets gains s.savings (listed_small h s.nets bounds s.touched.below s.touched.once)

-- what holds of an entry that is a value
pub value_at : {A E : Type 0} (P : A → Type 0) (xs ys : List (Result A E)) (j : ℕ) (d : Result A E) (x : A) → xs ≡ ys → get_or xs j d ≡ Ok x →
    IfOk (get_or ys j d) P → P x
value_at P xs ys j d x same here h = subst (λ r. IfOk r P) (ap (λ zs. get_or zs j d) (sym same) ∙ here) h

-- the gains by a run of numbers that all nets have
pub all_gains : (h : Hyper) (p : List ℕ) (moves : List Move) (end : ℕ) (gains : List ℤ) → net_count h ≤ end → AreSavingsOf h p moves 0 end gains →
    AreReplayGains h p moves gains
all_gains h p moves end gains whole s = record {
  size = s.savings.size;
  each = λ i l. s.savings.each i l ∙ difference
      (cost_of_nets h (replay_first p moves i) s.nets) (cost_of_nets h (replay_first p moves (i + 1)) s.nets) (cost h (replay_first p moves i))
      (cost h (replay_first p moves (i + 1)))
      (let a = cost_by_number h (replay_first p moves i) in
      let b = cost_by_number h (replay_first p moves (i + 1)) in
      let c = change_all (net_count h) (λ e. net_cost h.objective (replay_first p moves (i + 1)) (net_of h e)) s.nets s.touched.below s.touched.once
      (λ e. net_cost h.objective (replay_first p moves i) (net_of h e))
      (λ e m q. untouched_same h p moves s.nets i e (λ d x. s.touched.all i d e l x (inside e m)) l m q) in
      omega arith);
}
  where
    difference : (a b x y : ℕ) → x + b ≡ y + a → pos a -ℤ pos b ≡ pos x -ℤ pos y
    difference a b x y e = omega (arith, ints)

    inside : (e : ℕ) → e < net_count h → IsInRun 0 end e
    inside e l = (omega arith, omega arith)
