-- Turns of the pairs of a wave, and of waves, one after the other.
use Rattle.std.proofs.Common.{◌≡◌, ◌≢◌, ℕ, zero, suc, ◌+◌, ◌-◌, ◌<◌, ◌≤◌, Bool, true, false, List, [], ◌∷◌, ◌++◌, map, filter, All}
use Rattle.std.proofs.Common.{Contains, Option, None, refl, sym, ap, subst, ◌∙◌, arith, if◌then◌else◌}
use Rattle.std.specs.List.{range_with_len}
use Rattle.std.proofs.lemmas.List.{append-nil, append_assoc}
use Rattle.std.proofs.lemmas.List.Elements.{All-append, All-weaker, All-contains, All-contains_itself, Contains-append_left, Contains-append_right, Contains-push}
use Rattle.hg_defs.specs.Hypergraph.{Hyper, IsHypergraph}
use Rattle.hg_defs.specs.Partition.{IsPartition, Fits}
use Rattle.hg_defs.proofs.DistinctLaws.{Contains-from_map}
use Rattle.hg_defs.proofs.NumberingLaws.{Contains-from_filter}
use Rattle.pin_plain.specs.Parted.{Parted}
use Rattle.flow_pair.specs.declared.solve.PairEnd.{PairEnd}
use Rattle.flow_pair.proofs.MemberLaws.{Contains-from_range}
use Rattle.flow_round.specs.PairTurns.{IsPairBelow, IsBooked, IsTurn, AreBooked, AreTurns, after_turn, after_turns, is_of_wave, wave}
use Rattle.flow_round.specs.Waves.{end_at, moves_at, GainsEnds}
use Rattle.flow_round.specs.declared.front.Front.{Front}
use Rattle.flow_round.specs.Fronts.{TakesPairs}
use Rattle.flow_round.proofs.SwapLaws.{turn_kept}
use Rattle.flow_round.proofs.TableLaws.{after_turns-append, after_turns-same, turns_append, turns_same, booked_append, booked_same}
use Rattle.flow_round.proofs.WaveLaws.{IsOfWave, wave_is, wave_of, wave_disjoint, waves_from, waves_from-suc}

-- ---- parts of a list without a pair

first_ones : (x : ℕ × ℕ) (xs ys : List (ℕ × ℕ)) → All (λ y. y ≢ x) (xs ++ ys) → All (λ y. y ≢ x) xs
first_ones x xs ys all = All-weaker (Contains xs) (λ y. y ≢ x)
    (λ y c. All-contains (λ y. y ≢ x) (xs ++ ys) y all (Contains-append_left xs ys y c)) xs (All-contains_itself xs)

last_ones : (x : ℕ × ℕ) (xs ys : List (ℕ × ℕ)) → All (λ y. y ≢ x) (xs ++ ys) → All (λ y. y ≢ x) ys
last_ones x xs ys all = All-weaker (Contains ys) (λ y. y ≢ x)
    (λ y c. All-contains (λ y. y ≢ x) (xs ++ ys) y all (Contains-append_right xs ys y c)) ys (All-contains_itself ys)

-- ---- a wave up to a block

abbrev pub pair_in : ℕ → ℕ → ℕ × ℕ
pair_in s a = (a, s - a)

-- the pairs of a wave whose first block is below a
abbrev pub wave_below : ℕ → ℕ → ℕ → List (ℕ × ℕ)
wave_below k s a = map (pair_in s) (filter (is_of_wave k s) (range_with_len 0 a))

below_of : (k s a : ℕ) → All (λ x. IsOfWave k s x × (x.0 < a)) (wave_below k s a)
below_of k s a = All-weaker (Contains (wave_below k s a)) (λ x. IsOfWave k s x × (x.0 < a)) by (wave_below k s a) (All-contains_itself (wave_below k s a))
  where
    by : (x : ℕ × ℕ) → Contains (wave_below k s a) x → IsOfWave k s x × (x.0 < a)
    by x c =
        let m = Contains-from_map (pair_in s) (filter (is_of_wave k s) (range_with_len 0 a)) x c in
        let f = Contains-from_filter (is_of_wave k s) (range_with_len 0 a) m.0 m.1 in
        subst (λ y. IsOfWave k s y × (y.0 < a)) m.2 (wave_is k s m.0 f.1, Contains-from_range a m.0 f.0)

range_more : (f n : ℕ) → range_with_len f (n + 1) ≡ range_with_len f n ++ (f + n) ∷ []
range_more f zero = let e : f ≡ f + 0 = omega arith in ap (λ x. x ∷ []) e
range_more f (suc n) =
    let e : suc n + 1 ≡ suc (n + 1) = omega arith in
    let g : f + 1 + n ≡ f + suc n = omega arith in
    ap (range_with_len f) e ∙ ap (λ xs. f ∷ xs) (range_more (f + 1) n ∙ ap (λ x. range_with_len (f + 1) n ++ x ∷ []) g)

filter_more : (test : ℕ → Bool) (xs : List ℕ) (x : ℕ) → filter test (xs ++ x ∷ []) ≡ filter test xs ++ (if test x then x ∷ [] else [])
filter_more test [] x = refl
filter_more test (y ∷ xs) x = by (test y) (filter_more test xs x)
  where
    by : (t : Bool) → filter test (xs ++ x ∷ []) ≡ filter test xs ++ (if test x then x ∷ [] else [])
        → (if t then y ∷ filter test (xs ++ x ∷ []) else filter test (xs ++ x ∷ []))
        ≡ (if t then y ∷ filter test xs else filter test xs) ++ (if test x then x ∷ [] else [])
    by true e = ap (λ ys. y ∷ ys) e
    by false e = e

map_more : (s : ℕ) (xs ys : List ℕ) → map (pair_in s) (xs ++ ys) ≡ map (pair_in s) xs ++ map (pair_in s) ys
map_more s [] ys = refl
map_more s (x ∷ xs) ys = ap (λ zs. pair_in s x ∷ zs) (map_more s xs ys)

wave_below-more : (k s a : ℕ) → wave_below k s (a + 1)
    ≡ wave_below k s a ++ map (pair_in s) (if is_of_wave k s a then a ∷ [] else [])
wave_below-more k s a =
    let e : 0 + a ≡ a = omega arith in
    ap (λ xs. map (pair_in s) (filter (is_of_wave k s) xs)) (range_more 0 a ∙ ap (λ x. range_with_len 0 a ++ x ∷ []) e)
    ∙ ap (map (pair_in s)) (filter_more (is_of_wave k s) (range_with_len 0 a) a)
    ∙ map_more s (filter (is_of_wave k s) (range_with_len 0 a)) (if is_of_wave k s a then a ∷ [] else [])

pub wave_below-in : (k s a : ℕ) → is_of_wave k s a ≡ true → wave_below k s (a + 1) ≡ wave_below k s a ++ pair_in s a ∷ []
wave_below-in k s a t = wave_below-more k s a ∙ ap (λ b. wave_below k s a ++ map (pair_in s) (if b then a ∷ [] else [])) t

pub wave_below-out : (k s a : ℕ) → is_of_wave k s a ≡ false → wave_below k s (a + 1) ≡ wave_below k s a
wave_below-out k s a t =
    wave_below-more k s a ∙ ap (λ b. wave_below k s a ++ map (pair_in s) (if b then a ∷ [] else [])) t ∙ append-nil (wave_below k s a)

-- ---- a pair of the wave more

module _ (h : Hyper) (k l : ℕ) (sound : IsHypergraph h) (first q : List ℕ) (ends : List (Option PairEnd)) (s a : ℕ) (t : is_of_wave k s a ≡ true)
    (is : q ≡ after_turns (end_at k ends) (wave_below k s a) first) (turns : AreTurns h k l (end_at k ends) (wave_below k s a) first)
    (turn : IsTurn h k l q (pair_in s a) (end_at k ends (pair_in s a)))
  where
    pub more_turns : AreTurns h k l (end_at k ends) (wave_below k s (a + 1)) first
    more_turns =
        subst (λ xs. AreTurns h k l (end_at k ends) xs first) (sym (wave_below-in k s a t))
        (turns_append h k l (end_at k ends) (wave_below k s a) (pair_in s a ∷ []) first turns
        (subst (λ p. IsTurn h k l p (pair_in s a) (end_at k ends (pair_in s a))) is turn, tt))

    pub more_blocks : after_turn q (end_at k ends (pair_in s a)) ≡ after_turns (end_at k ends) (wave_below k s (a + 1)) first
    more_blocks =
        ap (λ p. after_turn p (end_at k ends (pair_in s a))) is
        ∙ sym (after_turns-append (end_at k ends) (wave_below k s a) (pair_in s a ∷ []) first)
        ∙ ap (λ xs. after_turns (end_at k ends) xs first) (sym (wave_below-in k s a t))

    -- the later pairs of the wave keep their ends
    pub rest_turn : IsPartition h k q → Fits h k l q → (x : ℕ × ℕ) → IsPairBelow k x → x.0 + x.1 ≡ s → a + 1 ≤ x.0 → IsTurn h k l q x (end_at k ends x)
        → IsTurn h k l (after_turn q (end_at k ends (pair_in s a))) x (end_at k ends x)
    rest_turn parted fits x bx sum low u =
        let w = wave_is k s a t in
        turn_kept h k l sound q (pair_in s a) x (end_at k ends (pair_in s a)) (end_at k ends x) w.0 bx
        (wave_disjoint k s (pair_in s a) x (omega arith) w (bx, sum)) parted fits turn u

-- ---- a wave more

waves_more : (k s n : ℕ) → waves_from k s (n + 1) ≡ waves_from k s n ++ wave k (s + n)
waves_more k s zero =
    let e : s ≡ s + 0 = omega arith in
    waves_from-suc k s 0 ∙ append-nil (wave k s) ∙ ap (wave k) e
waves_more k s (suc n) =
    let e : suc n + 1 ≡ suc (n + 1) = omega arith in
    let f : s + 1 + n ≡ s + suc n = omega arith in
    ap (waves_from k s) e ∙ waves_from-suc k s (n + 1) ∙ ap (λ xs. wave k s ++ xs) (waves_more k (s + 1) n)
    ∙ sym (append_assoc (wave k s) (waves_from k (s + 1) n) (wave k (s + 1 + n)))
    ∙ ap (λ xs. xs ++ wave k (s + 1 + n)) (sym (waves_from-suc k s n)) ∙ ap (λ m. waves_from k s (suc n) ++ wave k m) f

waves_low : (k s n : ℕ) → All (λ x. IsPairBelow k x × (x.0 + x.1 < s + n)) (waves_from k s n)
waves_low k s zero = λ i d m. absurd (omega arith)
waves_low k s (suc n) =
    subst (All (λ x. IsPairBelow k x × (x.0 + x.1 < s + suc n))) (sym (waves_from-suc k s n))
    (All-append (λ x. IsPairBelow k x × (x.0 + x.1 < s + suc n)) (wave k s) (waves_from k (s + 1) n)
    (All-weaker (IsOfWave k s) (λ x. IsPairBelow k x × (x.0 + x.1 < s + suc n)) (λ x w. (w.0, (let e = w.1 in omega arith))) (wave k s) (wave_of k s))
    (All-weaker (λ x. IsPairBelow k x × (x.0 + x.1 < s + 1 + n)) (λ x. IsPairBelow k x × (x.0 + x.1 < s + suc n))
    (λ x w. (w.0, (let e = w.1 in omega arith))) (waves_from k (s + 1) n) (waves_low k (s + 1) n)))

module _ (h : Hyper) (k l : ℕ) (first q r : List ℕ) (ends more : List (Option PairEnd)) (n : ℕ)
    (is : q ≡ after_turns (end_at k ends) (waves_from k 1 n) first) (turns : AreTurns h k l (end_at k ends) (waves_from k 1 n) first)
    (others : (x : ℕ × ℕ) → IsPairBelow k x → x.0 + x.1 ≢ 1 + n → end_at k more x ≡ end_at k ends x)
    (next : AreTurns h k l (end_at k more) (wave k (1 + n)) q) (after : r ≡ after_turns (end_at k more) (wave k (1 + n)) q)
  where
    same_ends : All (λ x. end_at k more x ≡ end_at k ends x) (waves_from k 1 n)
    same_ends = All-weaker (λ x. IsPairBelow k x × (x.0 + x.1 < 1 + n)) (λ x. end_at k more x ≡ end_at k ends x)
        (λ x w. others x w.0 (λ e. let low = w.1 in absurd (omega arith))) (waves_from k 1 n) (waves_low k 1 n)

    before : q ≡ after_turns (end_at k more) (waves_from k 1 n) first
    before = is ∙ sym (after_turns-same (end_at k ends) (end_at k more) (waves_from k 1 n) first same_ends)

    pub wave_turns : AreTurns h k l (end_at k more) (waves_from k 1 (n + 1)) first
    wave_turns =
        subst (λ xs. AreTurns h k l (end_at k more) xs first) (sym (waves_more k 1 n))
        (turns_append h k l (end_at k more) (waves_from k 1 n) (wave k (1 + n)) first
        (turns_same h k l (end_at k ends) (end_at k more) (waves_from k 1 n) first same_ends turns)
        (subst (AreTurns h k l (end_at k more) (wave k (1 + n))) before next))

    pub wave_blocks : r ≡ after_turns (end_at k more) (waves_from k 1 (n + 1)) first
    wave_blocks =
        after ∙ ap (after_turns (end_at k more) (wave k (1 + n))) before
        ∙ sym (after_turns-append (end_at k more) (waves_from k 1 n) (wave k (1 + n)) first)
        ∙ ap (λ xs. after_turns (end_at k more) xs first) (sym (waves_more k 1 n))

-- ---- a front after the pair of a wave

-- the pair has its end for the front, which leads to the next one
pub record TakesPair (h : Hyper) (now next : Front) (a b : ℕ) : Type 0 where
  pub turn : IsTurn h now.part.k now.part.limit now.part.blocks (a, b) (end_at now.part.k now.ends.items (a, b))
  pub part : next.part ≡ record now.part { blocks = after_turn now.part.blocks (end_at now.part.k now.ends.items (a, b)) }
  pub ends : next.ends.items ≡ now.ends.items
  pub booked : IsBooked h now.part.blocks (end_at now.part.k now.ends.items (a, b)) (moves_at now.part.k next.made.items (a, b))
  pub others : (x : ℕ × ℕ) → IsPairBelow now.part.k x → x ≢ (a, b) → moves_at now.part.k next.made.items x ≡ moves_at now.part.k now.made.items x

-- those pairs of a wave that don't come before a have their ends
abbrev pub HaveLaterEnds : Hyper → Parted → ℕ → ℕ → List (Option PairEnd) → Type 0
HaveLaterEnds h p s a ends =
    (x : ℕ × ℕ) → IsPairBelow p.k x → x.0 + x.1 ≡ s → a ≤ x.0 → IsTurn h p.k p.limit p.blocks x (end_at p.k ends x)

module _ (h : Hyper) (old now next : Front) (s a b : ℕ) (sound : IsHypergraph h) (t : is_of_wave old.part.k s a ≡ true) (second : b ≡ s - a)
    (taken : TakesPairs h (wave_below old.part.k s a) old now) (pair : TakesPair h now next a b)
  where
    q : List ℕ
    q = after_turns (end_at old.part.k now.ends.items) (wave_below old.part.k s a) old.part.blocks

    turn_there : IsTurn h old.part.k old.part.limit q (pair_in s a) (end_at old.part.k now.ends.items (pair_in s a))
    unfolding q
    turn_there =
        subst (λ c. IsTurn h old.part.k old.part.limit q (a, c) (end_at old.part.k now.ends.items (a, c))) second
        (subst (λ (x : Parted). IsTurn h x.k x.limit x.blocks (a, b) (end_at x.k now.ends.items (a, b))) taken.same pair.turn)

    part_there : next.part ≡ record old.part { blocks = after_turn q (end_at old.part.k now.ends.items (pair_in s a)) }
    unfolding q
    part_there =
        pair.part
        ∙ ap (λ (x : Parted). record x { blocks = after_turn x.blocks (end_at x.k now.ends.items (a, b)) }) taken.same
        ∙ ap (λ c. record old.part { blocks = after_turn q (end_at old.part.k now.ends.items (a, c)) }) second

    booked_there : IsBooked h q (end_at old.part.k now.ends.items (pair_in s a)) (moves_at old.part.k next.made.items (pair_in s a))
    unfolding q
    booked_there =
        subst (λ c. IsBooked h q (end_at old.part.k now.ends.items (a, c)) (moves_at old.part.k next.made.items (a, c))) second
        (subst (λ (x : Parted). IsBooked h x.blocks (end_at x.k now.ends.items (a, b)) (moves_at x.k next.made.items (a, b))) taken.same pair.booked)

    others_there : (x : ℕ × ℕ) → IsPairBelow old.part.k x → x ≢ pair_in s a
        → moves_at old.part.k next.made.items x ≡ moves_at old.part.k now.made.items x
    others_there =
        subst (λ c. (x : ℕ × ℕ) → IsPairBelow old.part.k x → x ≢ (a, c) → moves_at old.part.k next.made.items x ≡ moves_at old.part.k now.made.items x) second
        (subst (λ (y : Parted). (x : ℕ × ℕ) → IsPairBelow y.k x → x ≢ (a, b) → moves_at y.k next.made.items x ≡ moves_at y.k now.made.items x) taken.same
        pair.others)

    still_booked : All (λ x. moves_at old.part.k next.made.items x ≡ moves_at old.part.k now.made.items x) (wave_below old.part.k s a)
    still_booked = All-weaker (λ x. IsOfWave old.part.k s x × (x.0 < a)) (λ x. moves_at old.part.k next.made.items x ≡ moves_at old.part.k now.made.items x)
        (λ x w. others_there x w.0.0 (λ e. let low = w.1 in let is = ap (λ (y : ℕ × ℕ). y.0) e in absurd (omega arith))) (wave_below old.part.k s a)
        (below_of old.part.k s a)

    pub taken_more : TakesPairs h (wave_below old.part.k s (a + 1)) old next
    unfolding q
    taken_more = record {
      same =
          part_there
          ∙ ap (λ x. record old.part { blocks = x }) (more_blocks h old.part.k old.part.limit sound old.part.blocks q now.ends.items s a t refl taken.turns
          turn_there)
          ∙ ap (λ (es : List (Option PairEnd)). record old.part
          { blocks = after_turns (end_at old.part.k es) (wave_below old.part.k s (a + 1)) old.part.blocks })
          (sym pair.ends);
      turns = subst (λ (es : List (Option PairEnd)). AreTurns h old.part.k old.part.limit (end_at old.part.k es) (wave_below old.part.k s (a + 1))
          old.part.blocks) (sym pair.ends)
          (more_turns h old.part.k old.part.limit sound old.part.blocks q now.ends.items s a t refl taken.turns turn_there);
      booked = subst (λ (es : List (Option PairEnd)). AreBooked h (end_at old.part.k es) (moves_at old.part.k next.made.items)
          (wave_below old.part.k s (a + 1)) old.part.blocks) (sym pair.ends)
          (subst (λ xs. AreBooked h (end_at old.part.k now.ends.items) (moves_at old.part.k next.made.items) xs old.part.blocks)
          (sym (wave_below-in old.part.k s a t))
          (booked_append h (end_at old.part.k now.ends.items) (moves_at old.part.k next.made.items) (wave_below old.part.k s a) (pair_in s a ∷ [])
          old.part.blocks
          (booked_same h (end_at old.part.k now.ends.items) (end_at old.part.k now.ends.items) (moves_at old.part.k now.made.items)
          (moves_at old.part.k next.made.items) (wave_below old.part.k s a) old.part.blocks (λ i d m. refl) still_booked taken.booked)
          (booked_there, tt)));
      others = λ x below n.
          let all = subst (All (λ y. y ≢ x)) (wave_below-in old.part.k s a t) n in
          others_there x below
          (λ e. All-contains (λ y. y ≢ x) (wave_below old.part.k s a ++ pair_in s a ∷ []) (pair_in s a) all
          (Contains-push (wave_below old.part.k s a) (pair_in s a)) (sym e))
          ∙ taken.others x below (first_ones x (wave_below old.part.k s a) (pair_in s a ∷ []) all);
    }

    pub rest_more : IsPartition h now.part.k now.part.blocks → Fits h now.part.k now.part.limit now.part.blocks
        → HaveLaterEnds h now.part s a now.ends.items → HaveLaterEnds h next.part s (a + 1) next.ends.items
    unfolding q
    rest_more parted fits rest x bx sum low =
        subst (λ (es : List (Option PairEnd)). IsTurn h next.part.k next.part.limit next.part.blocks x (end_at next.part.k es x)) (sym pair.ends)
        (subst (λ (y : Parted). IsTurn h y.k y.limit y.blocks x (end_at y.k now.ends.items x)) (sym part_there)
        (rest_turn h old.part.k old.part.limit sound old.part.blocks q now.ends.items s a t refl taken.turns turn_there
        (subst (λ (y : Parted). IsPartition h y.k y.blocks) taken.same parted) (subst (λ (y : Parted). Fits h y.k y.limit y.blocks) taken.same fits) x
        below sum low
        (subst (λ (y : Parted). IsTurn h y.k y.limit y.blocks x (end_at y.k now.ends.items x)) taken.same
        (rest x (subst (λ (y : Parted). IsPairBelow y.k x) (sym taken.same) below) sum (omega arith)))))
      where
        below : IsPairBelow old.part.k x
        below = subst (λ (y : Parted). IsPairBelow y.k x) part_there bx

-- ---- a front after a wave

module _ (h : Hyper) (old now next : Front) (mid : List (Option PairEnd)) (s : ℕ) (low : 1 ≤ s)
    (taken : TakesPairs h (waves_from old.part.k 1 (s - 1)) old now) (gained : GainsEnds h now.part s now.ends.items mid)
    (pairs : TakesPairs h (wave now.part.k s) now next) (ends : next.ends.items ≡ mid)
  where
    one : 1 + (s - 1) ≡ s
    one = omega arith

    here : List ℕ
    here = after_turns (end_at old.part.k now.ends.items) (waves_from old.part.k 1 (s - 1)) old.part.blocks

    kept_there : (x : ℕ × ℕ) → IsPairBelow old.part.k x → x.0 + x.1 ≢ 1 + (s - 1) → end_at old.part.k next.ends.items x ≡ end_at old.part.k now.ends.items x
    kept_there =
        subst (λ (p : Parted). (x : ℕ × ℕ) → IsPairBelow p.k x → x.0 + x.1 ≢ 1 + (s - 1) → end_at p.k next.ends.items x ≡ end_at p.k now.ends.items x)
        taken.same
        (λ x b n. ap (λ (es : List (Option PairEnd)). end_at now.part.k es x) ends ∙ gained.others x b (λ e. n (e ∙ sym one)))

    next_turns : AreTurns h old.part.k old.part.limit (end_at old.part.k next.ends.items) (wave old.part.k (1 + (s - 1))) here
    unfolding here
    next_turns =
        subst (λ n. AreTurns h old.part.k old.part.limit (end_at old.part.k next.ends.items) (wave old.part.k n) here) (sym one)
        (subst (λ (p : Parted). AreTurns h p.k p.limit (end_at p.k next.ends.items) (wave p.k s) p.blocks) taken.same pairs.turns)

    others_next : (x : ℕ × ℕ) → IsPairBelow old.part.k x → All (λ y. y ≢ x) (wave old.part.k (1 + (s - 1)))
        → moves_at old.part.k next.made.items x ≡ moves_at old.part.k now.made.items x
    others_next =
        subst (λ n. (x : ℕ × ℕ) → IsPairBelow old.part.k x → All (λ y. y ≢ x) (wave old.part.k n)
        → moves_at old.part.k next.made.items x ≡ moves_at old.part.k now.made.items x) (sym one)
        (subst (λ (p : Parted). (x : ℕ × ℕ) → IsPairBelow p.k x → All (λ y. y ≢ x) (wave p.k s)
        → moves_at p.k next.made.items x ≡ moves_at p.k now.made.items x) taken.same pairs.others)

    next_booked : AreBooked h (end_at old.part.k next.ends.items) (moves_at old.part.k next.made.items) (wave old.part.k (1 + (s - 1))) here
    unfolding here
    next_booked =
        subst (λ n. AreBooked h (end_at old.part.k next.ends.items) (moves_at old.part.k next.made.items) (wave old.part.k n) here) (sym one)
        (subst (λ (p : Parted). AreBooked h (end_at p.k next.ends.items) (moves_at p.k next.made.items) (wave p.k s) p.blocks) taken.same pairs.booked)

    moves_there : All (λ x. moves_at old.part.k next.made.items x ≡ moves_at old.part.k now.made.items x) (waves_from old.part.k 1 (s - 1))
    moves_there = All-weaker (λ x. IsPairBelow old.part.k x × (x.0 + x.1 < 1 + (s - 1)))
        (λ x. moves_at old.part.k next.made.items x ≡ moves_at old.part.k now.made.items x)
        (λ x w. others_next x w.0 (All-weaker (IsOfWave old.part.k (1 + (s - 1))) (λ y. y ≢ x)
        (λ y v e. let low = w.1 in let sum = v.1 in let is = ap (λ (z : ℕ × ℕ). z.0 + z.1) e in absurd (omega arith)) (wave old.part.k (1 + (s - 1)))
        (wave_of old.part.k (1 + (s - 1))))) (waves_from old.part.k 1 (s - 1)) (waves_low old.part.k 1 (s - 1))

    ends_there : All (λ x. end_at old.part.k next.ends.items x ≡ end_at old.part.k now.ends.items x) (waves_from old.part.k 1 (s - 1))
    ends_there = All-weaker (λ x. IsPairBelow old.part.k x × (x.0 + x.1 < 1 + (s - 1)))
        (λ x. end_at old.part.k next.ends.items x ≡ end_at old.part.k now.ends.items x)
        (λ x w. kept_there x w.0 (λ e. let low = w.1 in absurd (omega arith))) (waves_from old.part.k 1 (s - 1)) (waves_low old.part.k 1 (s - 1))

    all_booked : AreBooked h (end_at old.part.k next.ends.items) (moves_at old.part.k next.made.items) (waves_from old.part.k 1 (s - 1 + 1)) old.part.blocks
    unfolding here
    all_booked =
        subst (λ xs. AreBooked h (end_at old.part.k next.ends.items) (moves_at old.part.k next.made.items) xs old.part.blocks)
        (sym (waves_more old.part.k 1 (s - 1)))
        (booked_append h (end_at old.part.k next.ends.items) (moves_at old.part.k next.made.items) (waves_from old.part.k 1 (s - 1))
        (wave old.part.k (1 + (s - 1))) old.part.blocks
        (booked_same h (end_at old.part.k now.ends.items) (end_at old.part.k next.ends.items) (moves_at old.part.k now.made.items)
        (moves_at old.part.k next.made.items) (waves_from old.part.k 1 (s - 1)) old.part.blocks ends_there moves_there taken.booked)
        (subst (AreBooked h (end_at old.part.k next.ends.items) (moves_at old.part.k next.made.items) (wave old.part.k (1 + (s - 1))))
        (sym (after_turns-same (end_at old.part.k now.ends.items) (end_at old.part.k next.ends.items) (waves_from old.part.k 1 (s - 1)) old.part.blocks
        ends_there)) next_booked))

    pub waves_taken : TakesPairs h (waves_from old.part.k 1 (s + 1 - 1)) old next
    unfolding here
    waves_taken =
        let n : s - 1 + 1 ≡ s + 1 - 1 = omega arith in
        let rest = after_turns (end_at old.part.k next.ends.items) (wave old.part.k (1 + (s - 1))) here in
        record {
          same =
              pairs.same
              ∙ ap (λ (p : Parted). record p { blocks = after_turns (end_at p.k next.ends.items) (wave p.k s) p.blocks }) taken.same
              ∙ ap (λ m. record old.part { blocks = after_turns (end_at old.part.k next.ends.items) (wave old.part.k m) here }) (sym one)
              ∙ ap (λ x. record old.part { blocks = x }) (wave_blocks h old.part.k old.part.limit old.part.blocks here rest now.ends.items next.ends.items
              (s - 1) refl taken.turns kept_there next_turns refl)
              ∙ ap (λ m. record old.part { blocks = after_turns (end_at old.part.k next.ends.items) (waves_from old.part.k 1 m) old.part.blocks }) n;
          turns =
              subst (λ m. AreTurns h old.part.k old.part.limit (end_at old.part.k next.ends.items) (waves_from old.part.k 1 m) old.part.blocks) n
              (wave_turns h old.part.k old.part.limit old.part.blocks here rest now.ends.items next.ends.items (s - 1) refl taken.turns kept_there next_turns
              refl);
          booked =
              subst (λ m. AreBooked h (end_at old.part.k next.ends.items) (moves_at old.part.k next.made.items) (waves_from old.part.k 1 m) old.part.blocks) n
              all_booked;
          others = λ x below differ.
              let all = subst (λ m. All (λ y. y ≢ x) (waves_from old.part.k 1 m)) (sym n) differ in
              let parts = subst (All (λ y. y ≢ x)) (waves_more old.part.k 1 (s - 1)) all in
              others_next x below (last_ones x (waves_from old.part.k 1 (s - 1)) (wave old.part.k (1 + (s - 1))) parts)
              ∙ taken.others x below (first_ones x (waves_from old.part.k 1 (s - 1)) (wave old.part.k (1 + (s - 1))) parts);
        }

    pub none_later : ((x : ℕ × ℕ) → IsPairBelow now.part.k x → s ≤ x.0 + x.1 → end_at now.part.k now.ends.items x ≡ None)
        → (x : ℕ × ℕ) → IsPairBelow next.part.k x → s + 1 ≤ x.0 + x.1 → end_at next.part.k next.ends.items x ≡ None
    none_later none x bx later =
        subst (λ (p : Parted). end_at p.k next.ends.items x ≡ None) (sym pairs.same)
        (ap (λ (es : List (Option PairEnd)). end_at now.part.k es x) ends ∙ gained.others x below (λ e. absurd (omega arith))
        ∙ none x below (omega arith))
      where
        below : IsPairBelow now.part.k x
        below = subst (λ (p : Parted). IsPairBelow p.k x) pairs.same bx
