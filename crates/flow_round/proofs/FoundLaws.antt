-- The pairs of a wave that a net touches, and the ends that were found for them.
use Rattle.std.proofs.Common.{◌≡◌, ◌≢◌, ◌⊎◌, inl, inr, ℕ, ◌+◌, ◌-◌, ◌*◌, ◌<◌, true, ◌&&◌, nat_lt, List, [], ◌∷◌, ◌++◌, map}
use Rattle.std.proofs.Common.{length, get_or, slice_set, All, Contains, IsPermutation, Option, None, is_some, true≢false, refl, sym, ap, subst, ◌∙◌, arith}
use Rattle.std.proofs.Common.{get_or-set_same, get_or-set_other}
use Rattle.std.proofs.lemmas.Bool.{lt-ltb, cases_eq}
use Rattle.std.proofs.lemmas.List.{get_or_default, get_or-map, length-map}
use Rattle.std.proofs.lemmas.List.Elements.{All-nil, All-push, All-contains, All-map, All-weaker, Contains-append_left, Contains-push}
use Rattle.std.proofs.lemmas.List.Sorted.{All-permutation, Contains-permutation}
use Rattle.hg_defs.specs.Hypergraph.{Hyper}
use Rattle.hg_defs.proofs.DistinctLaws.{Contains-map, Contains-from_map}
use Rattle.round_log.specs.Rounds.{touching}
use Rattle.pin_plain.specs.Parted.{Parted}
use Rattle.flow_pair.specs.declared.solve.PairEnd.{PairEnd}
use Rattle.flow_round.specs.declared.worker.Found.{Found}
use Rattle.flow_round.specs.declared.worker.Worker.{Worker}
use Rattle.flow_round.specs.PairTurns.{IsPairBelow, IsTurn, is_of_wave}
use Rattle.flow_round.specs.Waves.{AreTouched, HasEnd, IsDone, IsFound, IsIdle, IsSolved}
use Rattle.flow_round.specs.Waves.{HaveNoEnds, MayGainEnd, MayHaveEnds, GainsEnds, end_at}
use Rattle.flow_round.proofs.TableLaws.{put_cases, end_at-here}
use Rattle.flow_round.proofs.WaveLaws.{IsOfWave, wave_is}

-- ---- pairs that a net touches

module _ (h : Hyper) (p : Parted) (s : ℕ) where
  pub touched_none : AreTouched h p s 0 []
  touched_none = record { wave = All-nil (λ (a : ℕ). is_of_wave p.k s a ≡ true); all = λ a l w t. absurd (omega arith) }

  pub touched_more : (n : ℕ) (firsts : List ℕ) → is_of_wave p.k s n ≡ true → AreTouched h p s n firsts → AreTouched h p s (n + 1) (firsts ++ n ∷ [])
  touched_more n firsts w were = record {
    wave = All-push (λ (a : ℕ). is_of_wave p.k s a ≡ true) firsts n were.wave w;
    all = λ a l v t. by a l v t (cases_eq a n);
  }
    where
      by : (a : ℕ) → a < n + 1 → is_of_wave p.k s a ≡ true → touching h p.blocks a (s - a) ≢ [] → (a ≡ n) ⊎ (a ≢ n) → Contains (firsts ++ n ∷ []) a
      by a l v t (inl e) = subst (Contains (firsts ++ n ∷ [])) (sym e) (Contains-push firsts n)
      by a l v t (inr d) = Contains-append_left firsts (n ∷ []) a (were.all a (omega arith) v t)

  -- the next pair is none of those
  pub touched_same : (n : ℕ) (firsts : List ℕ) → (is_of_wave p.k s n ≡ true → touching h p.blocks n (s - n) ≡ []) → AreTouched h p s n firsts
      → AreTouched h p s (n + 1) firsts
  touched_same n firsts free were = record { wave = were.wave; all = λ a l v t. by a l v t (cases_eq a n) }
    where
      by : (a : ℕ) → a < n + 1 → is_of_wave p.k s a ≡ true → touching h p.blocks a (s - a) ≢ [] → (a ≡ n) ⊎ (a ≢ n) → Contains firsts a
      by a l v t (inl e) =
          absurd (t (ap (λ x. touching h p.blocks x (s - x)) e ∙ free (subst (λ x. is_of_wave p.k s x ≡ true) e v)))
      by a l v t (inr d) = were.all a (omega arith) v t

  pub touched_sorted : {A : Type 0} (f : A → ℕ) (n : ℕ) (xs ys : List A) → IsPermutation xs ys → AreTouched h p s n (map f xs)
      → AreTouched h p s n (map f ys)
  touched_sorted f n xs ys moved were = record {
    wave = All-map (λ (a : ℕ). is_of_wave p.k s a ≡ true) f ys (All-permutation (λ x. is_of_wave p.k s (f x) ≡ true) xs ys moved
        (λ i d l. All-contains (λ (a : ℕ). is_of_wave p.k s a ≡ true) (map f xs) (f (get_or xs i d)) were.wave
        (Contains-map f xs (get_or xs i d) (i, l, get_or_default xs i (get_or xs i d) d l))));
    all = λ a l v t.
        let c = Contains-from_map f xs a (were.all a l v t) in
        subst (Contains (map f ys)) c.2 (Contains-map f ys c.0 (Contains-permutation xs ys c.0 moved c.1));
  }

-- ---- ends

-- an end that was found is that of its pair
pub end_turn : (h : Hyper) (p : Parted) (found : List Found) (x : ℕ × ℕ) (end : Option PairEnd) → All (IsDone h p) found → HasEnd found x end
    → IsTurn h p.k p.limit p.blocks x end
end_turn h p found x end all has =
    subst (IsTurn h p.k p.limit p.blocks x) (sym has.3)
    (subst (λ y. IsTurn h p.k p.limit p.blocks y has.0.end) has.2 (All-contains (IsDone h p) found has.0 all has.1))

-- a worker's ends were written
module _ (h : Hyper) (p : Parted) (s : ℕ) (old ends more : List (Option PairEnd)) (found : List Found) (of_s : All (IsFound p.k s) found)
    (done : All (IsDone h p) found)
    (told : (x : ℕ × ℕ) → IsPairBelow p.k x → (end_at p.k more x ≡ end_at p.k ends x) ⊎ HasEnd found x (end_at p.k more x))
  where
    pub gain_more : MayGainEnd h p s old ends → MayGainEnd h p s old more
    gain_more was x b = by (told x b) (was x b)
      where
        by : (end_at p.k more x ≡ end_at p.k ends x) ⊎ HasEnd found x (end_at p.k more x)
            → (end_at p.k ends x ≡ end_at p.k old x) ⊎ ((x.0 + x.1 ≡ s) × IsTurn h p.k p.limit p.blocks x (end_at p.k ends x))
            → (end_at p.k more x ≡ end_at p.k old x) ⊎ ((x.0 + x.1 ≡ s) × IsTurn h p.k p.limit p.blocks x (end_at p.k more x))
        by (inl e) (inl f) = inl (e ∙ f)
        by (inl e) (inr f) = inr (f.0, subst (IsTurn h p.k p.limit p.blocks x) (sym e) f.1)
        by (inr has) f = inr (
          ap (λ (y : ℕ × ℕ). y.0 + y.1) (sym has.2) ∙ (All-contains (IsFound p.k s) found has.0 of_s has.1).sum,
          end_turn h p found x (end_at p.k more x) done has,
        )

-- a worker has none then
pub idle_more : (h : Hyper) (workers : List Worker) (at : ℕ) (w : Worker) → at < length workers → IsIdle h w
    → ((i : ℕ) (d : Worker) → i < at → IsIdle h (get_or workers i d)) → (i : ℕ) (d : Worker) → i < at + 1 → IsIdle h (get_or (slice_set workers at w) i d)
idle_more h workers at w low idle were i d l = by (cases_eq i at)
  where
    by : (i ≡ at) ⊎ (i ≢ at) → IsIdle h (get_or (slice_set workers at w) i d)
    by (inl here) = subst (IsIdle h) (sym (ap (λ n. get_or (slice_set workers at w) n d) here ∙ get_or-set_same workers at w d low)) idle
    by (inr other) = subst (IsIdle h) (sym (get_or-set_other workers at i w d other)) (were i d (omega (arith, l, other)))

-- the pair at a place of the list is one of the wave
pub pair_at : {A : Type 0} (f : A → ℕ) (k s : ℕ) (xs : List A) (i : ℕ) (d : A) → i < length xs → All (λ a. is_of_wave k s a ≡ true) (map f xs)
    → IsOfWave k s (f (get_or xs i d), s - f (get_or xs i d))
pair_at f k s xs i d low all =
    wave_is k s (f (get_or xs i d))
    (subst (λ a. is_of_wave k s a ≡ true) (get_or-map f xs i d 0 low) (all i 0 (let m = length-map xs f in omega (arith, m, low))))

-- ---- what a worker finds

-- a worker that found nothing
pub solved_none : (h : Hyper) (p : Parted) (s : ℕ) (w : Worker) → IsIdle h w → IsSolved h p s w
solved_none h p s w idle = record {
  solver_is = idle.solver_is;
  found_are = subst (All (IsFound p.k s)) (sym idle.none) (All-nil (IsFound p.k s));
  done = subst (All (IsDone h p)) (sym idle.none) (All-nil (IsDone h p));
}

-- a worker found no more, or one more end
pub solved_same : (h : Hyper) (p : Parted) (s : ℕ) (old new : Worker) → IsSolved h p s old → new.solver ≡ old.solver
    → new.found.items ≡ old.found.items → IsSolved h p s new
solved_same h p s old new was same none = record {
  solver_is = same ∙ was.solver_is;
  found_are = subst (All (IsFound p.k s)) (sym none) was.found_are;
  done = subst (All (IsDone h p)) (sym none) was.done;
}

pub solved_more : (h : Hyper) (p : Parted) (s : ℕ) (old new : Worker) (t : Found) → IsSolved h p s old → new.solver ≡ old.solver
    → new.found.items ≡ old.found.items ++ t ∷ [] → IsFound p.k s t → IsDone h p t → IsSolved h p s new
solved_more h p s old new t was same more of_s done = record {
  solver_is = same ∙ was.solver_is;
  found_are = subst (All (IsFound p.k s)) (sym more) (All-push (IsFound p.k s) old.found.items t was.found_are of_s);
  done = subst (All (IsDone h p)) (sym more) (All-push (IsDone h p) old.found.items t was.done done);
}

-- ---- those that no worker found

-- a pair of a wave is in it
pub of_wave : (k s : ℕ) (x : ℕ × ℕ) → IsPairBelow k x → x.0 + x.1 ≡ s → is_of_wave k s x.0 ≡ true
of_wave k s x b sum =
    let order = b.order in
    let below = b.below in
    let first = lt-ltb (2 * x.0) s (omega arith) in
    let second = lt-ltb (s - x.0) k (omega arith) in
    ap (λ t. t && nat_lt (s - x.0) k) first ∙ second

-- what workers wrote of the wave are its ends
pub may_have : (h : Hyper) (p : Parted) (s : ℕ) (ends mid : List (Option PairEnd)) → HaveNoEnds p.k s ends → MayGainEnd h p s ends mid
    → MayHaveEnds h p s mid
may_have h p s ends mid none gained x b sum = by (gained x b)
  where
    by : (end_at p.k mid x ≡ end_at p.k ends x) ⊎ ((x.0 + x.1 ≡ s) × IsTurn h p.k p.limit p.blocks x (end_at p.k mid x))
        → (end_at p.k mid x ≡ None) ⊎ IsTurn h p.k p.limit p.blocks x (end_at p.k mid x)
    by (inl e) = inl (e ∙ none x b sum)
    by (inr r) = inr r.1

-- a pair of the wave has its end
abbrev pub HasTurn : Hyper → Parted → ℕ → List (Option PairEnd) → ℕ → Type 0
HasTurn h p s ends a = IsPairBelow p.k (a, s - a) × IsTurn h p.k p.limit p.blocks (a, s - a) (end_at p.k ends (a, s - a))

-- the end of a pair of the wave is written
module _ (h : Hyper) (p : Parted) (s : ℕ) (ends : List (Option PairEnd)) (t : Found) (long : length ends ≡ p.k * p.k) (of_s : IsFound p.k s t)
    (done : IsDone h p t)
  where
    abbrev written : List (Option PairEnd)
    written = slice_set ends (t.first * p.k + t.second) t.end

    abbrev Cases : ℕ × ℕ → Type 0
    Cases x = (((t.first, t.second) ≡ x) × (end_at p.k written x ≡ t.end)) ⊎ (end_at p.k written x ≡ end_at p.k ends x)

    turn_is : (x : ℕ × ℕ) → (t.first, t.second) ≡ x → end_at p.k written x ≡ t.end → IsTurn h p.k p.limit p.blocks x (end_at p.k written x)
    turn_is x is e = subst (λ y. IsTurn h p.k p.limit p.blocks y (end_at p.k written x)) is
        (subst (IsTurn h p.k p.limit p.blocks (t.first, t.second)) (sym e) done)

    pub written_turn : (x : ℕ × ℕ) → IsPairBelow p.k x → IsTurn h p.k p.limit p.blocks x (end_at p.k ends x)
        → IsTurn h p.k p.limit p.blocks x (end_at p.k written x)
    written_turn x b was = by (put_cases p.k ends t x long of_s.below b)
      where
        by : Cases x → IsTurn h p.k p.limit p.blocks x (end_at p.k written x)
        by (inl e) = turn_is x e.0 e.1
        by (inr e) = subst (IsTurn h p.k p.limit p.blocks x) (sym e) was

    -- the pairs that had their ends still have them, and so has this one
    pub written_more : (firsts : List ℕ) → All (HasTurn h p s ends) firsts → All (HasTurn h p s written) firsts
    written_more firsts were = All-weaker (HasTurn h p s ends) (HasTurn h p s written) (λ a w. (w.0, written_turn (a, s - a) w.0 w.1)) firsts were

    pub written_here : IsTurn h p.k p.limit p.blocks (t.first, t.second) (end_at p.k written (t.first, t.second))
    written_here =
        let low : t.first < p.k = (let a = of_s.below.order in let b = of_s.below.below in omega arith) in
        turn_is (t.first, t.second) refl (end_at-here p.k ends t.first t.second t.end long low of_s.below.below)

    pub written_may : MayHaveEnds h p s ends → MayHaveEnds h p s written
    written_may was x b sum = by (put_cases p.k ends t x long of_s.below b)
      where
        by : Cases x → (end_at p.k written x ≡ None) ⊎ IsTurn h p.k p.limit p.blocks x (end_at p.k written x)
        by (inl e) = inr (turn_is x e.0 e.1)
        by (inr e) = subst (λ (z : Option PairEnd). (z ≡ None) ⊎ IsTurn h p.k p.limit p.blocks x z) (sym e) (was x b sum)

    pub written_other : (x : ℕ × ℕ) → IsPairBelow p.k x → x.0 + x.1 ≢ s → end_at p.k written x ≡ end_at p.k ends x
    written_other x b n = by (put_cases p.k ends t x long of_s.below b)
      where
        by : Cases x → end_at p.k written x ≡ end_at p.k ends x
        by (inl e) = absurd (n (ap (λ (y : ℕ × ℕ). y.0 + y.1) (sym e.0) ∙ of_s.sum))
        by (inr e) = e

-- an end that stands there is that of the pair
pub has_turn : (h : Hyper) (p : Parted) (s a : ℕ) (ends : List (Option PairEnd)) → IsPairBelow p.k (a, s - a) → a + (s - a) ≡ s
    → MayHaveEnds h p s ends → is_some (end_at p.k ends (a, s - a)) ≡ true → HasTurn h p s ends a
has_turn h p s a ends b sum may some = (b, by (may (a, s - a) b sum))
  where
    by : (end_at p.k ends (a, s - a) ≡ None) ⊎ IsTurn h p.k p.limit p.blocks (a, s - a) (end_at p.k ends (a, s - a))
        → IsTurn h p.k p.limit p.blocks (a, s - a) (end_at p.k ends (a, s - a))
    by (inr t) = t
    by (inl e) = absurd (true≢false (sym some ∙ ap is_some e))

-- where those pairs that a net touches got their ends, all have theirs
pub gains_all : (h : Hyper) (p : Parted) (s : ℕ) (ends mid : List (Option PairEnd)) (firsts : List ℕ) → AreTouched h p s p.k firsts
    → MayHaveEnds h p s mid → ((x : ℕ × ℕ) → IsPairBelow p.k x → x.0 + x.1 ≢ s → end_at p.k mid x ≡ end_at p.k ends x)
    → ((a : ℕ) → Contains firsts a → IsTurn h p.k p.limit p.blocks (a, s - a) (end_at p.k mid (a, s - a))) → GainsEnds h p s ends mid
gains_all h p s ends mid firsts touched may others put = record {
  ends = λ x b sum. by x b sum (touching h p.blocks x.0 x.1) refl (may x b sum);
  others = others;
}
  where
    by : (x : ℕ × ℕ) → IsPairBelow p.k x → x.0 + x.1 ≡ s → (nets : _) → touching h p.blocks x.0 x.1 ≡ nets
        → (end_at p.k mid x ≡ None) ⊎ IsTurn h p.k p.limit p.blocks x (end_at p.k mid x) → IsTurn h p.k p.limit p.blocks x (end_at p.k mid x)
    by x b sum nets e (inr r) = r
    by x b sum [] e (inl f) = subst (IsTurn h p.k p.limit p.blocks x) (sym f) e
    by x b sum (net ∷ nets) e (inl f) =
        let second : s - x.0 ≡ x.1 = omega (arith, sum) in
        let order = b.order in
        let below = b.below in
        subst (λ c. IsTurn h p.k p.limit p.blocks (x.0, c) (end_at p.k mid (x.0, c))) second
        (put x.0 (touched.all x.0 (omega arith) (of_wave p.k s x b sum)
        (λ n. let m = sym e ∙ ap (touching h p.blocks x.0) (sym second) ∙ n in let l = ap length m in absurd (omega (arith, l)))))

-- the workers wrote some ends, and then the others were written
pub gains_then : (h : Hyper) (p : Parted) (s : ℕ) (ends mid last : List (Option PairEnd)) → MayGainEnd h p s ends mid → GainsEnds h p s mid last
    → GainsEnds h p s ends last
gains_then h p s ends mid last gained rest = record { ends = rest.ends; others = λ x b n. rest.others x b n ∙ by x n (gained x b) }
  where
    by : (x : ℕ × ℕ) → x.0 + x.1 ≢ s
        → (end_at p.k mid x ≡ end_at p.k ends x) ⊎ ((x.0 + x.1 ≡ s) × IsTurn h p.k p.limit p.blocks x (end_at p.k mid x))
        → end_at p.k mid x ≡ end_at p.k ends x
    by x n (inl e) = e
    by x n (inr r) = absurd (n r.0)
