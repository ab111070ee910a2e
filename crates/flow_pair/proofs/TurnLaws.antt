-- The turns of the pairs of blocks in a flow pass.
use Rattle.std.proofs.Common.{◌≡◌, ◌≢◌, inl, inr, ℕ, zero, suc, ◌+◌, ◌-◌, ◌<◌, ◌≤◌, Bool, true, false, List, [], ◌∷◌, ◌++◌, map, length, All}
use Rattle.std.proofs.Common.{refl, sym, ap, subst, ◌∙◌, arith}
use Rattle.std.specs.List.{range_with_len, flat_map}
use Rattle.std.proofs.lemmas.List.{append_assoc, append-nil}
use Rattle.std.proofs.lemmas.List.Concat.{flat_map-cons}
use Rattle.std.proofs.lemmas.List.Elements.{All-nil, All-cons, All-append, All-weaker}
use Rattle.hg_defs.specs.Hypergraph.{Hyper}
use Rattle.hg_defs.specs.Partition.{IsPartition, Fits}
use Rattle.hg_defs.specs.Cost.{cost}
use Rattle.pin_plain.specs.Parted.{Parted}
use Rattle.round_log.specs.declared.record.Kind.TheVariants.{Flow}
use Rattle.round_log.specs.declared.record.LoggedRound.{LoggedRound}
use Rattle.round_log.specs.Rounds.{touching, after_round, after_rounds}
use Rattle.round_log.specs.Passes.{block_pairs, AreFlowRounds}
use Rattle.round_log.proofs.PassLaws.{pass-saves}
use Rattle.refiner.specs.declared.pass.Task.{Task}
use Rattle.refiner.specs.declared.pass.Tally.{Tally}
use Rattle.refiner.specs.Logging.{LogsPass}
use Rattle.flow_pair.specs.Turns.{RecordsFlow, LeadsOn, TakesTurns, TakesTurn}

-- ---- the pairs that are left

-- the pair of two blocks
abbrev pub pair_of : ℕ → ℕ → ℕ × ℕ
pair_of a b = (a, b)

-- those with first block a whose second block is b or later
abbrev pub row_from : ℕ → ℕ → ℕ → List (ℕ × ℕ)
row_from k a b = map (pair_of a) (range_with_len b (k - b))

-- all with first block a
abbrev pub row : ℕ → ℕ → List (ℕ × ℕ)
row k a = map (λ i. (a, a + 1 + i)) (range_with_len 0 (k - (a + 1)))

-- those whose first block is a or later
abbrev pub rows_from : ℕ → ℕ → List (ℕ × ℕ)
rows_from k a = flat_map (row k) (range_with_len a (k - a))

-- those from (a, b) on
abbrev pub pairs_from : ℕ → ℕ → ℕ → List (ℕ × ℕ)
pairs_from k a b = row_from k a b ++ rows_from k (a + 1)

pub rows_first : (k : ℕ) → rows_from k 0 ≡ block_pairs k
rows_first k = let e : k - 0 ≡ k = omega arith in ap (λ n. flat_map (row k) (range_with_len 0 n)) e

pub rows_last : (k a : ℕ) → k ≤ a → rows_from k a ≡ []
rows_last k a end = let e : k - a ≡ 0 = omega arith in ap (λ n. flat_map (row k) (range_with_len a n)) e

shifted : (a s t n : ℕ) → map (λ i. pair_of a (s + i)) (range_with_len t n) ≡ map (pair_of a) (range_with_len (s + t) n)
shifted a s t zero = refl
shifted a s t (suc n) =
    let e : s + (t + 1) ≡ s + t + 1 = omega arith in
    ap (λ ps. pair_of a (s + t) ∷ ps) (shifted a s (t + 1) n ∙ ap (λ u. map (pair_of a) (range_with_len u n)) e)

pub rows_open : (k a : ℕ) → a < k → rows_from k a ≡ pairs_from k a (a + 1)
rows_open k a low =
    let e : k - a ≡ suc (k - (a + 1)) = omega arith in
    let f : a + 1 + 0 ≡ a + 1 = omega arith in
    ap (λ n. flat_map (row k) (range_with_len a n)) e
    ∙ flat_map-cons (row k) a (range_with_len (a + 1) (k - (a + 1)))
    ∙ ap (λ ps. ps ++ rows_from k (a + 1)) (shifted a (a + 1) 0 (k - (a + 1)) ∙ ap (λ u. map (pair_of a) (range_with_len u (k - (a + 1)))) f)

pub row_next : (k a b : ℕ) → b < k → pairs_from k a b ≡ (a, b) ∷ pairs_from k a (b + 1)
row_next k a b low =
    let e : k - b ≡ suc (k - (b + 1)) = omega arith in
    ap (λ n. map (pair_of a) (range_with_len b n) ++ rows_from k (a + 1)) e

pub row_last : (k a b : ℕ) → k ≤ b → pairs_from k a b ≡ rows_from k (a + 1)
row_last k a b end =
    let e : k - b ≡ 0 = omega arith in
    ap (λ n. map (pair_of a) (range_with_len b n) ++ rows_from k (a + 1)) e

-- ---- one turn after the other

pub after_rounds-append : (p : List ℕ) (rs ss : List LoggedRound) → after_rounds p (rs ++ ss) ≡ after_rounds (after_rounds p rs) ss
after_rounds-append p [] ss = refl
after_rounds-append p (r ∷ rs) ss = after_rounds-append (after_round p r) rs ss

module _ (h : Hyper) (k l level : ℕ) where
  leads_none : (pairs : List (ℕ × ℕ)) (p : List ℕ) → LeadsOn h k l level pairs pairs p p []
  leads_none pairs p = record {
    follows = λ whole rest s. s;
    leads = refl;
    recorded = All-nil (λ (r : LoggedRound). (r.level ≡ level) × (r.tabled ≡ false));
  }

  leads_more : (pairs later last : List (ℕ × ℕ)) (p q r : List ℕ) (made more : List LoggedRound) → LeadsOn h k l level pairs later p q made
      → LeadsOn h k l level later last q r more → LeadsOn h k l level pairs last p r (made ++ more)
  leads_more pairs later last p q r made more s t = record {
    follows = λ whole rest f. subst (AreFlowRounds whole h k l pairs p) (sym (append_assoc made more rest))
        (s.follows whole (more ++ rest) (t.follows whole rest f));
    leads = t.leads ∙ ap (λ x. after_rounds x more) s.leads ∙ sym (after_rounds-append p made more);
    recorded = All-append (λ (r : LoggedRound). (r.level ≡ level) × (r.tabled ≡ false)) made more s.recorded t.recorded;
  }

  -- no net touches the pair
  turn_none : (a b : ℕ) (p : List ℕ) (later : List (ℕ × ℕ)) → touching h p a b ≡ [] → LeadsOn h k l level ((a, b) ∷ later) later p p []
  turn_none a b p later apart = record {
    follows = by later;
    leads = refl;
    recorded = All-nil (λ (r : LoggedRound). (r.level ≡ level) × (r.tabled ≡ false));
  }
    where
      by : (later : List (ℕ × ℕ)) (whole : Bool) (rest : List LoggedRound) → AreFlowRounds whole h k l later p rest
          → AreFlowRounds whole h k l ((a, b) ∷ later) p rest
      by [] true [] s = (apart, s)
      by (pair ∷ pairs) true [] s = (apart, s)
      by [] false [] s = tt
      by (pair ∷ pairs) false [] s = tt
      by [] whole (r ∷ rest) s = absurd s
      by (pair ∷ pairs) whole (r ∷ rest) s = inl (apart, s)

  -- the round of a pair
  turn_made : (a b : ℕ) (p : List ℕ) (later : List (ℕ × ℕ)) (r : LoggedRound) → touching h p a b ≢ [] → RecordsFlow h k l level p a b r
      → LeadsOn h k l level ((a, b) ∷ later) later p (after_round p r) (r ∷ [])
  turn_made a b p later r some s = record {
    follows = λ whole rest f. inr (some, s.kind, s.first, s.second, s.untabled, s.flow, f);
    leads = refl;
    recorded = All-cons (λ (x : LoggedRound). (x.level ≡ level) × (x.tabled ≡ false)) r [] (s.level_is, s.untabled)
        (All-nil (λ (x : LoggedRound). (x.level ≡ level) × (x.tabled ≡ false)));
  }

module _ (h : Hyper) (level : ℕ) where
  pub turns_none : (pairs : List (ℕ × ℕ)) (p : Parted) (rounds : List LoggedRound) → Fits h p.k p.limit p.blocks
      → TakesTurns h level pairs pairs p p rounds rounds
  turns_none pairs p rounds fits = record {
    made = [];
    added = sym (append-nil rounds);
    same = refl;
    fits = fits;
    leads = leads_none h p.k p.limit level pairs p.blocks;
  }

  pub turns_same : (pairs later others : List (ℕ × ℕ)) (p q : Parted) (old new : List LoggedRound) → later ≡ others
      → TakesTurns h level pairs later p q old new → TakesTurns h level pairs others p q old new
  turns_same pairs later others p q old new e s = subst (λ x. TakesTurns h level pairs x p q old new) e s

  pub turns_more : (pairs later last : List (ℕ × ℕ)) (p q r : Parted) (old now new : List LoggedRound) → TakesTurns h level pairs later p q old now
      → TakesTurns h level later last q r now new → TakesTurns h level pairs last p r old new
  turns_more pairs later last p q r old now new s t = record {
    made = s.made ++ t.made;
    added = t.added ∙ ap (λ xs. xs ++ t.made) s.added ∙ append_assoc old s.made t.made;
    same = t.same ∙ ap (λ (x : Parted). record x { blocks = r.blocks }) s.same;
    fits = subst (λ (x : Parted). Fits h x.k x.limit r.blocks) s.same t.fits;
    leads = leads_more h p.k p.limit level pairs later last p.blocks q.blocks r.blocks s.made t.made s.leads
        (subst (λ (x : Parted). LeadsOn h x.k x.limit level later last q.blocks r.blocks t.made) s.same t.leads);
  }

  -- the partition fits as before
  pub turns_fit : (pairs later : List (ℕ × ℕ)) (p q : Parted) (old new : List LoggedRound) → TakesTurns h level pairs later p q old new
      → Fits h q.k q.limit q.blocks
  turns_fit pairs later p q old new s = subst (λ (x : Parted). Fits h x.k x.limit q.blocks) (sym s.same) s.fits

  pub turn_passed : (a b : ℕ) (p : Parted) (rounds : List LoggedRound) → Fits h p.k p.limit p.blocks → touching h p.blocks a b ≡ []
      → TakesTurn h level a b p p rounds rounds
  turn_passed a b p rounds fits apart later = record {
    made = [];
    added = sym (append-nil rounds);
    same = refl;
    fits = fits;
    leads = turn_none h p.k p.limit level a b p.blocks later apart;
  }

  pub turn_taken : (a b : ℕ) (p q : Parted) (r : LoggedRound) (old new : List LoggedRound) → touching h p.blocks a b ≢ []
      → RecordsFlow h p.k p.limit level p.blocks a b r → q ≡ record p { blocks = after_round p.blocks r } → new ≡ old ++ r ∷ []
      → TakesTurn h level a b p q old new
  turn_taken a b p q r old new some s e added later = record {
    made = r ∷ [];
    added = added;
    same = e ∙ ap (λ x. record p { blocks = x }) (sym blocks);
    fits = subst (Fits h p.k p.limit) (sym blocks) s.flow.fits;
    leads = subst (λ x. LeadsOn h p.k p.limit level ((a, b) ∷ later) later p.blocks x (r ∷ [])) (sym blocks)
        (turn_made h p.k p.limit level a b p.blocks later r some s);
  }
    where
      blocks : q.blocks ≡ after_round p.blocks r
      blocks = ap (λ (x : Parted). x.blocks) e

-- ---- the whole pass

pub pass_logged : (h : Hyper) (task : Task) (p q : Parted) (before after : Tally) (old new made : List LoggedRound) → IsPartition h p.k p.blocks
    → Fits h p.k p.limit p.blocks → TakesTurns h task.level (block_pairs p.k) [] p q [] made → new ≡ old ++ made
    → after.rounds ≡ before.rounds + length made → after.gain ≡ before.gain + (cost h p.blocks - cost h q.blocks)
    → LogsPass Flow h task p before after old new q
pass_logged h task p q before after old new made parted fits s log count gain = record {
  logged = record {
    rounds = made;
    log = log;
    pass = pass;
    level = All-weaker (λ (r : LoggedRound). (r.level ≡ task.level) × (r.tabled ≡ false)) (λ (r : LoggedRound). r.level ≡ task.level) (λ r f. f.0)
        made (subst (All (λ (r : LoggedRound). (r.level ≡ task.level) × (r.tabled ≡ false))) (sym s.added) s.leads.recorded);
    count = count;
    gain =
        let saves = pass-saves true Flow h p.k p.limit task.workers p.blocks made parted fits pass in
        let last = ap (cost h) leads in
        omega arith;
  };
  leads = s.same ∙ ap (λ x. record p { blocks = x }) leads;
}
  where
    pass : AreFlowRounds true h p.k p.limit (block_pairs p.k) p.blocks made
    pass = subst (AreFlowRounds true h p.k p.limit (block_pairs p.k) p.blocks) (append-nil s.made ∙ sym s.added) (s.leads.follows true [] tt)

    leads : q.blocks ≡ after_rounds p.blocks made
    leads = s.leads.leads ∙ ap (after_rounds p.blocks) (sym s.added)
