-- Laws of a pass of searches that is under way.
use Rattle.std.proofs.Common.{◌≡◌, ℕ, ◌+◌, ◌*◌, ◌<◌, ◌≤◌, ◌^◌, ◌⊎◌, Bool, true, false, List, [], ◌∷◌, ◌++◌, length, All}
use Rattle.std.proofs.Common.{refl, sym, ap, subst, ◌∙◌, arith}
use Rattle.std.specs.Prelude.{nat_lt}
use Rattle.std.proofs.lemmas.List.{append_assoc, append-nil, length-append}
use Rattle.std.proofs.lemmas.List.Elements.{All-nil, All-push}
use Rattle.hg_defs.specs.Sums.{total}
use Rattle.hg_defs.proofs.SumLaws.{total_push}
use Rattle.hg_defs.specs.Hypergraph.{Hyper}
use Rattle.pin_plain.specs.Parted.{Parted}
use Rattle.round_log.specs.declared.record.Kind.TheVariants.{Search}
use Rattle.round_log.specs.declared.record.LoggedRound.{LoggedRound}
use Rattle.round_log.specs.Rounds.{after_round, after_rounds}
use Rattle.round_log.specs.Passes.{IsSearchRound, AreSearchRounds, HasPossible, saved}
use Rattle.refiner.specs.declared.pass.Task.{Task}
use Rattle.refiner.specs.declared.pass.Tally.{Tally}
use Rattle.refiner.specs.Logging.{LogsRounds, LogsPass}
use Rattle.hg_defs.specs.Partition.{Fits}
use Rattle.fm_search.specs.Logging.{TalliesRound}

-- the rounds lead a pass from one place to another: what goes on there as a pass does goes on here, with these rounds first
abbrev pub Leads : Hyper → ℕ → ℕ → ℕ → List ℕ → List LoggedRound → ℕ → Bool → List ℕ → Type 0
Leads h k l workers p rounds made going q =
    (whole : Bool) (rest : List LoggedRound) → AreSearchRounds whole h k l workers made going q rest
    → AreSearchRounds whole h k l workers 0 true p (rounds ++ rest)

-- a pass from a partition is under way: the log gained its rounds, and the tally counts them; there were so many, the last of which kept a move
-- where `going` says so, and they lead to this partition
pub record IsUnderway (h : Hyper) (task : Task) (first : Parted) (before : Tally) (old : List LoggedRound) (made : ℕ) (going : Bool)
    (now : Parted) (after : Tally) (new : List LoggedRound) : Type 0 where
  pub rounds : List LoggedRound
  pub log : new ≡ old ++ rounds
  pub pass : Leads h first.k first.limit task.workers first.blocks rounds made going now.blocks
  pub level : All (λ r. r.level ≡ task.level) rounds
  pub few : length rounds ≡ made
  pub count : after.rounds ≡ before.rounds + length rounds
  pub gain : after.gain ≡ before.gain + total saved rounds
  pub little : total saved rounds ≤ made * 2 ^ 57
  pub leads : now ≡ record first { blocks = after_rounds first.blocks rounds }
  pub fits : Fits h now.k now.limit now.blocks

pub begun : (h : Hyper) (task : Task) (p : Parted) (t : Tally) (log : List LoggedRound) → Fits h p.k p.limit p.blocks
    → IsUnderway h task p t log 0 true p t log
begun h task p t log fits = record {
  rounds = [];
  log = sym (append-nil log);
  pass = λ whole rest s. s;
  level = All-nil (λ (r : LoggedRound). r.level ≡ task.level);
  few = refl;
  count = omega arith;
  gain = omega arith;
  little = omega arith;
  leads = refl;
  fits = fits;
}

after_rounds_push : (p : List ℕ) (rounds : List LoggedRound) (r : LoggedRound) → after_rounds p (rounds ++ r ∷ []) ≡ after_round (after_rounds p rounds) r
after_rounds_push p [] r = refl
after_rounds_push p (s ∷ rounds) r = after_rounds_push (after_round p s) rounds r

module _ (h : Hyper) (task : Task) (first : Parted) (before : Tally) (old : List LoggedRound) (made : ℕ) (going : Bool) (now : Parted)
    (tally : Tally) (log : List LoggedRound) (u : IsUnderway h task first before old made going now tally log) where
  same_k : now.k ≡ first.k
  same_k = ap (λ (p : Parted). p.k) u.leads

  same_limit : now.limit ≡ first.limit
  same_limit = ap (λ (p : Parted). p.limit) u.leads

  -- what is said of the present number of blocks and limit holds of the first ones
  at_first : (P : ℕ → ℕ → Type 0) → P now.k now.limit → P first.k first.limit
  at_first P x = subst (λ n. P n first.limit) same_k (subst (P now.k) same_limit x)

  pub under_part : LogsRounds false Search h task first before tally old log
  under_part = record {
    rounds = u.rounds;
    log = u.log;
    pass = subst (AreSearchRounds false h first.k first.limit task.workers 0 true first.blocks) (append-nil u.rounds) (u.pass false [] tt);
    level = u.level;
    count = u.count;
    gain = u.gain;
  }

  pub under_whole : (made ≡ 4) ⊎ ((going ≡ false) ⊎ (HasPossible h now.k now.limit now.blocks → ⊥)) → LogsPass Search h task first before tally old log now
  under_whole end = record {
    logged = record {
      rounds = u.rounds;
      log = u.log;
      pass = subst (AreSearchRounds true h first.k first.limit task.workers 0 true first.blocks) (append-nil u.rounds)
          (u.pass true [] (at_first (λ k l. (made ≡ 4) ⊎ ((going ≡ false) ⊎ (HasPossible h k l now.blocks → ⊥))) end));
      level = u.level;
      count = u.count;
      gain = u.gain;
    };
    leads = u.leads;
  }

  pub under_belongs : first.hyper ≡ h → now.hyper ≡ h
  under_belongs belongs = ap (λ (p : Parted). p.hyper) u.leads ∙ belongs

  -- the tally is far from the top
  pub under_room : made < 4 → before.rounds < 2 ^ 62 → before.gain < 2 ^ 62 → (tally.rounds < 2 ^ 62 + 4) × (tally.gain < 2 ^ 62 + 2 ^ 59)
  under_room low few little =
      let a = u.count in
      let b = u.gain in
      let c = u.little in
      let d = u.few in
      (omega arith, omega arith)

  -- one round more
  pub under_more : made < 4 → going ≡ true → HasPossible h now.k now.limit now.blocks → (next : Parted) (later : Tally) (logged : List LoggedRound) (kept : ℕ)
      → TalliesRound h task now next log logged tally later kept
      → IsUnderway h task first before old (made + 1) (nat_lt 0 kept) next later logged
  under_more low on possible next later logged kept s = record {
    rounds = u.rounds ++ r ∷ [];
    log = s.logs.log ∙ ap (λ (xs : List LoggedRound). xs ++ r ∷ []) u.log ∙ append_assoc old u.rounds (r ∷ []);
    pass = λ whole rest later_rounds.
        subst (AreSearchRounds whole h first.k first.limit task.workers 0 true first.blocks) (sym (append_assoc u.rounds (r ∷ []) rest))
        (u.pass whole (r ∷ rest) (
          low,
          on,
          at_first (λ k l. HasPossible h k l now.blocks) possible,
          s.logs.logged.kind,
          at_first (λ k l. IsSearchRound h k l task.workers now.blocks r) s.logs.logged.legal,
          subst (λ (q : List ℕ). AreSearchRounds whole h first.k first.limit task.workers (made + 1) (nat_lt 0 r.kept) q rest) next_blocks
              (subst (λ n. AreSearchRounds whole h first.k first.limit task.workers (made + 1) (nat_lt 0 n) next.blocks rest) s.kept later_rounds),
        ));
    level = All-push (λ (q : LoggedRound). q.level ≡ task.level) u.rounds r u.level s.logs.logged.level;
    few = let a = u.few in omega (arith, length-append u.rounds (r ∷ []));
    count = let a = u.count in let b = s.count in omega (arith, length-append u.rounds (r ∷ []));
    gain = let a = u.gain in let b = s.gain in omega (arith, total_push saved u.rounds r);
    little = let a = u.little in let b = s.logs.logged.small in omega (arith, total_push saved u.rounds r);
    leads =
        s.logs.logged.leads
        ∙ ap (λ (x : Parted). record x { blocks = after_round x.blocks r }) u.leads
        ∙ ap (λ (q : List ℕ). record first { blocks = q }) (sym (after_rounds_push first.blocks u.rounds r));
    fits = s.logs.logged.fits;
  }
    where
      r : LoggedRound
      r = s.logs.round

      next_blocks : next.blocks ≡ after_round now.blocks r
      next_blocks = ap (λ (x : Parted). x.blocks) s.logs.logged.leads
