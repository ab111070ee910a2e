-- Laws of a pass of label propagation that is under way.
use Rattle.std.proofs.Common.{◌≡◌, ℕ, ◌+◌, ◌<◌, ◌^◌, ◌⊎◌, inl, Bool, true, false, None, List, []}
use Rattle.std.proofs.Common.{◌∷◌, ◌++◌, length, All, refl, sym, ap, subst, ◌∙◌, arith}
use Rattle.std.specs.Prelude.{if◌then◌else◌}
use Rattle.std.proofs.lemmas.Bool.{lt-ltb}
use Rattle.std.proofs.lemmas.List.{append_assoc, append-nil, length-append}
use Rattle.std.proofs.lemmas.List.Elements.{All-nil, All-cons, All-append}
use Rattle.hg_defs.specs.declared.moves.Move.{Move}
use Rattle.hg_defs.specs.Sums.{total}
use Rattle.hg_defs.specs.Replay.{replay}
use Rattle.hg_defs.proofs.SumLaws.{total_push}
use Rattle.hg_defs.specs.Hypergraph.{Hyper, IsWithinLimits}
use Rattle.hg_defs.specs.Partition.{IsPartition, Fits}
use Rattle.hg_defs.specs.Cost.{cost}
use Rattle.hg_defs.specs.Moves.{IsSettled}
use Rattle.hg_base.proofs.CountLaws.{cost-lt}
use Rattle.pin_plain.specs.Parted.{Parted}
use Rattle.pin_plain.proofs.SweepLaws.{ltb_no}
use Rattle.round_log.specs.declared.record.Kind.TheVariants.{Label}
use Rattle.round_log.specs.declared.record.LoggedRound.{LoggedRound}
use Rattle.round_log.specs.Rounds.{after_round, after_rounds, IsSwept}
use Rattle.round_log.specs.Passes.{AreLabelRounds, IsLabelRound, is_lower, saved}
use Rattle.round_log.proofs.PassLaws.{raced_keeps, pass-fits, pass-saves, pass-few}
use Rattle.round_log.proofs.RoundLaws.{swept_less, swept_to, unsettled as was_unsettled}
use Rattle.refiner.specs.declared.pass.Task.{Task}
use Rattle.refiner.specs.declared.pass.Tally.{Tally}
use Rattle.refiner.specs.Logging.{LogsRounds, LogsPass}
use Rattle.label_prop.specs.LabelRounds.{LogsLabelRound, SweepsOrRests}

-- the rounds lead a pass from one place to another: what goes on there as a pass does goes on here, with these rounds first
abbrev pub Leads : Hyper → ℕ → ℕ → ℕ → List ℕ → List LoggedRound → ℕ → Bool → List ℕ → Type 0
Leads h k l workers p rounds lowered raced q =
    (whole : Bool) (rest : List LoggedRound) → AreLabelRounds whole h k l workers lowered raced q rest
    → AreLabelRounds whole h k l workers 0 true p (rounds ++ rest)

-- a pass from a partition is under way: the log gained its rounds, and the tally counts them; so many made the partition
-- cheaper, the next round is raced or a sweep, and they lead to this partition
pub record IsUnderway (h : Hyper) (task : Task) (first : Parted) (before : Tally) (old : List LoggedRound) (lowered : ℕ) (raced : Bool)
    (now : Parted) (after : Tally) (new : List LoggedRound) : Type 0 where
  pub rounds : List LoggedRound
  pub log : new ≡ old ++ rounds
  pub pass : Leads h first.k first.limit task.workers first.blocks rounds lowered raced now.blocks
  pub level : All (λ r. r.level ≡ task.level) rounds
  pub count : after.rounds ≡ before.rounds + length rounds
  pub gain : after.gain ≡ before.gain + total saved rounds
  pub leads : now ≡ record first { blocks = after_rounds first.blocks rounds }

pub begun : (h : Hyper) (task : Task) (p : Parted) (t : Tally) (log : List LoggedRound) → IsUnderway h task p t log 0 true p t log
begun h task p t log = record {
  rounds = [];
  log = sym (append-nil log);
  pass = λ whole rest s. s;
  level = All-nil (λ (r : LoggedRound). r.level ≡ task.level);
  count = omega arith;
  gain = omega arith;
  leads = refl;
}

after_rounds_push : (p : List ℕ) (rounds : List LoggedRound) (r : LoggedRound) → after_rounds p (rounds ++ r ∷ []) ≡ after_round (after_rounds p rounds) r
after_rounds_push p [] r = refl
after_rounds_push p (s ∷ rounds) r = after_rounds_push (after_round p s) rounds r

module _ (h : Hyper) (task : Task) (first : Parted) (before : Tally) (old : List LoggedRound) (lowered : ℕ) (raced : Bool) (now : Parted)
    (tally : Tally) (log : List LoggedRound) (u : IsUnderway h task first before old lowered raced now tally log) where
  same_k : now.k ≡ first.k
  same_k = ap (λ (p : Parted). p.k) u.leads

  same_limit : now.limit ≡ first.limit
  same_limit = ap (λ (p : Parted). p.limit) u.leads

  same_blocks : now.blocks ≡ after_rounds first.blocks u.rounds
  same_blocks = ap (λ (p : Parted). p.blocks) u.leads

  -- what is said of the present number of blocks and limit holds of the first ones
  at_first : (P : ℕ → ℕ → Type 0) → P now.k now.limit → P first.k first.limit
  at_first P x = subst (λ n. P n first.limit) same_k (subst (P now.k) same_limit x)

  at_now : (P : ℕ → ℕ → Type 0) → P first.k first.limit → P now.k now.limit
  at_now P x = subst (λ n. P n now.limit) (sym same_k) (subst (P first.k) (sym same_limit) x)

  -- its rounds are the first ones of a pass
  made : AreLabelRounds false h first.k first.limit task.workers 0 true first.blocks u.rounds
  made = subst (AreLabelRounds false h first.k first.limit task.workers 0 true first.blocks) (append-nil u.rounds) (u.pass false [] tt)

  pub under_part : LogsRounds false Label h task first before tally old log
  under_part = record { rounds = u.rounds; log = u.log; pass = made; level = u.level; count = u.count; gain = u.gain }

  pub under_whole : IsSettled h now.k now.limit now.blocks ⊎ (lowered ≡ 8) → LogsPass Label h task first before tally old log now
  under_whole end = record {
    logged = record {
      rounds = u.rounds;
      log = u.log;
      pass = subst (AreLabelRounds true h first.k first.limit task.workers 0 true first.blocks) (append-nil u.rounds)
          (u.pass true [] (at_first (λ k l. IsSettled h k l now.blocks ⊎ (lowered ≡ 8)) end));
      level = u.level;
      count = u.count;
      gain = u.gain;
    };
    leads = u.leads;
  }

  module _ (belongs : first.hyper ≡ h) (whole : IsPartition h first.k first.blocks) (fits : Fits h first.k first.limit first.blocks) where
    pub under_fits : Fits h now.k now.limit now.blocks
    under_fits = at_now (λ k l. Fits h k l now.blocks) (subst (Fits h first.k first.limit) (sym same_blocks)
        (pass-fits false Label h first.k first.limit task.workers first.blocks u.rounds whole fits made))

    pub under_belongs : now.hyper ≡ h
    under_belongs = ap (λ (p : Parted). p.hyper) u.leads ∙ belongs

    -- the tally is far from the top
    pub under_bounds : IsWithinLimits h → before.rounds < 2 ^ 62 → before.gain < 2 ^ 62 → (tally.rounds < 2 ^ 63) × (tally.gain < 2 ^ 63)
    under_bounds bounds few little =
        let n = pass-few false Label h first.k first.limit task.workers first.blocks u.rounds made in
        let s = pass-saves false Label h first.k first.limit task.workers first.blocks u.rounds whole fits made in
        let c = cost-lt h first.blocks bounds in
        let a = u.count in
        let b = u.gain in
        (omega arith, omega arith)

  module _ (unsettled : IsSettled h now.k now.limit now.blocks → ⊥) (few : lowered < 8) (gain : ℕ) (next : Parted) (later : Tally)
      (logged : List LoggedRound) (s : LogsLabelRound raced h task now log logged gain next)
      (counted : later ≡ record { rounds = tally.rounds + 1; gain = tally.gain + gain }) where
    -- one more round
    pub under_more : IsUnderway h task first before old (if is_lower s.round then lowered + 1 else lowered) (is_lower s.round) next later logged
    under_more = record {
      rounds = u.rounds ++ s.round ∷ [];
      log = s.log ∙ ap (λ (xs : List LoggedRound). xs ++ s.round ∷ []) u.log ∙ append_assoc old u.rounds (s.round ∷ []);
      pass = λ whole rest t.
          subst (AreLabelRounds whole h first.k first.limit task.workers 0 true first.blocks) (sym (append_assoc u.rounds (s.round ∷ []) rest))
          (u.pass whole (s.round ∷ rest) (
            (λ settled. unsettled (at_now (λ k l. IsSettled h k l now.blocks) settled)),
            few,
            s.kind,
            at_first (λ k l. IsLabelRound raced h k l task.workers now.blocks s.round) s.legal,
            subst (λ (q : List ℕ). AreLabelRounds whole h first.k first.limit task.workers (if is_lower s.round then lowered + 1 else lowered)
                (is_lower s.round) q rest) (ap (λ (p : Parted). p.blocks) s.leads) t,
          ));
      level = All-append (λ (r : LoggedRound). r.level ≡ task.level) u.rounds (s.round ∷ []) u.level
          (All-cons (λ (r : LoggedRound). r.level ≡ task.level) s.round [] s.level (All-nil (λ (r : LoggedRound). r.level ≡ task.level)));
      count = let a = ap (λ (t : Tally). t.rounds) counted in let b = u.count in omega (arith, length-append u.rounds (s.round ∷ []));
      gain = let a = ap (λ (t : Tally). t.gain) counted in let b = u.gain in let c = s.lower in omega (arith, total_push saved u.rounds s.round);
      leads = s.leads ∙ ap (λ (p : Parted). record p { blocks = after_round p.blocks s.round }) u.leads
          ∙ ap (λ (q : List ℕ). record first { blocks = q }) (sym (after_rounds_push first.blocks u.rounds s.round));
    }

    -- one that lowered the cost, after which the next one is raced, and one that didn't
    pub under_lower : 0 < gain → IsUnderway h task first before old (lowered + 1) true next later logged
    under_lower some =
        subst (λ (b : Bool). IsUnderway h task first before old (if b then lowered + 1 else lowered) b next later logged)
        (lt-ltb s.round.after s.round.before (let e = s.lower in omega arith)) under_more

    pub under_same : gain ≡ 0 → IsUnderway h task first before old lowered false next later logged
    under_same none =
        subst (λ (b : Bool). IsUnderway h task first before old (if b then lowered + 1 else lowered) b next later logged)
        (ltb_no s.round.after s.round.before (let e = s.lower in omega arith)) under_more

-- the same of equal partitions, tallies and logs
pub under_same_as : (h : Hyper) (task : Task) (first : Parted) (before : Tally) (old : List LoggedRound) (lowered : ℕ) {p q : Parted} {t u : Tally}
    {xs ys : List LoggedRound} → p ≡ q → t ≡ u → xs ≡ ys → IsUnderway h task first before old lowered true q u ys
    → IsUnderway h task first before old lowered true p t xs
under_same_as h task first before old lowered {p} {q} {t} {u} {xs} {ys} ep et ex s =
    subst (λ (x : Parted). IsUnderway h task first before old lowered true x t xs) (sym ep)
    (subst (λ (x : Tally). IsUnderway h task first before old lowered true q x xs) (sym et)
    (subst (λ (x : List LoggedRound). IsUnderway h task first before old lowered true q u x) (sym ex) s))

-- a sweep that moved something saved something
swept_saves : (h : Hyper) (k l : ℕ) (p : List ℕ) (r : LoggedRound) → IsSwept h k l p r → 0 < saved r
swept_saves h k l p r s =
    let less = swept_less h k l p r s in
    let to = ap (cost h) (swept_to h k l p r s) in
    let all = ap (λ (ms : List Move). cost h (replay p ms)) s.moves in
    let before = s.before in
    let made = s.made in
    let after = s.after in
    omega arith

-- a round of label propagation saves what it makes the cost lower
round_less : (raced : Bool) (h : Hyper) (k l workers : ℕ) (p : List ℕ) (r : LoggedRound) → Fits h k l p
    → IsLabelRound raced h k l workers p r → cost h (after_round p r) + saved r ≡ cost h p
round_less true h k l workers p r fits s =
    let kept = raced_keeps h k l p r s.0.raced in
    let less = kept.no_dearer fits in
    let before = kept.before in
    let after = kept.after in
    omega arith
round_less false h k l workers p r fits s =
    let less = swept_less h k l p r s.0 in
    let before = s.0.before in
    let after = s.0.after in
    let made = s.0.made in
    let all = ap (λ (ms : List Move). cost h (replay p ms)) s.0.moves in
    let to = ap (cost h) (swept_to h k l p r s.0) in
    omega arith

-- a round that was logged saved what it made the cost lower
pub costs_less : (raced : Bool) (h : Hyper) (task : Task) (p : Parted) (old new : List LoggedRound) (gain : ℕ) (q : Parted)
    → Fits h p.k p.limit p.blocks → LogsLabelRound raced h task p old new gain q → cost h q.blocks + gain ≡ cost h p.blocks
costs_less raced h task p old new gain q fits s =
    let less = round_less raced h p.k p.limit task.workers p.blocks s.round fits s.legal in
    let lower = s.lower in
    let to = ap (λ (x : Parted). cost h x.blocks) s.leads in
    omega arith

-- ---- one turn: a raced round, and a sweep where that one saved nothing

module _ (h : Hyper) (task : Task) (first : Parted) (before : Tally) (old : List LoggedRound) (belongs : first.hyper ≡ h)
    (whole : IsPartition h first.k first.blocks) (fits : Fits h first.k first.limit first.blocks) (bounds : IsWithinLimits h)
    (few : before.rounds < 2 ^ 62) (little : before.gain < 2 ^ 62)
    (lowered : ℕ) (now : Parted) (tally : Tally) (log : List LoggedRound) (u : IsUnderway h task first before old lowered true now tally log)
    (unsettled : IsSettled h now.k now.limit now.blocks → ⊥) (below : lowered < 8)
    (gain : ℕ) (raced : Parted) (logged : List LoggedRound) (s : LogsLabelRound true h task now log logged gain raced) where
  -- there is room to count the raced round
  pub raced_room : (tally.rounds + 1 < 2 ^ 63) × (tally.gain + gain < 2 ^ 63)
  raced_room =
      let later : Tally = record { rounds = tally.rounds + 1; gain = tally.gain + gain } in
      let n = under_more h task first before old lowered true now tally log u unsettled below gain raced later logged s refl in
      under_bounds h task first before old (if is_lower s.round then lowered + 1 else lowered) (is_lower s.round) raced later logged n belongs whole fits
      bounds few little

  module _ (counted : Tally) (counts : counted ≡ record { rounds = tally.rounds + 1; gain = tally.gain + gain }) where
    pub raced_lower : 0 < gain → IsUnderway h task first before old (lowered + 1) true raced counted logged
    raced_lower = under_lower h task first before old lowered true now tally log u unsettled below gain raced counted logged s counts

    pub raced_same : gain ≡ 0 → IsUnderway h task first before old lowered false raced counted logged
    raced_same = under_same h task first before old lowered true now tally log u unsettled below gain raced counted logged s counts

    module _ (none : gain ≡ 0) where
      -- where the partition was settled after all, the pass is whole
      pub rested_whole : (later : List LoggedRound) (q : Parted) → SweepsOrRests h task raced logged later None q
          → LogsPass Label h task first before counted old later q
      rested_whole later q r =
          subst (λ (x : Parted). LogsPass Label h task first before counted old later x) (sym r.1)
          (subst (λ (xs : List LoggedRound). LogsPass Label h task first before counted old xs raced) (sym r.2)
          (under_whole h task first before old lowered false raced counted logged (raced_same none) (inl r.0)))

      module _ (more : ℕ) (later : List LoggedRound) (q : Parted) (t : LogsLabelRound false h task raced logged later more q) where
        still : IsSettled h raced.k raced.limit raced.blocks → ⊥
        still = was_unsettled h raced.k raced.limit raced.blocks t.round t.legal.0

        pub swept_room : (counted.rounds + 1 < 2 ^ 63) × (counted.gain + more < 2 ^ 63)
        swept_room =
            let last : Tally = record { rounds = counted.rounds + 1; gain = counted.gain + more } in
            let n = under_more h task first before old lowered false raced counted logged (raced_same none) still below more q last later t refl in
            under_bounds h task first before old (if is_lower t.round then lowered + 1 else lowered) (is_lower t.round) q last later n belongs whole fits
            bounds few little

        pub swept_lower : (last : Tally) → last ≡ record { rounds = counted.rounds + 1; gain = counted.gain + more }
            → IsUnderway h task first before old (lowered + 1) true q last later
        swept_lower last e =
            under_lower h task first before old lowered false raced counted logged (raced_same none) still below more q last later t e
            (let some = swept_saves h raced.k raced.limit raced.blocks t.round t.legal.0 in let is = t.lower in omega arith)
