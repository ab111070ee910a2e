-- Laws of the synchronous rounds of a level, one after the other.
use Rattle.std.proofs.Common.{◌≡◌, ◌⊎◌, inl, inr, ℕ, ◌+◌, ◌<◌, true, false, List, [], ◌∷◌, ◌++◌, map, length, All}
use Rattle.std.proofs.Common.{Contains, Option, Some, None, refl, sym, ap, subst, ◌∙◌, arith}
use Rattle.std.proofs.lemmas.List.{append_assoc, append-nil, length_push}
use Rattle.std.proofs.lemmas.List.Elements.{All-push}
use Rattle.hg_defs.specs.Hypergraph.{Hyper, vertex_count}
use Rattle.hg_defs.specs.Cost.{cost}
use Rattle.hg_defs.specs.Moves.{IsSettled, moved}
use Rattle.hg_defs.specs.MoveLaws.{IsBestBlock}
use Rattle.hg_defs.specs.Synchronous.{wish, wishing, sync}
use Rattle.hg_defs.proofs.MoveLaws.{best_block_is, no_best_block, none_gain, above_gain}
use Rattle.hg_defs.proofs.SynchronousLaws.{wishes_are_best}
use Rattle.pin_plain.specs.Parted.{Parted}
use Rattle.round_log.specs.declared.record.LoggedRound.{LoggedRound}
use Rattle.round_log.specs.Rounds.{after_round, after_rounds}
use Rattle.round_log.specs.Deterministic.{IsSyncRound, AreSyncRounds}
use Rattle.round_log.proofs.SyncLaws.{sync-to}
use Rattle.det_sync.specs.Wishes.{Wish, AreWishes}
use Rattle.det_sync.specs.Rounds.{LogsSync, LogsSynced}

-- ---- whether a partition is settled

module _ (h : Hyper) (k l : ℕ) (p : List ℕ) where
  -- it is where no vertex wishes
  no_wishes : wishing h k l p ≡ [] → IsSettled h k l p
  no_wishes e v b a = none_gain (cost h p) (cost h (moved p v b)) (no_best_block h k l p v b (none (wish h k l p v) refl) a)
    where
      empty : Contains [] v → ⊥
      empty x = let n = x.1 in omega arith

      none : (o : Option ℕ) → wish h k l p v ≡ o → wish h k l p v ≡ None
      none None f = f
      none (Some c) f = absurd (empty (subst (λ vs. Contains vs v) e ((wishes_are_best h k l p v).1 (a.vertex, (c, best_block_is h k l p v c a.vertex f)))))

  pub settled_without : (ws : List Wish) → AreWishes h k l p ws → ws ≡ [] → IsSettled h k l p
  settled_without ws are none = no_wishes (sym are.order ∙ ap (map (λ (w : Wish). w.1)) none)

  -- and a wish is a move that makes it cheaper
  pub unsettled_with : (ws : List Wish) → AreWishes h k l p ws → (ws ≡ [] → ⊥) → IsSettled h k l p → ⊥
  unsettled_with [] are some settled = some refl
  unsettled_with (w ∷ ws) are some settled = by ((wishes_are_best h k l p w.1).0 (subst (λ vs. Contains vs w.1) are.order (0, omega arith, refl)))
    where
      by : (w.1 < vertex_count h) × ((b : ℕ) × IsBestBlock h k l p w.1 b) → ⊥
      by x =
          let less = above_gain (cost h p) (cost h (moved p w.1 x.1.0)) x.1.1.gains in
          let more = settled w.1 x.1.0 x.1.1.allowed in
          omega arith

-- ---- the rounds so far

-- the log gained so many synchronous rounds of the level of a number, which lead from p to q
pub record LogsFirst (h : Hyper) (k l workers number : ℕ) (p q : List ℕ) (old new : List LoggedRound) (count : ℕ) : Type 0 where
  pub rounds : List LoggedRound
  pub log : new ≡ old ++ rounds
  pub bear_level : All (λ (r : LoggedRound). r.level ≡ number) rounds
  pub pass : AreSyncRounds false h k l workers 0 p rounds
  pub result : q ≡ after_rounds p rounds
  pub many : length rounds ≡ count

module _ (h : Hyper) (k l workers : ℕ) where
  after-push : (p : List ℕ) (rounds : List LoggedRound) (r : LoggedRound) → after_rounds p (rounds ++ r ∷ []) ≡ after_round (after_rounds p rounds) r
  after-push p [] r = refl
  after-push p (s ∷ rounds) r = after-push (after_round p s) rounds r

  one_more : (made : ℕ) (p : List ℕ) (rounds : List LoggedRound) (r : LoggedRound) → AreSyncRounds false h k l workers made p rounds
      → (IsSettled h k l (after_rounds p rounds) → ⊥) → made + length rounds < 8 → IsSyncRound h k l workers (after_rounds p rounds) r
      → AreSyncRounds false h k l workers made p (rounds ++ r ∷ [])
  one_more made p [] r so_far unsettled few s = (unsettled, omega arith, s, tt)
  one_more made p (x ∷ rounds) r so_far unsettled few s =
      (so_far.0, so_far.1, so_far.2, one_more (made + 1) (after_round p x) rounds r so_far.3 unsettled (omega arith) s)

  whole_pass : (made : ℕ) (p : List ℕ) (rounds : List LoggedRound) → AreSyncRounds false h k l workers made p rounds
      → IsSettled h k l (after_rounds p rounds) ⊎ (made + length rounds ≡ 8) → AreSyncRounds true h k l workers made p rounds
  whole_pass made p [] so_far (inl settled) = inl settled
  whole_pass made p [] so_far (inr all) = inr (omega arith)
  whole_pass made p (x ∷ rounds) so_far (inl settled) =
      (so_far.0, so_far.1, so_far.2, whole_pass (made + 1) (after_round p x) rounds so_far.3 (inl settled))
  whole_pass made p (x ∷ rounds) so_far (inr all) =
      (so_far.0, so_far.1, so_far.2, whole_pass (made + 1) (after_round p x) rounds so_far.3 (inr (omega arith)))

  pub logs_none : (number : ℕ) (p : List ℕ) (log : List LoggedRound) → LogsFirst h k l workers number p p log log 0
  logs_none number p log = record {
    rounds = [];
    log = sym (append-nil log);
    bear_level = λ i d low. absurd (omega arith);
    pass = tt;
    result = refl;
    many = refl;
  }

  pub logs_more : (number : ℕ) (p q r : List ℕ) (old now new : List LoggedRound) (count : ℕ) → LogsFirst h k l workers number p q old now count
      → (IsSettled h k l q → ⊥) → count < 8 → LogsSync h k l workers number q now new → r ≡ sync h k l q
      → LogsFirst h k l workers number p r old new (count + 1)
  logs_more number p q r old now new count f unsettled few s is = record {
    rounds = f.rounds ++ s.round ∷ [];
    log = s.log ∙ ap (λ (xs : List LoggedRound). xs ++ s.round ∷ []) f.log ∙ append_assoc old f.rounds (s.round ∷ []);
    bear_level = All-push (λ (x : LoggedRound). x.level ≡ number) f.rounds s.round f.bear_level s.level;
    pass = one_more 0 p f.rounds s.round f.pass (subst (λ x. IsSettled h k l x → ⊥) f.result unsettled) (let n = f.many in omega arith)
        (subst (λ x. IsSyncRound h k l workers x s.round) f.result s.sync);
    result = is ∙ sym (sync-to h k l workers q s.round s.sync) ∙ ap (λ x. after_round x s.round) f.result ∙ sym (after-push p f.rounds s.round);
    many = let n = length_push f.rounds s.round in let m = f.many in omega arith;
  }

  pub logs_whole : (number : ℕ) (p q : List ℕ) (old new : List LoggedRound) (count : ℕ) → LogsFirst h k l workers number p q old new count
      → IsSettled h k l q ⊎ (count ≡ 8) → LogsSynced h k l workers number p q old new
  logs_whole number p q old new count f end = record {
    rounds = f.rounds;
    log = f.log;
    synced = record { bear_level = f.bear_level; pass = whole_pass 0 p f.rounds f.pass (by end); result = f.result };
  }
    where
      by : IsSettled h k l q ⊎ (count ≡ 8) → IsSettled h k l (after_rounds p f.rounds) ⊎ (0 + length f.rounds ≡ 8)
      by (inl s) = inl (subst (IsSettled h k l) f.result s)
      by (inr e) = inr (let n = f.many in omega arith)

-- ---- what keeps the number of blocks and the limit

pub by_first : (first now : Parted) (P : ℕ → ℕ → Type 0) → now ≡ record first { blocks = now.blocks } → P now.k now.limit → P first.k first.limit
by_first first now P same x =
    subst (λ l. P first.k l) (ap (λ (y : Parted). y.limit) same) (subst (λ k. P k now.limit) (ap (λ (y : Parted). y.k) same) x)

pub by_first_too : (first now : Parted) (f : ℕ → ℕ → List ℕ) → now ≡ record first { blocks = now.blocks } → f now.k now.limit ≡ f first.k first.limit
by_first_too first now f same =
    ap (λ k. f k now.limit) (ap (λ (y : Parted). y.k) same) ∙ ap (λ l. f first.k l) (ap (λ (y : Parted). y.limit) same)

pub empty_list : {A : Type 0} (xs : List A) → length xs ≡ 0 → xs ≡ []
empty_list [] e = refl
empty_list (x ∷ xs) e = absurd (omega arith)
