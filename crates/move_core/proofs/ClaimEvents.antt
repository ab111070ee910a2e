-- The books stay in balance over Claim, Unclaim and Seed.
use Rattle.std.proofs.Common.{◌≡◌, ℕ, ◌+◌, ◌^◌, ◌<◌, ◌≤◌, inl, inr, true, false, List, [], ◌++◌, map}
use Rattle.std.proofs.Common.{length, get_or, set, nat_eq, All, ℤ, refl, subst, arith}
use Rattle.std.proofs.lemmas.Bool.{cases_eq}
use Rattle.hg_defs.specs.declared.moves.Move.{Move}
use Rattle.hg_defs.specs.Hypergraph.{vertex_count, net_count}
use Rattle.hg_defs.proofs.SumLaws.{weight_if, weight_if-other, total-append}
use Rattle.move_core.specs.declared.account.Account.{Account}
use Rattle.move_core.specs.declared.account.Stage.{Stage}
use Rattle.move_core.specs.declared.account.Stage.TheVariants.{Idle}
use Rattle.move_core.specs.declared.events.Word.TheVariants as word
use Rattle.hg_defs.specs.Incidence.{nets_of}
use Rattle.move_core.specs.State.{Setup, Readings, times, blank}
use Rattle.move_core.specs.Balance.{Claims, Rest, InBalance, IsSetup, IsGain, IsMoveFromOpening, IsStageMove, IsInStep}
use Rattle.move_core.specs.Balance.{IsOwing, IsBetween, IsBookedWithin, carried, stage_vertices, weights_of}
use Rattle.move_core.proofs.Words.{WordsAfter}
use Rattle.move_core.proofs.TimesLaws.{all_changed, all_at}
use Rattle.move_core.proofs.ClaimLaws.{claims_kept}
use Rattle.move_core.proofs.LoadLaws.{loads_kept}
use Rattle.move_core.proofs.NameLaws.{names_kept}
use Rattle.move_core.proofs.CountLaws.{counts_kept}
use Rattle.move_core.proofs.NumberLaws.{numbers_kept}
use Rattle.move_core.proofs.CostLaws.{sum_kept}
use Rattle.move_core.proofs.RestLaws.{rest_kept}
use Rattle.move_core.proofs.WorkerLaws.{workers_kept}
use Rattle.move_core.proofs.PrefixLaws.{prefixes_kept}
use Rattle.move_core.proofs.SpreadLaws.{spreads_kept}
use Rattle.move_core.proofs.StageEvents.{staged, moves_at}
use Rattle.std.proofs.Common.{nat_cmp}
use Rattle.std.specs.BTreeSet.{insert_key}
use Rattle.std.specs.Set.{remove_key}
use Rattle.hg_defs.specs.Hypergraph.{is_free}
use Rattle.move_core.proofs.ClaimLaws.{claims_claimed, claims_refused, claims_unclaimed}
use Rattle.move_core.proofs.RestLaws.{rest_seeded}
use Rattle.move_core.proofs.TimesLaws.{times-insert_key, times-remove_key, total_at}

module _ (s : Setup) (ok : IsSetup s) (r r' : Readings) (accounts : List Account) (i : ℕ) (l : i < length accounts) (b : InBalance s r accounts)
    (held : List ℕ) (moves : List Move) (numbers : List ℕ) (seeds : ℕ) (gain : ℤ) where
  abbrev acc : List ℕ → ℕ → Stage → Account
  acc hs n = staged hs moves numbers n gain

  -- what an account with other held vertices or seeds leaves alone
  with_held : (held' : List ℕ) (seeds' : ℕ) (stage : Stage) → (at : get_or accounts i (blank false) ≡ acc held seeds stage)
      → Claims s.graph r' (set accounts i (acc held' seeds' stage)) → ((u : ℕ)
      → times u (map (λ (m : Move). m.vertex) moves ++ stage_vertices stage) ≤ times u held') → Rest r' (set accounts i (acc held' seeds' stage))
      → ((v : ℕ) → v < vertex_count s.graph → r'.name v ≡ r.name v) → ((c : ℕ) → c < s.blocks → r'.load c ≡ r.load c)
      → ((e c : ℕ) → e < net_count s.graph → c < s.blocks → r'.count e c ≡ r.count e c) → ((e : ℕ) → e < net_count s.graph → r'.spread e ≡ r.spread e)
      → r'.next ≡ r.next → InBalance s r' (set accounts i (acc held' seeds' stage))
  with_held held' seeds' stage at claims inside rest names loads counts spreads next =
      let a = acc held seeds stage in
      let a' = acc held' seeds' stage in
      record {
        claims = claims;
        loads = loads_kept s r r' accounts i a a' l at b.loads refl (λ k q. refl) (λ k q. refl) loads;
        names = names_kept s r r' accounts b.claims b.moves b.names i a a' l at names (λ u. refl) (λ d n. (d, n));
        counts = counts_kept s r r' accounts i a a' l at b.counts (λ u e c k o. refl) (λ u e k o. refl) counts
            (all_at accounts i a a' l at (λ x. IsInStep s.graph x.stage) b.counts.steps);
        moves = record {
          held = all_changed accounts i a a' l at (λ y. (u : ℕ) → times u (carried y) ≤ times u y.held) b.moves.held inside;
          done = all_changed accounts i a a' l at (λ y. All (λ m. IsMoveFromOpening s m.vertex m.from m.to) y.moves) b.moves.done
              (all_at accounts i a a' l at (λ y. All (λ m. IsMoveFromOpening s m.vertex m.from m.to) y.moves) b.moves.done);
          stages = all_changed accounts i a a' l at (λ y. IsStageMove s y.stage) b.moves.stages
              (all_at accounts i a a' l at (λ y. IsStageMove s y.stage) b.moves.stages);
        };
        numbers = numbers_kept r r' accounts i a a' l at b.numbers (λ j. refl) next
            (all_at accounts i a a' l at (λ y. length y.numbers ≡ length y.moves) b.numbers.lengths);
        gains = all_changed accounts i a a' l at IsGain b.gains (all_at accounts i a a' l at IsGain b.gains);
        sum = sum_kept s r r' accounts i a a' l at b.sum refl spreads;
        rest = rest;
        spreads = spreads_kept s r r' accounts i a a' l at b.spreads (λ e. refl) (λ e. refl) spreads counts
            (all_at accounts i a a' l at (λ x. IsOwing x.stage) b.spreads.owed);
        bounds = record {
          done = all_changed accounts i a a' l at (λ y. All (λ m. IsBetween (weights_of s.graph (nets_of s.graph m.vertex))
              (weights_of s.graph (nets_of s.graph m.vertex)) m.booked) y.moves) b.bounds.done
              (all_at accounts i a a' l at (λ y. All (λ m. IsBetween (weights_of s.graph (nets_of s.graph m.vertex))
              (weights_of s.graph (nets_of s.graph m.vertex)) m.booked) y.moves) b.bounds.done);
          stages = all_changed accounts i a a' l at (λ y. IsBookedWithin s.graph y.stage) b.bounds.stages
              (all_at accounts i a a' l at (λ y. IsBookedWithin s.graph y.stage) b.bounds.stages);
        };
        workers = workers_kept accounts i a a' l at b.workers refl refl;
        prefixes = prefixes_kept s accounts i a a' l at b.prefixes (λ f j. refl);
      }

  -- Claim of a vertex that nobody has
  pub claim_taken : get_or accounts i (blank false) ≡ acc held seeds Idle → (v : ℕ) → v < vertex_count s.graph → is_free s.graph v ≡ true → r.claim v ≡ 0
      → WordsAfter s r r' (word.Claim v) 1 → InBalance s r' (set accounts i (acc (insert_key nat_cmp held v) seeds Idle))
  claim_taken at v k f z w =
      let a = acc held seeds Idle in
      let a' = acc (insert_key nat_cmp held v) seeds Idle in
      with_held (insert_key nat_cmp held v) seeds Idle at
      (claims_claimed s.graph r r' accounts i a a' l at b.claims v k f z w.claim refl)
      (λ u.
      let o = moves_at s ok r r' accounts i l b held moves numbers seeds gain Idle at u in
      let c = b.claims.word v k in
      let t = total_at accounts i a a' l at (λ x. times v x.held) in
      let e = times-insert_key held v u (omega arith) in
      omega arith)
      (rest_kept r r' accounts i a a' l at b.rest refl refl refl w.cursor)
      w.name w.load w.count w.spread w.next

  -- Claim of a vertex that a pass has
  pub claim_left : get_or accounts i (blank false) ≡ acc held seeds Idle → (v : ℕ) → v < vertex_count s.graph → (r.claim v ≡ 0 → ⊥)
      → WordsAfter s r r' (word.Claim v) 1 → InBalance s r' (set accounts i (acc held seeds Idle))
  claim_left at v k z w =
      let a = acc held seeds Idle in
      with_held held seeds Idle at
      (claims_refused s.graph r r' accounts i a a l at b.claims v k z w.claim refl)
      (moves_at s ok r r' accounts i l b held moves numbers seeds gain Idle at)
      (rest_kept r r' accounts i a a l at b.rest refl refl refl w.cursor)
      w.name w.load w.count w.spread w.next

  -- Unclaim
  pub unclaim_kept : get_or accounts i (blank false) ≡ acc held seeds Idle → (v : ℕ) → v < vertex_count s.graph → 0 < times v held
      → times v (map (λ (m : Move). m.vertex) moves) ≡ 0 → WordsAfter s r r' (word.Claim v) 0
      → InBalance s r' (set accounts i (acc (remove_key (nat_eq v) held) seeds Idle))
  unclaim_kept at v k p z w =
      let a = acc held seeds Idle in
      let a' = acc (remove_key (nat_eq v) held) seeds Idle in
      with_held (remove_key (nat_eq v) held) seeds Idle at
      (claims_unclaimed s.graph r r' accounts i a a' l at b.claims v k p w.claim refl)
      (λ u.
      let o = moves_at s ok r r' accounts i l b held moves numbers seeds gain Idle at u in
      let e = times-remove_key held v u p in
      let t = total-append (λ x. weight_if x u 1) (map (λ (m : Move). m.vertex) moves) [] in
      elim (cases_eq v u) [
        | inl q ↦ let y = subst (λ x. times x (map (λ (m : Move). m.vertex) moves) ≡ 0) q z in omega arith
        | inr q ↦ let y = weight_if-other v u 1 q in omega arith
      ])
      (rest_kept r r' accounts i a a' l at b.rest refl refl refl w.cursor)
      w.name w.load w.count w.spread w.next

  -- Seed
  pub seed_kept : (stage : Stage) → get_or accounts i (blank false) ≡ acc held seeds stage → seeds < 2 ^ 32 → WordsAfter s r r' word.Cursor (r.cursor + 1)
      → InBalance s r' (set accounts i (acc held (seeds + 1) stage))
  seed_kept stage at k w =
      let a = acc held seeds stage in
      let a' = acc held (seeds + 1) stage in
      with_held held (seeds + 1) stage at
      (claims_kept s.graph r r' accounts i a a' l at b.claims refl w.claim)
      (moves_at s ok r r' accounts i l b held moves numbers seeds gain stage at)
      (rest_seeded r r' accounts i a a' l at b.rest refl refl k refl w.cursor)
      w.name w.load w.count w.spread w.next
