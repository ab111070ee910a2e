-- The books stay in balance over Reserve, TakeBack, Draw and Name.
use Rattle.std.proofs.Common.{◌≡◌, ℕ, ◌+◌, ◌-◌, ◌<◌, ◌≤◌, ◌≢◌, inl, inr, Bool, true, false, List, [], ◌∷◌, ◌++◌, map, length, get_or, take}
use Rattle.std.proofs.Common.{set, nat_eq, if◌then◌else◌, All, ℤ, pos, ◌+ℤ◌, refl, sym, ap, ◌∙◌, subst, arith, nat_lt}
use Rattle.std.proofs.lemmas.Int.{ints}
use Rattle.std.proofs.lemmas.Bool.{true≢false, cases_eq}
use Rattle.hg_defs.specs.declared.moves.Move.{Move}
use Rattle.hg_defs.specs.Sums.{total}
use Rattle.hg_defs.specs.Hypergraph.{Hyper, vertex_count, weight_of}
use Rattle.hg_defs.specs.Partition.{block_of}
use Rattle.hg_defs.proofs.SumLaws.{weight_if, weight_if-same, weight_if-other, total-append}
use Rattle.move_core.specs.declared.account.Account.{Account}
use Rattle.move_core.specs.declared.account.Owed.{Owed}
use Rattle.move_core.specs.declared.account.Owed.TheVariants.{Nothing, Up, Down}
use Rattle.move_core.specs.declared.account.Stage.{Stage}
use Rattle.move_core.specs.declared.account.Stage.TheVariants.{Idle, Refused, Granted, Moving}
use Rattle.move_core.specs.declared.events.Word.TheVariants as word
use Rattle.hg_defs.specs.Incidence.{nets_of}
use Rattle.move_core.specs.State.{Setup, Readings, times, blank}
use Rattle.move_core.specs.Stages.{number_at, move_at}
use Rattle.move_core.specs.Balance.{Loads, Names, Counts, Numbers, Sum, Spreads, Prefixes, InBalance, IsSetup}
use Rattle.move_core.specs.Balance.{IsGain, IsMoveFromOpening, IsStageMove, IsInStep}
use Rattle.move_core.specs.Balance.{IsOwing, IsBetween, IsBookedWithin, numbered_by, carried, stage_vertices, owed_up, owed_down, weights_of}
use Rattle.move_core.specs.Stages.{booked_at}
use Rattle.move_core.proofs.Words.{WordsAfter}
use Rattle.move_core.proofs.TimesLaws.{all_changed, all_at}
use Rattle.move_core.proofs.ClaimLaws.{claims_kept}
use Rattle.move_core.proofs.LoadLaws.{loads_kept, loads_added, loads_taken, load_reserved}
use Rattle.move_core.proofs.NameLaws.{names_kept, names_written}
use Rattle.move_core.proofs.CountLaws.{counts_kept}
use Rattle.move_core.proofs.NumberLaws.{numbers_kept, numbers_drawn}
use Rattle.move_core.proofs.CostLaws.{sum_kept}
use Rattle.move_core.proofs.RestLaws.{rest_kept}
use Rattle.move_core.proofs.WorkerLaws.{workers_kept}
use Rattle.move_core.proofs.PrefixLaws.{prefixes_kept, prefixes_drawn}
use Rattle.move_core.proofs.SpreadLaws.{spreads_kept}
use Rattle.move_core.proofs.KeptLaws.{stage_carried}

-- the account of a live pass at a stage
abbrev pub staged : List ℕ → List Move → List ℕ → ℕ → ℤ → Stage → Account
staged held moves numbers seeds gain stage = record {
  live = true;
  held = held;
  stage = stage;
  moves = moves;
  numbers = numbers;
  seeds = seeds;
  gain = gain;
}

-- at no place there is nothing to find
pub nothing_raised : (h : Hyper) (v u e to b : ℕ) → (if nat_eq v u then (if nat_eq to b then times e (take 0 (nets_of h v)) else 0) else 0) ≡ 0
nothing_raised h v u e to b = by (nat_eq v u) (nat_eq to b)
  where
    by : (p q : Bool) → ◌≡◌ {A = ℕ} (if p then (if q then 0 else 0) else 0) 0
    by true true = refl
    by true false = refl
    by false q = refl

pub nothing_lowered : (h : Hyper) (v u e : ℕ) → (if nat_eq v u then times e (take 0 (nets_of h v)) else 0) ≡ 0
nothing_lowered h v u e = by (nat_eq v u)
  where
    by : (p : Bool) → ◌≡◌ {A = ℕ} (if p then 0 else 0) 0
    by true = refl
    by false = refl

-- a vertex that is held and not moved may be carried
pub carries_one : (held done : List ℕ) (v : ℕ) → ((u : ℕ) → times u (done ++ []) ≤ times u held) → 0 < times v held → times v done ≡ 0 → (u : ℕ)
    → times u (done ++ v ∷ []) ≤ times u held
carries_one held done v h p z u =
    let e = total-append (λ x. weight_if x u 1) done (v ∷ []) in
    let f = total-append (λ x. weight_if x u 1) done [] in
    let g = h u in
    elim (cases_eq v u) [
      | inl q ↦
          let w = weight_if-same v u 1 q in
          let x : 0 < times u held = subst (λ y. 0 < times y held) q p in
          let y : times u done ≡ 0 = subst (λ y. times y done ≡ 0) q z in
          omega arith
      | inr q ↦ let w = weight_if-other v u 1 q in omega arith
    ]

pub carries_none : (held done : List ℕ) (v : ℕ) → ((u : ℕ) → times u (done ++ v ∷ []) ≤ times u held) → (u : ℕ) → times u (done ++ []) ≤ times u held
carries_none held done v h u =
    let e = total-append (λ x. weight_if x u 1) done (v ∷ []) in
    let f = total-append (λ x. weight_if x u 1) done [] in
    let g = h u in
    omega arith

module _ (s : Setup) (ok : IsSetup s) (r r' : Readings) (accounts : List Account) (i : ℕ) (l : i < length accounts) (b : InBalance s r accounts)
    (held : List ℕ) (moves : List Move) (numbers : List ℕ) (seeds : ℕ) (gain : ℤ) where
  abbrev acc : Stage → Account
  acc = staged held moves numbers seeds gain

  -- what the account says of moves before
  pub moves_at : (stage : Stage) → get_or accounts i (blank false) ≡ acc stage → (u : ℕ)
      → times u (map (λ (m : Move). m.vertex) moves ++ stage_vertices stage) ≤ times u held
  moves_at stage at = all_at accounts i (acc stage) (acc stage) l at (λ x. (u : ℕ) → times u (carried x) ≤ times u x.held) b.moves.held

  pub lengths_at : (stage : Stage) → get_or accounts i (blank false) ≡ acc stage → length numbers ≡ length moves
  lengths_at stage at = all_at accounts i (acc stage) (acc stage) l at (λ x. length x.numbers ≡ length x.moves) b.numbers.lengths

  abbrev done : List ℕ
  done = map (λ (m : Move). m.vertex) moves

  -- what a clause on stages alone says here
  pub here : (P : Stage → Type 0) (stage : Stage) → get_or accounts i (blank false) ≡ acc stage → All (λ a. P a.stage) accounts → P stage
  here P stage at h = all_at accounts i (acc stage) (acc stage) l at (λ a. P a.stage) h

  -- a stage takes the place of another, and what is booked on it is gained
  pub stage_to : (stage stage' : Stage) (gain' : ℤ) (at : get_or accounts i (blank false) ≡ acc stage)
      → ((v : ℕ) → v < vertex_count s.graph → r'.claim v ≡ r.claim v) → r'.cursor ≡ r.cursor → gain' +ℤ booked_at stage ≡ gain +ℤ booked_at stage'
      → ((u : ℕ) → times u (done ++ stage_vertices stage') ≤ times u held) → IsStageMove s stage' → IsBookedWithin s.graph stage'
      → Loads s r' (set accounts i (record (acc stage') { gain = gain' })) → Names s r' (set accounts i (record (acc stage') { gain = gain' }))
      → Counts s r' (set accounts i (record (acc stage') { gain = gain' })) → Numbers r' (set accounts i (record (acc stage') { gain = gain' }))
      → Sum s r' (set accounts i (record (acc stage') { gain = gain' })) → Spreads s r' (set accounts i (record (acc stage') { gain = gain' }))
      → Prefixes s (set accounts i (record (acc stage') { gain = gain' }))
      → InBalance s r' (set accounts i (record (acc stage') { gain = gain' }))
  stage_to stage stage' gain' at claim cursor booked carries move within loads names counts numbers' sum spreads prefixes =
      let a' : Account = record (acc stage') { gain = gain' } in
      record {
        claims = claims_kept s.graph r r' accounts i (acc stage) a' l at b.claims refl claim;
        loads = loads;
        names = names;
        counts = counts;
        moves = record {
          held = all_changed accounts i (acc stage) a' l at (λ x. (u : ℕ) → times u (carried x) ≤ times u x.held) b.moves.held carries;
          done = all_changed accounts i (acc stage) a' l at (λ x. All (λ m. IsMoveFromOpening s m.vertex m.from m.to) x.moves) b.moves.done
              (all_at accounts i (acc stage) a' l at (λ x. All (λ m. IsMoveFromOpening s m.vertex m.from m.to) x.moves) b.moves.done);
          stages = all_changed accounts i (acc stage) a' l at (λ x. IsStageMove s x.stage) b.moves.stages move;
        };
        numbers = numbers';
        gains = all_changed accounts i (acc stage) a' l at IsGain b.gains (let e = all_at accounts i (acc stage) a' l at IsGain b.gains in
            omega (arith, ints));
        sum = sum;
        rest = rest_kept r r' accounts i (acc stage) a' l at b.rest refl refl refl cursor;
        spreads = spreads;
        bounds = record {
          done = all_changed accounts i (acc stage) a' l at (λ x. All (λ m.
              IsBetween (weights_of s.graph (nets_of s.graph m.vertex)) (weights_of s.graph (nets_of s.graph m.vertex)) m.booked) x.moves) b.bounds.done
              (all_at accounts i (acc stage) a' l at (λ x. All (λ m. IsBetween (weights_of s.graph (nets_of s.graph m.vertex))
              (weights_of s.graph (nets_of s.graph m.vertex)) m.booked) x.moves) b.bounds.done);
          stages = all_changed accounts i (acc stage) a' l at (λ x. IsBookedWithin s.graph x.stage) b.bounds.stages within;
        };
        workers = workers_kept accounts i (acc stage) a' l at b.workers refl refl;
        prefixes = prefixes;
      }

  -- a stage before a move takes the place of another, and one load changes
  before_move : (stage stage' : Stage) (at : get_or accounts i (blank false) ≡ acc stage) (to x : ℕ) → WordsAfter s r r' (word.Load to) x
      → Loads s r' (set accounts i (acc stage')) → Names s r' (set accounts i (acc stage')) → Counts s r' (set accounts i (acc stage'))
      → Spreads s r' (set accounts i (acc stage')) → ((u : ℕ) → times u (done ++ stage_vertices stage') ≤ times u held) → IsStageMove s stage'
      → number_at stage' ≡ number_at stage → move_at 0 stage' ≡ move_at 0 stage → booked_at stage' ≡ booked_at stage → IsBookedWithin s.graph stage'
      → InBalance s r' (set accounts i (acc stage'))
  before_move stage stage' at to x w loads names counts spreads carries move n e g q =
      stage_to stage stage' gain at w.claim w.cursor (ap (λ z. gain +ℤ z) (sym g)) carries move q loads names counts
      (numbers_kept r r' accounts i (acc stage) (acc stage') l at b.numbers (λ j. ap (λ z. times j (numbers ++ z)) n) w.next (lengths_at stage at))
      (sum_kept s r r' accounts i (acc stage) (acc stage') l at b.sum refl w.spread)
      spreads
      (prefixes_kept s accounts i (acc stage) (acc stage') l at b.prefixes
      (λ f j.
      ap (λ z. total (λ (m : Move). f m.vertex m.from m.to) (numbered_by (λ y. nat_lt y j) (numbers ++ z) (moves ++ move_at 0 stage'))) n
      ∙ ap (λ z. total (λ (m : Move). f m.vertex m.from m.to) (numbered_by (λ y. nat_lt y j) (numbers ++ number_at stage) (moves ++ z))) e))

  -- Reserve that is granted
  pub reserve_granted : get_or accounts i (blank false) ≡ acc Idle → (v to : ℕ) → 0 < times v held → times v (map (λ (m : Move). m.vertex) moves) ≡ 0
      → to < s.blocks → to ≢ block_of s.opening v → r.load to + weight_of s.graph v ≤ s.limit
      → WordsAfter s r r' (word.Load to) (r.load to + weight_of s.graph v)
      → InBalance s r' (set accounts i (acc (Granted v (block_of s.opening v) to (r.load to))))
  reserve_granted at v to p z lt q room w =
      let stage' = Granted v (block_of s.opening v) to (r.load to) in
      before_move Idle stage' at to (r.load to + weight_of s.graph v) w
      (loads_added s r r' accounts i (acc Idle) (acc stage') l at b.loads to (weight_of s.graph v) refl (λ c k. omega arith) w.load
      (inl (room, λ c k. refl)))
      (names_kept s r r' accounts b.claims b.moves b.names i (acc Idle) (acc stage') l at w.name (λ u. refl) (λ d n. (d, tt)))
      (counts_kept s r r' accounts i (acc Idle) (acc stage') l at b.counts (λ u e c k o. refl) (λ u e k o. refl) w.count tt)
      (spreads_kept s r r' accounts i (acc Idle) (acc stage') l at b.spreads (λ e. refl) (λ e. refl) w.spread w.count tt)
      (carries_one held done v (moves_at Idle at) p z) (record { block = lt; other = q; origin = refl })
      refl refl refl tt

  -- Reserve that is refused
  pub reserve_refused : get_or accounts i (blank false) ≡ acc Idle → (v to : ℕ) → 0 < times v held → times v (map (λ (m : Move). m.vertex) moves) ≡ 0
      → to < s.blocks → to ≢ block_of s.opening v → WordsAfter s r r' (word.Load to) (r.load to + weight_of s.graph v)
      → InBalance s r' (set accounts i (acc (Refused v to (r.load to))))
  reserve_refused at v to p z lt q w =
      let stage' = Refused v to (r.load to) in
      before_move Idle stage' at to (r.load to + weight_of s.graph v) w
      (loads_added s r r' accounts i (acc Idle) (acc stage') l at b.loads to (weight_of s.graph v) refl (λ c k. omega arith) w.load
      (inr (λ c k. omega arith)))
      (names_kept s r r' accounts b.claims b.moves b.names i (acc Idle) (acc stage') l at w.name (λ u. refl) (λ d n. (d, tt)))
      (counts_kept s r r' accounts i (acc Idle) (acc stage') l at b.counts (λ u e c k o. refl) (λ u e k o. refl) w.count tt)
      (spreads_kept s r r' accounts i (acc Idle) (acc stage') l at b.spreads (λ e. refl) (λ e. refl) w.spread w.count tt)
      (carries_one held done v (moves_at Idle at) p z) (record { block = lt; other = q; origin = refl })
      refl refl refl tt

  -- TakeBack of a refused weight
  pub take_back_refused : (v to seen : ℕ) → get_or accounts i (blank false) ≡ acc (Refused v to seen)
      → WordsAfter s r r' (word.Load to) (r.load to - weight_of s.graph v) → InBalance s r' (set accounts i (acc Idle))
  take_back_refused v to seen at w =
      let stage = Refused v to seen in
      let move = all_at accounts i (acc stage) (acc stage) l at (λ x. IsStageMove s x.stage) b.moves.stages in
      let room = load_reserved s r accounts b.claims b.moves b.loads (let e = ok.opening.vertices in omega arith) i (acc stage) l at to move.block in
      let one = weight_if-same to to (weight_of s.graph v) refl in
      before_move stage Idle at to (r.load to - weight_of s.graph v) w
      (loads_taken s r r' accounts i (acc stage) (acc Idle) l at b.loads to (weight_of s.graph v) (omega arith) refl (λ c k. omega arith) w.load
      (λ c k. omega arith))
      (names_kept s r r' accounts b.claims b.moves b.names i (acc stage) (acc Idle) l at w.name (λ u. refl) (λ d n. (d, tt)))
      (counts_kept s r r' accounts i (acc stage) (acc Idle) l at b.counts (λ u e c k o. refl) (λ u e k o. refl) w.count tt)
      (spreads_kept s r r' accounts i (acc stage) (acc Idle) l at b.spreads (λ e. refl) (λ e. refl) w.spread w.count tt)
      (carries_none held done v (moves_at stage at)) tt
      refl refl refl tt

  -- TakeBack of a granted weight
  pub take_back_granted : (v from to seen : ℕ) → get_or accounts i (blank false) ≡ acc (Granted v from to seen)
      → WordsAfter s r r' (word.Load to) (r.load to - weight_of s.graph v) → InBalance s r' (set accounts i (acc Idle))
  take_back_granted v from to seen at w =
      let stage = Granted v from to seen in
      let move = all_at accounts i (acc stage) (acc stage) l at (λ x. IsStageMove s x.stage) b.moves.stages in
      let room = load_reserved s r accounts b.claims b.moves b.loads (let e = ok.opening.vertices in omega arith) i (acc stage) l at to move.block in
      let one = weight_if-same to to (weight_of s.graph v) refl in
      before_move stage Idle at to (r.load to - weight_of s.graph v) w
      (loads_taken s r r' accounts i (acc stage) (acc Idle) l at b.loads to (weight_of s.graph v) (omega arith) refl (λ c k. omega arith) w.load
      (λ c k. omega arith))
      (names_kept s r r' accounts b.claims b.moves b.names i (acc stage) (acc Idle) l at w.name (λ u. refl) (λ d n. (d, tt)))
      (counts_kept s r r' accounts i (acc stage) (acc Idle) l at b.counts (λ u e c k o. refl) (λ u e k o. refl) w.count tt)
      (spreads_kept s r r' accounts i (acc stage) (acc Idle) l at b.spreads (λ e. refl) (λ e. refl) w.spread w.count tt)
      (carries_none held done v (moves_at stage at)) tt
      refl refl refl tt

  -- Draw
  pub draw_kept : (v from to seen : ℕ) → get_or accounts i (blank false) ≡ acc (Granted v from to seen) → WordsAfter s r r' word.Next (r.next + 1)
      → InBalance s r' (set accounts i (acc (Moving v from to r.next false 0 0 Nothing (pos 0))))
  draw_kept v from to seen at w =
      let stage = Granted v from to seen in
      let stage' = Moving v from to r.next false 0 0 Nothing (pos 0) in
      let loads = loads_kept s r r' accounts i (acc stage) (acc stage') l at b.loads refl (λ c k. refl) (λ c k. refl) w.load in
      let drawn = numbers_drawn r r' accounts i (acc stage) (acc stage') l at b.numbers
      (λ j.
      let e = total-append (λ x. weight_if x j 1) numbers (r.next ∷ []) in
      let f = total-append (λ x. weight_if x j 1) numbers [] in
      omega arith)
      w.next
      (lengths_at stage at) in
      stage_to stage stage' gain at w.claim w.cursor refl (moves_at stage at) (here (IsStageMove s) stage at b.moves.stages)
      (record { low = omega (arith, ints); high = omega (arith, ints) }) loads
      (names_kept s r r' accounts b.claims b.moves b.names i (acc stage) (acc stage') l at w.name (λ u. refl)
      (λ d n. (d, λ q. absurd (true≢false (sym q)))))
      (counts_kept s r r' accounts i (acc stage) (acc stage') l at b.counts
      (λ u e c k o. ap (λ z. total (λ (m : Move). if nat_eq m.vertex u then (if nat_eq m.to c then 1 else 0) else 0) moves + z)
      (nothing_raised s.graph v u e to c))
      (λ u e k o. ap (λ z. times u done + z) (nothing_lowered s.graph v u e))
      w.count (omega arith, omega arith, omega arith, λ q. refl))
      drawn
      (sum_kept s r r' accounts i (acc stage) (acc stage') l at b.sum refl w.spread)
      (spreads_kept s r r' accounts i (acc stage) (acc stage') l at b.spreads (λ e. refl) (λ e. refl) w.spread w.count tt)
      (prefixes_drawn s accounts i (acc stage) (acc stage') l at b.prefixes r' r.next
      (record { vertex = v; from = from; to = to; worker = 0; booked = pos 0 })
      (lengths_at stage at) refl refl refl refl refl refl w.next loads drawn)

  -- Name
  pub name_kept : (v from to number raised lowered : ℕ) (owed : Owed) (booked : ℤ)
      → get_or accounts i (blank false) ≡ acc (Moving v from to number false raised lowered owed booked) → WordsAfter s r r' (word.Name v) to
      → InBalance s r' (set accounts i (acc (Moving v from to number true raised lowered owed booked)))
  name_kept v from to number raised lowered owed booked at w =
      let stage = Moving v from to number false raised lowered owed booked in
      let stage' = Moving v from to number true raised lowered owed booked in
      let c = stage_carried s r accounts i (acc stage) l at b v refl in
      let step = here (IsInStep s.graph) stage at b.counts.steps in
      stage_to stage stage' gain at w.claim w.cursor refl (moves_at stage at) (here (IsStageMove s) stage at b.moves.stages)
      (within owed (here (IsBookedWithin s.graph) stage at b.bounds.stages))
      (loads_kept s r r' accounts i (acc stage) (acc stage') l at b.loads refl (λ k q. refl) (λ k q. refl) w.load)
      (names_written s r r' accounts b.claims b.moves b.names i (acc stage) (acc stage') l at v to c.vertex w.name c.held c.unmoved refl (λ u. omega arith)
      (λ e q. e))
      (counts_kept s r r' accounts i (acc stage) (acc stage') l at b.counts (λ u e k q o. refl) (λ u e q o. refl) w.count
      (step.0, step.1, step.2, λ q. absurd (true≢false q)))
      (numbers_kept r r' accounts i (acc stage) (acc stage') l at b.numbers (λ j. refl) w.next (lengths_at stage at))
      (sum_kept s r r' accounts i (acc stage) (acc stage') l at b.sum refl w.spread)
      (spreads_kept s r r' accounts i (acc stage) (acc stage') l at b.spreads (up owed) (down owed) w.spread w.count
      (owing owed (here IsOwing stage at b.spreads.owed)))
      (prefixes_kept s accounts i (acc stage) (acc stage') l at b.prefixes (λ f j. refl))
    where
      -- no name plays a part in what is owed or booked
      within : (owed : Owed) → IsBookedWithin s.graph (Moving v from to number false raised lowered owed booked)
          → IsBookedWithin s.graph (Moving v from to number true raised lowered owed booked)
      within Nothing q = q
      within Up q = q
      within Down q = q

      owing : (owed : Owed) → IsOwing (Moving v from to number false raised lowered owed booked)
          → IsOwing (Moving v from to number true raised lowered owed booked)
      owing Nothing q = q
      owing Up q = q
      owing Down q = q

      up : (owed : Owed) (e : ℕ) → owed_up s.graph e (Moving v from to number true raised lowered owed booked)
          ≡ owed_up s.graph e (Moving v from to number false raised lowered owed booked)
      up Nothing e = refl
      up Up e = refl
      up Down e = refl

      down : (owed : Owed) (e : ℕ) → owed_down s.graph e (Moving v from to number true raised lowered owed booked)
          ≡ owed_down s.graph e (Moving v from to number false raised lowered owed booked)
      down Nothing e = refl
      down Up e = refl
      down Down e = refl
