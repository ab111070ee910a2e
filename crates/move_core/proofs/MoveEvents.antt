-- The books stay in balance over GiveBack.
use Rattle.std.proofs.Common.{◌≡◌, ℕ, ◌-◌, ◌<◌, ◌≤◌, inl, inr, true, false, List, [], ◌∷◌, ◌++◌, map, length, length-append, get_or}
use Rattle.std.proofs.Common.{set, nat_eq, if◌then◌else◌, All, ℤ, refl, sym, ap, ◌∙◌, subst, arith, nat_lt, Bool}
use Rattle.std.proofs.lemmas.Int.{ints}
use Rattle.std.proofs.lemmas.Bool.{cases_eq}
use Rattle.hg_defs.specs.declared.moves.Move.{Move}
use Rattle.hg_defs.specs.Hypergraph.{net_count, net_of, weight_of}
use Rattle.hg_defs.specs.Partition.{block_of}
use Rattle.hg_defs.proofs.SumLaws.{weight_if, weight_if-same, weight_if-other, total-append}
use Rattle.move_core.specs.declared.account.Account.{Account}
use Rattle.move_core.specs.declared.account.Owed.TheVariants.{Nothing}
use Rattle.move_core.specs.declared.account.Stage.{Stage}
use Rattle.move_core.specs.declared.account.Stage.TheVariants.{Idle, Moving}
use Rattle.move_core.specs.declared.events.Word.TheVariants as word
use Rattle.hg_defs.specs.Incidence.{nets_of}
use Rattle.move_core.specs.State.{Setup, Readings, times, blank}
use Rattle.move_core.specs.Balance.{InBalance, IsSetup, IsGain, IsMoveFromOpening, IsStageMove, IsInStep, IsBetween, IsBookedWithin, carried, weights_of}
use Rattle.move_core.proofs.Words.{WordsAfter}
use Rattle.move_core.proofs.TimesLaws.{all_changed, all_at}
use Rattle.move_core.proofs.ClaimLaws.{claims_kept}
use Rattle.move_core.proofs.LoadLaws.{loads_given, load_leaving}
use Rattle.move_core.proofs.NameLaws.{names_kept}
use Rattle.move_core.proofs.CountLaws.{counts_kept}
use Rattle.move_core.proofs.NumberLaws.{numbers_kept}
use Rattle.move_core.proofs.CostLaws.{sum_kept}
use Rattle.move_core.proofs.RestLaws.{rest_kept}
use Rattle.move_core.proofs.WorkerLaws.{workers_done}
use Rattle.move_core.proofs.PrefixLaws.{prefixes_kept, total-numbered, total-numbered_push}
use Rattle.move_core.proofs.SpreadLaws.{spreads_kept}
use Rattle.move_core.proofs.KeptLaws.{stage_carried}
use Rattle.move_core.proofs.StageEvents.{staged, lengths_at}
use Rattle.hg_defs.proofs.SumLaws.{total_push, total_z_push}
use Rattle.std.proofs.lemmas.List.{take_all, map-append}
use Rattle.std.proofs.lemmas.List.Elements.{All-append, All-cons, All-nil}
use Rattle.move_core.proofs.NetLaws.{times-nets_of_pin}

module _ (s : Setup) (ok : IsSetup s) (r r' : Readings) (accounts : List Account) (i : ℕ) (l : i < length accounts) (b : InBalance s r accounts)
    (held : List ℕ) (moves : List Move) (numbers : List ℕ) (seeds : ℕ) (gain : ℤ) where
  abbrev acc : Stage → Account
  acc = staged held moves numbers seeds gain

  -- GiveBack
  pub give_back_kept : (v from to number raised lowered : ℕ) (booked : ℤ)
      → get_or accounts i (blank false) ≡ acc (Moving v from to number true raised lowered Nothing booked) → lowered ≡ length (nets_of s.graph v)
      → WordsAfter s r r' (word.Load from) (r.load from - weight_of s.graph v) → InBalance s r' (set accounts i (record {
        live = true;
        held = held;
        stage = Idle;
        moves = moves ++ record { vertex = v; from = from; to = to; worker = i; booked = booked } ∷ [];
        numbers = numbers ++ number ∷ [];
        seeds = seeds;
        gain = gain;
      }))
  give_back_kept v from to number raised lowered booked at full w =
      let a = acc (Moving v from to number true raised lowered Nothing booked) in
      let m : Move = record { vertex = v; from = from; to = to; worker = i; booked = booked } in
      let a' : Account = record {
        live = true;
        held = held;
        stage = Idle;
        moves = moves ++ m ∷ [];
        numbers = numbers ++ number ∷ [];
        seeds = seeds;
        gain =
            gain;
      } in
      let step = all_at accounts i a a' l at (λ x. IsInStep s.graph x.stage) b.counts.steps in
      let least = step.0 in
      let most = step.2 in
      let whole : raised ≡ length (nets_of s.graph v) = omega arith in
      let all_raised = take_all raised (nets_of s.graph v) (omega arith) in
      let all_lowered = take_all lowered (nets_of s.graph v) (omega arith) in
      let move = all_at accounts i a a' l at (λ x. IsStageMove s x.stage) b.moves.stages in
      let c = stage_carried s r accounts i a l at b v refl in
      let vertex = c.vertex in
      let wide = ok.opening.vertices in
      let old_block : from < s.blocks = subst (λ x. x < s.blocks) (sym move.origin) (ok.opening.blocks v 0 (omega arith)) in
      let within = all_at accounts i a a' l at (λ x. IsBookedWithin s.graph x.stage) b.bounds.stages in
      record {
        claims = claims_kept s.graph r r' accounts i a a' l at b.claims refl w.claim;
        loads =
            loads_given s r r' accounts i a a' l at b.loads m
            (let x = load_leaving s r accounts b.claims b.moves b.loads (let e = ok.opening.vertices in omega arith) i a l at from old_block in
            let y = weight_if-same (block_of s.opening v) from (weight_of s.graph v) (sym move.origin) in
            omega arith)
            refl (λ c k. refl) (λ c k. refl) (λ c k. refl) w.load;
        names =
            names_kept s r r' accounts b.claims b.moves b.names i a a' l at w.name
            (λ u.
            let x = ap (times u) (map-append (λ (z : Move). z.vertex) moves (m ∷ [])) in
            let y = total-append (λ z. weight_if z u 1) (map (λ (z : Move). z.vertex) (moves ++ m ∷ [])) [] in
            omega arith)
            (λ d n. (
              All-append (λ (z : Move). r.name z.vertex ≡ z.to) moves (m ∷ []) d
                  (All-cons (λ (z : Move). r.name z.vertex ≡ z.to) m [] (n refl) (All-nil (λ (z : Move). r.name z.vertex ≡ z.to))),
              tt,
            ));
        counts =
            counts_kept s r r' accounts i a a' l at b.counts
            (λ u e c k pin.
            let x = total_push (λ (z : Move). if nat_eq z.vertex u then (if nat_eq z.to c then 1 else 0) else 0) moves m in
            let y = ap (λ es. if nat_eq v u then (if nat_eq to c then times e es else 0) else 0) all_raised in
            let z = raised_once v u e to c k pin in
            omega arith)
            (λ u e k pin.
            let x = ap (times u) (map-append (λ (z : Move). z.vertex) moves (m ∷ [])) in
            let x' = total-append (λ z. weight_if z u 1) (map (λ (z : Move). z.vertex) moves) (v ∷ []) in
            let y = ap (λ es. if nat_eq v u then times e es else 0) all_lowered in
            let z = lowered_once v u e k pin in
            omega arith)
            w.count tt;
        moves = record {
          held =
              all_changed accounts i a a' l at (λ x. (u : ℕ) → times u (carried x) ≤ times u x.held) b.moves.held
              (λ u.
              let x = ap (times u) (map-append (λ (z : Move). z.vertex) moves (m ∷ [])) in
              let y = total-append (λ z. weight_if z u 1) (map (λ (z : Move). z.vertex) (moves ++ m ∷ [])) [] in
              let o = all_at accounts i a a' l at (λ z. (t : ℕ) → times t (carried z) ≤ times t z.held) b.moves.held u in
              omega arith);
          done =
              all_changed accounts i a a' l at (λ x. All (λ z. IsMoveFromOpening s z.vertex z.from z.to) x.moves) b.moves.done
              (All-append (λ (z : Move). IsMoveFromOpening s z.vertex z.from z.to) moves (m ∷ [])
              (all_at accounts i a a' l at (λ x. All (λ z. IsMoveFromOpening s z.vertex z.from z.to) x.moves) b.moves.done)
              (All-cons (λ (z : Move). IsMoveFromOpening s z.vertex z.from z.to) m [] move
              (All-nil (λ (z : Move). IsMoveFromOpening s z.vertex z.from z.to))));
          stages = all_changed accounts i a a' l at (λ x. IsStageMove s x.stage) b.moves.stages tt;
        };
        numbers =
            numbers_kept r r' accounts i a a' l at b.numbers
            (λ j. let x = total-append (λ z. weight_if z j 1) (numbers ++ number ∷ []) [] in omega arith)
            w.next
            (let x = length-append numbers (number ∷ []) in
            let y = length-append moves (m ∷ []) in
            let z = lengths_at s ok r r' accounts i l b held moves numbers seeds gain (Moving v from to number true raised lowered Nothing booked) at in
            omega arith);
        gains =
            all_changed accounts i a a' l at IsGain b.gains
            (let x = total_z_push (λ (z : Move). z.booked) moves m in
            let y = all_at accounts i a a' l at IsGain b.gains in
            omega (arith, ints));
        sum = sum_kept s r r' accounts i a a' l at b.sum refl w.spread;
        rest = rest_kept r r' accounts i a a' l at b.rest refl refl refl w.cursor;
        spreads = spreads_kept s r r' accounts i a a' l at b.spreads (λ e. refl) (λ e. refl) w.spread w.count tt;
        bounds = record {
          done =
              all_changed accounts i a a' l at (λ x. All (λ z. IsBetween (weights_of s.graph (nets_of s.graph z.vertex))
              (weights_of s.graph (nets_of s.graph z.vertex)) z.booked) x.moves) b.bounds.done
              (All-append (λ (z : Move). IsBetween (weights_of s.graph (nets_of s.graph z.vertex)) (weights_of s.graph (nets_of s.graph z.vertex)) z.booked)
              moves (m ∷ [])
              (all_at accounts i a a' l at (λ x. All (λ z. IsBetween (weights_of s.graph (nets_of s.graph z.vertex))
              (weights_of s.graph (nets_of s.graph z.vertex)) z.booked) x.moves) b.bounds.done)
              (All-cons (λ (z : Move). IsBetween (weights_of s.graph (nets_of s.graph z.vertex)) (weights_of s.graph (nets_of s.graph z.vertex)) z.booked)
              m []
              (let x = ap (weights_of s.graph) all_raised in
              let y = ap (weights_of s.graph) all_lowered in
              let low = within.low in
              let high = within.high in
              record { low = omega (arith, ints); high = omega (arith, ints) })
              (All-nil (λ (z : Move). IsBetween (weights_of s.graph (nets_of s.graph z.vertex)) (weights_of s.graph (nets_of s.graph z.vertex))
              z.booked))));
          stages = all_changed accounts i a a' l at (λ x. IsBookedWithin s.graph x.stage) b.bounds.stages tt;
        };
        workers = workers_done accounts i a a' l at b.workers refl m refl refl;
        prefixes =
            prefixes_kept s accounts i a a' l at b.prefixes
            (λ f j.
            let t : ℕ → Bool = λ n. nat_lt n j in
            let size = lengths_at s ok r r' accounts i l b held moves numbers seeds gain (Moving v from to number true raised lowered Nothing booked) at in
            let x = total-numbered (λ (z : Move). f z.vertex z.from z.to) t (numbers ++ number ∷ []) [] (moves ++ m ∷ []) []
            (let p = length-append numbers (number ∷ []) in let q = length-append moves (m ∷ []) in omega arith) in
            let y = total-numbered_push (λ (z : Move). f z.vertex z.from z.to) t numbers moves number m size in
            let z = total-numbered_push (λ (z : Move). f z.vertex z.from z.to) t numbers moves number (record m { worker = 0 }) size in
            omega arith);
      }
    where
      raised_once : (v u e to c : ℕ) → e < net_count s.graph → 0 < times u (net_of s.graph e).pins
          → (if nat_eq v u then (if nat_eq to c then times e (nets_of s.graph v) else 0) else 0) ≡
          (if nat_eq v u then (if nat_eq to c then 1 else 0) else 0)
      raised_once v u e to c k pin =
          elim (cases_eq v u) [
            | inl q ↦ ap (λ z. if nat_eq v u then (if nat_eq to c then z else 0) else 0)
                (times-nets_of_pin s.graph v e k (subst (λ z. 0 < times z (net_of s.graph e).pins) (sym q) pin))
            | inr q ↦ weight_if-other v u (if nat_eq to c then times e (nets_of s.graph v) else 0) q
                ∙ sym (weight_if-other v u (if nat_eq to c then 1 else 0) q)
          ]

      lowered_once : (v u e : ℕ) → e < net_count s.graph → 0 < times u (net_of s.graph e).pins
          → (if nat_eq v u then times e (nets_of s.graph v) else 0) ≡ (if nat_eq v u then 1 else 0)
      lowered_once v u e k pin =
          elim (cases_eq v u) [
            | inl q ↦ ap (λ z. if nat_eq v u then z else 0) (times-nets_of_pin s.graph v e k (subst (λ z. 0 < times z (net_of s.graph e).pins) (sym q) pin))
            | inr q ↦ weight_if-other v u (times e (nets_of s.graph v)) q ∙ sym (weight_if-other v u 1 q)
          ]
