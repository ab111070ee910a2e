-- The books stay in balance over Raise and Lower.
use Rattle.std.proofs.Common.{◌≡◌, ℕ, ◌+◌, ◌-◌, ◌<◌, ◌≤◌, Bool, true, false, List, length, get_or, slice_index, take}
use Rattle.std.proofs.Common.{set, nat_eq, if◌then◌else◌, ℤ, refl, sym, ap, subst, arith}
use Rattle.std.proofs.lemmas.Int.{ints}
use Rattle.std.proofs.lemmas.Bool.{true≢false, eqb-true, eqb-false}
use Rattle.hg_defs.specs.declared.moves.Move.{Move}
use Rattle.hg_defs.specs.Hypergraph.{vertex_count, net_of}
use Rattle.hg_defs.specs.Partition.{block_of}
use Rattle.hg_defs.proofs.SumLaws.{weight_if, weight_if-same, weight_if-other}
use Rattle.move_core.specs.declared.account.Account.{Account}
use Rattle.move_core.specs.declared.account.Owed.{Owed}
use Rattle.move_core.specs.declared.account.Owed.TheVariants.{Nothing, Up, Down}
use Rattle.move_core.specs.declared.account.Stage.{Stage}
use Rattle.move_core.specs.declared.account.Stage.TheVariants.{Idle, Moving}
use Rattle.move_core.specs.declared.events.Word.TheVariants as word
use Rattle.hg_defs.specs.Incidence.{nets_of}
use Rattle.move_core.specs.State.{Setup, Readings, times, blank}
use Rattle.move_core.specs.Balance.{Counts, Spreads, InBalance, IsSetup, IsMoveFromOpening, IsStageMove}
use Rattle.move_core.specs.Balance.{IsInStep, IsBetween, IsBookedWithin, lowers, weights_of}
use Rattle.move_core.proofs.Words.{WordsAfter}
use Rattle.move_core.proofs.TimesLaws.{all_at}
use Rattle.move_core.proofs.LoadLaws.{loads_kept}
use Rattle.move_core.proofs.NameLaws.{names_kept}
use Rattle.move_core.proofs.CountLaws.{counts_raised, counts_lowered, count_positive, lowers-le}
use Rattle.move_core.proofs.NumberLaws.{numbers_kept}
use Rattle.move_core.proofs.CostLaws.{sum_kept}
use Rattle.move_core.proofs.PrefixLaws.{prefixes_kept}
use Rattle.move_core.proofs.SpreadLaws.{spreads_raised, spreads_lowered}
use Rattle.move_core.proofs.KeptLaws.{stage_carried, IsCarried}
use Rattle.move_core.proofs.StageEvents.{staged, moves_at, lengths_at, stage_to}
use Rattle.move_core.proofs.NetLaws.{net_at-below, net_at_pin, times-take_more, times_net_at_before}
use Rattle.move_core.proofs.HeldLaws.{held_alone}
use Rattle.move_core.proofs.TimesLaws.{total_changed, all_changed_others}
use Rattle.hg_defs.proofs.SumLaws.{total-zero, total-take_more}

weight_if-zero : (p q : ℕ) → weight_if p q 0 ≡ 0
weight_if-zero p q = by (nat_eq p q)
  where
    by : (t : Bool) → ◌≡◌ {A = ℕ} (if t then 0 else 0) 0
    by true = refl
    by false = refl

-- one place more of a list
more_raised : (p q t : Bool) (x y : ℕ) → y ≡ x + (if t then 1 else 0) → (if p then (if q then y else 0) else 0) ≡ (if p then (if q then x else 0) else 0)
    + (if p then (if t then (if q then 1 else 0) else 0) else 0)
more_raised true true true x y e = e
more_raised true true false x y e = e
more_raised true false true x y e = refl
more_raised true false false x y e = refl
more_raised false q t x y e = refl

more_lowered : (p t : Bool) (x y : ℕ) → y ≡ x + (if t then 1 else 0) → (if p then y else 0) ≡ (if p then x else 0) + (if p then (if t then 1 else 0) else 0)
more_lowered true t x y e = e
more_lowered false t x y e = refl

module _ (s : Setup) (ok : IsSetup s) (r r' : Readings) (accounts : List Account) (i : ℕ) (l : i < length accounts) (b : InBalance s r accounts)
    (held : List ℕ) (moves : List Move) (numbers : List ℕ) (seeds : ℕ) (gain : ℤ) where
  abbrev acc : Stage → Account
  acc = staged held moves numbers seeds gain

  module _ (v from to number raised lowered : ℕ) (booked : ℤ) (at : get_or accounts i (blank false)
      ≡ acc (Moving v from to number true raised lowered Nothing booked)) where
    stage_move : IsMoveFromOpening s v from to
    stage_move = all_at accounts i (acc (Moving v from to number true raised lowered Nothing booked)) (acc Idle) l at (λ x. IsStageMove s x.stage)
        b.moves.stages

    booked_before : IsBetween (weights_of s.graph (take raised (nets_of s.graph v))) (weights_of s.graph (take lowered (nets_of s.graph v))) booked
    booked_before = all_at accounts i (acc (Moving v from to number true raised lowered Nothing booked)) (acc Idle) l at
        (λ x. IsBookedWithin s.graph x.stage)
        b.bounds.stages

    -- what a step on the counts leaves alone
    on_counts : (raised' lowered' : ℕ) (owed : Owed) (e0 c x : ℕ) → WordsAfter s r r' (word.Count e0 c) x
        → Counts s r' (set accounts i (acc (Moving v from to number true raised' lowered' owed booked)))
        → Spreads s r' (set accounts i (acc (Moving v from to number true raised' lowered' owed booked)))
        → IsBookedWithin s.graph (Moving v from to number true raised' lowered' owed booked)
        → InBalance s r' (set accounts i (acc (Moving v from to number true raised' lowered' owed booked)))
    on_counts raised' lowered' owed e0 c x w counts spreads within =
        let stage = Moving v from to number true raised lowered Nothing booked in
        let stage' = Moving v from to number true raised' lowered' owed booked in
        stage_to s ok r r' accounts i l b held moves numbers seeds gain stage stage' gain at
        w.claim w.cursor refl (moves_at s ok r r' accounts i l b held moves numbers seeds gain stage at) stage_move within
        (loads_kept s r r' accounts i (acc stage) (acc stage') l at b.loads refl (λ k q. refl) (λ k q. refl) w.load)
        (names_kept s r r' accounts b.claims b.moves b.names i (acc stage) (acc stage') l at w.name (λ u. refl) (λ d n. (d, n)))
        counts
        (numbers_kept r r' accounts i (acc stage) (acc stage') l at b.numbers (λ j. refl) w.next
        (lengths_at s ok r r' accounts i l b held moves numbers seeds gain stage at))
        (sum_kept s r r' accounts i (acc stage) (acc stage') l at b.sum refl w.spread)
        spreads
        (prefixes_kept s accounts i (acc stage) (acc stage') l at b.prefixes (λ f j. refl))

    abbrev net : ℕ → ℕ
    net j = slice_index (nets_of s.graph v) j

    -- Raise
    pub raise_kept : raised ≡ lowered → raised < length (nets_of s.graph v) → WordsAfter s r r' (word.Count (net raised) to) (r.count (net raised) to + 1)
        → InBalance s r' (set accounts i (acc (Moving v from to number true (raised + 1) lowered
        (if nat_eq (r.count (net raised) to) 0 then Up else Nothing)
        booked)))
    raise_kept even place w = go (nat_eq (r.count (net raised) to) 0) refl
      where
        counts : (owed : Owed) → Counts s r' (set accounts i (acc (Moving v from to number true (raised + 1) lowered owed booked)))
        counts owed =
            counts_raised s r r' accounts i (acc (Moving v from to number true raised lowered Nothing booked))
            (acc (Moving v from to number true (raised + 1) lowered owed booked)) l at b.counts ok.graph v (net raised) to
            (net_at-below s.graph v raised place) (net_at_pin s.graph v raised place)
            (λ u e c.
            let m = more_raised (nat_eq v u) (nat_eq to c) (nat_eq (net raised) e) (times e (take raised (nets_of s.graph v)))
            (times e (take (raised + 1) (nets_of s.graph v))) (times-take_more s.graph v e raised place) in
            omega arith)
            (λ u e. refl)
            w.count
            (omega arith, omega arith, omega arith, λ q. absurd (true≢false q))

        go : (z : Bool) → nat_eq (r.count (net raised) to) 0 ≡ z → InBalance s r'
            (set accounts i (acc (Moving v from to number true (raised + 1) lowered (if z then Up else Nothing) booked)))
        go true q =
            let none : r.count (net raised) to ≡ 0 = eqb-true (r.count (net raised) to) 0 q in
            let back : raised + 1 - 1 ≡ raised = omega arith in
            on_counts (raised + 1) lowered Up (net raised) to (r.count (net raised) to + 1) w (counts Up)
            (spreads_raised s r r' accounts i (acc (Moving v from to number true raised lowered Nothing booked))
            (acc (Moving v from to number true (raised + 1) lowered Up booked)) l at b.spreads (net raised) to (net_at-below s.graph v raised place)
            stage_move.block
            (λ e.
            let x = ap (λ j. weight_if (net j) e 1) back in
            let y = ap (weight_if (net raised) e) (weight_if-same (r.count (net raised) to) 0 1 none) in
            omega arith)
            (λ e. refl) w.spread w.count (omega arith))
            (let low = booked_before.low in
            let high = booked_before.high in
            let x = ap (λ j. weights_of s.graph (take j (nets_of s.graph v))) back in
            record { low = omega (arith, ints); high = high })
        go false q =
            let some = eqb-false (r.count (net raised) to) 0 q in
            on_counts (raised + 1) lowered Nothing (net raised) to (r.count (net raised) to + 1) w (counts Nothing)
            (spreads_raised s r r' accounts i (acc (Moving v from to number true raised lowered Nothing booked))
            (acc (Moving v from to number true (raised + 1) lowered Nothing booked)) l at b.spreads (net raised) to (net_at-below s.graph v raised place)
            stage_move.block
            (λ e.
            let y = ap (weight_if (net raised) e) (weight_if-other (r.count (net raised) to) 0 1 some) in
            let z = weight_if-zero (net raised) e in
            omega arith)
            (λ e. refl) w.spread w.count tt)
            (let low = booked_before.low in
            let high = booked_before.high in
            let x = total-take_more (λ e. (net_of s.graph e).weight) (nets_of s.graph v) raised 0 place in
            record { low = omega (arith, ints); high = high })

    -- the count of the old block that a Lower finds is positive
    pub lower_found : lowered < length (nets_of s.graph v) → 1 ≤ r.count (net lowered) from
    lower_found place =
        count_positive s r accounts ok.graph b.claims b.moves b.counts v (net lowered) from (net_at-below s.graph v lowered place)
        (subst (λ x. x < s.blocks) (sym stage_move.origin) (below_blocks v carried_here.vertex))
        (net_at_pin s.graph v lowered place)
        (sym stage_move.origin)
        (let stage = Moving v from to number true raised lowered Nothing booked in
        let t = total_changed accounts i (acc stage) (blank false) l at (lowers s.graph v (net lowered)) in
        let others = total-zero (lowers s.graph v (net lowered)) (set accounts i (blank false))
        (all_changed_others accounts i (acc stage) (blank false) l at (λ x. lowers s.graph v (net lowered) x ≡ 0)
        (λ k d o q.
        let x = lowers-le s.graph v (net lowered) (get_or accounts k d) in
        let y = held_alone s r accounts b.claims b.moves v i k d carried_here.vertex l o q
        (subst (λ (z : Account). 0 < times v z.held) (sym at) carried_here.held) in
        omega arith)
        refl) in
        let own = weight_if-same v v (times (net lowered) (take lowered (nets_of s.graph v))) refl in
        let before = times_net_at_before s.graph v lowered place in
        let unmoved = carried_here.unmoved in
        omega arith)
      where
        carried_here : IsCarried s (acc (Moving v from to number true raised lowered Nothing booked)) v
        carried_here = stage_carried s r accounts i (acc (Moving v from to number true raised lowered Nothing booked)) l at b v refl

        below_blocks : (u : ℕ) → u < vertex_count s.graph → block_of s.opening u < s.blocks
        below_blocks u k = ok.opening.blocks u 0 (let e = ok.opening.vertices in omega arith)

    -- Lower
    pub lower_kept : raised ≡ lowered + 1 → lowered < length (nets_of s.graph v)
        → WordsAfter s r r' (word.Count (net lowered) from) (r.count (net lowered) from - 1)
        → InBalance s r' (set accounts i (acc (Moving v from to number true raised (lowered + 1)
        (if nat_eq (r.count (net lowered) from) 1 then Down else Nothing) booked)))
    lower_kept odd place w = go (nat_eq (r.count (net lowered) from) 1) refl
      where
        vertex : v < vertex_count s.graph
        vertex = (stage_carried s r accounts i (acc (Moving v from to number true raised lowered Nothing booked)) l at b v refl).vertex

        old_block : from < s.blocks
        old_block = subst (λ x. x < s.blocks) (sym stage_move.origin) (ok.opening.blocks v 0 (let e = ok.opening.vertices in let x = vertex in omega arith))

        step : IsInStep s.graph (Moving v from to number true raised (lowered + 1) Nothing booked)
        step = (omega arith, omega arith, omega arith, λ q. absurd (true≢false q))

        counts : (owed : Owed) → Counts s r' (set accounts i (acc (Moving v from to number true raised (lowered + 1) owed booked)))
        counts owed =
            counts_lowered s r r' accounts i (acc (Moving v from to number true raised lowered Nothing booked))
            (acc (Moving v from to number true raised (lowered + 1) owed booked)) l at b.counts ok.graph v (net lowered) from
            (net_at-below s.graph v lowered place) (net_at_pin s.graph v lowered place) (sym stage_move.origin) (lower_found place)
            (λ u e c. refl)
            (λ u e.
            let m = more_lowered (nat_eq v u) (nat_eq (net lowered) e) (times e (take lowered (nets_of s.graph v)))
            (times e (take (lowered + 1) (nets_of s.graph v))) (times-take_more s.graph v e lowered place) in
            omega arith)
            w.count
            step

        go : (z : Bool) → nat_eq (r.count (net lowered) from) 1 ≡ z → InBalance s r'
            (set accounts i (acc (Moving v from to number true raised (lowered + 1) (if z then Down else Nothing) booked)))
        go true q =
            let one : r.count (net lowered) from ≡ 1 = eqb-true (r.count (net lowered) from) 1 q in
            let back : lowered + 1 - 1 ≡ lowered = omega arith in
            on_counts raised (lowered + 1) Down (net lowered) from (r.count (net lowered) from - 1) w (counts Down)
            (spreads_lowered s r r' accounts i (acc (Moving v from to number true raised lowered Nothing booked))
            (acc (Moving v from to number true raised (lowered + 1) Down booked)) l at b.spreads (net lowered) from (net_at-below s.graph v lowered place)
            old_block (lower_found place)
            (λ e. refl)
            (λ e.
            let x = ap (λ j. weight_if (net j) e 1) back in
            let y = ap (weight_if (net lowered) e) (weight_if-same (r.count (net lowered) from) 1 1 one) in
            omega arith)
            w.spread w.count (odd, omega arith))
            (let low = booked_before.low in
            let high = booked_before.high in
            let x = ap (λ j. weights_of s.graph (take j (nets_of s.graph v))) back in
            record { low = low; high = omega (arith, ints) })
        go false q =
            let more = eqb-false (r.count (net lowered) from) 1 q in
            on_counts raised (lowered + 1) Nothing (net lowered) from (r.count (net lowered) from - 1) w (counts Nothing)
            (spreads_lowered s r r' accounts i (acc (Moving v from to number true raised lowered Nothing booked))
            (acc (Moving v from to number true raised (lowered + 1) Nothing booked)) l at b.spreads (net lowered) from
            (net_at-below s.graph v lowered place) old_block (lower_found place)
            (λ e. refl)
            (λ e.
            let y = ap (weight_if (net lowered) e) (weight_if-other (r.count (net lowered) from) 1 1 more) in
            let z = weight_if-zero (net lowered) e in
            omega arith)
            w.spread w.count tt)
            (let low = booked_before.low in
            let high = booked_before.high in
            let x = total-take_more (λ e. (net_of s.graph e).weight) (nets_of s.graph v) lowered 0 place in
            record { low = low; high = omega (arith, ints) })
