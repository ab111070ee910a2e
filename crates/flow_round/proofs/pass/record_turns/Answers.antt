use Rattle.std.proofs.Common.{◌≡◌, ◌<◌, ◌≤◌, ◌+◌, ◌*◌, ◌∙◌, List, [], None, slice_index_or, sym, ap, subst, arith}
use Rattle.hg_defs.specs.declared.moves.Move.{Move}
use Rattle.pin_plain.specs.Parted.{Parted}
use Rattle.round_log.specs.Passes.{block_pairs}
use Rattle.flow_pair.specs.Turns.{TakesTurns}
use Rattle.flow_round.specs.PairTurns.{IsBooked, IsTurn, AreBooked, AreTurns, after_turn, after_turns}
use Rattle.flow_round.specs.Waves.{end_at, moves_at}
use Rattle.flow_pair.proofs.TurnLaws.{pairs_from, rows_from, rows_first, rows_last, rows_open, row_next, row_last}
use Rattle.flow_pair.proofs.TurnLaws.{turns_none, turns_same, turns_more, turns_fit}
use Rattle.flow_round.proofs.pass.record_turns.Goals as goal

pub loop-a-init : goal.loop-a-init
loop-a-init c =
    let h = c.args.h.now in
    let p = c.args.p.now in
    let q = c.args.blocks.now in
    let ends = end_at p.k c.args.ends.now in
    let rounds = c.args.rounds.now.items in
    let start : Parted = record p { blocks = q } in
    record {
      turns = subst (λ x. TakesTurns h c.args.level x (rows_from p.k 0) start start rounds rounds) (rows_first p.k)
          (turns_none h c.args.level (rows_from p.k 0) start rounds c.requires.fits);
      left = subst (λ xs. AreTurns h p.k p.limit ends xs q) (sym (rows_first p.k)) c.requires.turns;
      booked = subst (λ xs. AreBooked h ends (moves_at p.k c.args.made.now) xs q) (sym (rows_first p.k)) c.requires.booked;
      leads = ap (λ xs. after_turns ends xs q) (rows_first p.k);
      cost = c.requires.before;
      low = omega arith;
    }

pub loop-b-init : goal.loop-b-init
loop-b-init c =
    let h = c.args.h.now in
    let p = c.args.p.now in
    let a = c.loop-a.a in
    let ends = end_at p.k c.args.ends.now in
    let low : a < p.k = (let e = c.k-k.ensures in let f = c.loop-a-test.true in omega arith) in
    let opened = rows_open p.k a low in
    record {
      turns = turns_same h c.args.level (block_pairs p.k) (rows_from p.k a) (pairs_from p.k a (a + 1)) (record p { blocks = c.args.blocks.now })
          (record p { blocks = c.loop-a.blocks }) c.args.rounds.now.items c.loop-a.rounds.items opened c.loop-a.invariant.turns;
      left = subst (λ xs. AreTurns h p.k p.limit ends xs c.loop-a.blocks) opened c.loop-a.invariant.left;
      booked = subst (λ xs. AreBooked h ends (moves_at p.k c.args.made.now) xs c.loop-a.blocks) opened c.loop-a.invariant.booked;
      leads = ap (λ xs. after_turns ends xs c.loop-a.blocks) (sym opened) ∙ c.loop-a.invariant.leads;
      cost = c.loop-a.invariant.cost;
      low = c.loop-a.invariant.low;
    }

pub record_turn-requires-clause-fits : goal.record_turn-requires-clause-fits
record_turn-requires-clause-fits c =
    let p = c.args.p.now in
    turns_fit c.args.h.now c.args.level (block_pairs p.k) (pairs_from p.k c.loop-a.a c.loop-b.b) (record p { blocks = c.args.blocks.now })
    (record p { blocks = c.loop-b.blocks }) c.args.rounds.now.items c.loop-b.rounds.items c.loop-b.invariant.turns

pub record_turn-requires-clause-turn : goal.record_turn-requires-clause-turn
record_turn-requires-clause-turn c =
    let h = c.args.h.now in
    let p = c.args.p.now in
    let a = c.loop-a.a in
    let b = c.loop-b.b in
    let low : b < p.k = (let e = c.k-k.ensures in let f = c.loop-b-test.true in omega arith) in
    let left = subst (λ xs. AreTurns h p.k p.limit (end_at p.k c.args.ends.now) xs c.loop-b.blocks) (row_next p.k a b low) c.loop-b.invariant.left in
    let at = c.place_of-place.ensures.value ∙ ap (λ n. a * n + b) c.k-k.ensures in
    let here : end_at p.k c.args.ends.now (a, b) ≡ c.end_of-end.result.now =
    ap (λ i. slice_index_or c.args.ends.now i None) (sym at) ∙ sym c.end_of-end.ensures in
    subst (IsTurn h p.k p.limit c.loop-b.blocks (a, b)) here left.0

pub record_turn-requires-clause-booked : goal.record_turn-requires-clause-booked
record_turn-requires-clause-booked c =
    let h = c.args.h.now in
    let p = c.args.p.now in
    let a = c.loop-a.a in
    let b = c.loop-b.b in
    let low : b < p.k = (let e = c.k-k.ensures in let f = c.loop-b-test.true in omega arith) in
    let left = subst (λ xs. AreBooked h (end_at p.k c.args.ends.now) (moves_at p.k c.args.made.now) xs c.loop-b.blocks) (row_next p.k a b low)
    c.loop-b.invariant.booked in
    let at = c.place_of-place.ensures.value ∙ ap (λ n. a * n + b) c.k-k.ensures in
    let here : end_at p.k c.args.ends.now (a, b) ≡ c.end_of-end.result.now =
    ap (λ i. slice_index_or c.args.ends.now i None) (sym at) ∙ sym c.end_of-end.ensures in
    let none : List Move = [] in
    let moves : moves_at p.k c.args.made.now (a, b) ≡ c.moves_of-moves.result.now =
    ap (λ i. slice_index_or c.args.made.now i none) (sym at) ∙ sym c.moves_of-moves.ensures in
    subst (λ e. IsBooked h c.loop-b.blocks e c.moves_of-moves.result.now) here
    (subst (IsBooked h c.loop-b.blocks (end_at p.k c.args.ends.now (a, b))) moves left.0)

pub loop-b-preserved : goal.loop-b-preserved
loop-b-preserved c =
    let h = c.args.h.now in
    let p = c.args.p.now in
    let a = c.loop-a.a in
    let b = c.loop-b.b in
    let q = c.loop-b.blocks in
    let next = c.record_turn.new.blocks in
    let old = c.args.rounds.now.items in
    let ends = end_at p.k c.args.ends.now in
    let made = moves_at p.k c.args.made.now in
    let low : b < p.k = (let e = c.k-k.ensures in let f = c.loop-b-test.true in omega arith) in
    let row = row_next p.k a b low in
    let at = c.place_of-place.ensures.value ∙ ap (λ n. a * n + b) c.k-k.ensures in
    let here : end_at p.k c.args.ends.now (a, b) ≡ c.end_of-end.result.now =
    ap (λ i. slice_index_or c.args.ends.now i None) (sym at) ∙ sym c.end_of-end.ensures in
    let left = subst (λ xs. AreTurns h p.k p.limit ends xs q) row c.loop-b.invariant.left in
    let booked = subst (λ xs. AreBooked h ends made xs q) row c.loop-b.invariant.booked in
    let after : after_turn q (end_at p.k c.args.ends.now (a, b)) ≡ next = ap (after_turn q) here ∙ sym c.in_ok-cost.ensures.blocks in
    let later = pairs_from p.k a (b + 1) in
    let start : Parted = record p { blocks = c.args.blocks.now } in
    let now : Parted = record p { blocks = q } in
    let moved : Parted = record p { blocks = next } in
    record {
      turns =
          turns_more h c.args.level (block_pairs p.k) (pairs_from p.k a b) later start now moved old c.loop-b.rounds.items c.record_turn.new.rounds.items
          c.loop-b.invariant.turns
          (subst (λ x. TakesTurns h c.args.level x later now moved c.loop-b.rounds.items c.record_turn.new.rounds.items) (sym row)
          (c.in_ok-cost.ensures.turn later));
      left = subst (AreTurns h p.k p.limit ends later) after left.1;
      booked = subst (AreBooked h ends made later) after booked.1;
      leads = ap (after_turns ends later) (sym after) ∙ ap (λ xs. after_turns ends xs q) (sym row) ∙ c.loop-b.invariant.leads;
      cost = c.in_ok-cost.ensures.after;
      low = let less = c.in_ok-cost.ensures.no_dearer in let was = c.loop-b.invariant.low in omega arith;
    }

pub loop-a-preserved : goal.loop-a-preserved
loop-a-preserved c =
    let h = c.args.h.now in
    let p = c.args.p.now in
    let a = c.loop-a.a in
    let q = c.loop-b.blocks in
    let ends = end_at p.k c.args.ends.now in
    let end : p.k ≤ c.loop-b.b = (let e = c.k-k.ensures in let f = c.loop-b-test.false in omega arith) in
    let last = row_last p.k a c.loop-b.b end in
    record {
      turns = turns_same h c.args.level (block_pairs p.k) (pairs_from p.k a c.loop-b.b) (rows_from p.k (a + 1)) (record p { blocks = c.args.blocks.now })
          (record p { blocks = q }) c.args.rounds.now.items c.loop-b.rounds.items last c.loop-b.invariant.turns;
      left = subst (λ xs. AreTurns h p.k p.limit ends xs q) last c.loop-b.invariant.left;
      booked = subst (λ xs. AreBooked h ends (moves_at p.k c.args.made.now) xs q) last c.loop-b.invariant.booked;
      leads = ap (λ xs. after_turns ends xs q) (sym last) ∙ c.loop-b.invariant.leads;
      cost = c.loop-b.invariant.cost;
      low = c.loop-b.invariant.low;
    }

pub returns-clause-turns : goal.returns-clause-turns
returns-clause-turns c =
    let p = c.args.p.now in
    let end : p.k ≤ c.loop-a.a = (let e = c.k-k.ensures in let f = c.loop-a-test.false in omega arith) in
    turns_same c.args.h.now c.args.level (block_pairs p.k) (rows_from p.k c.loop-a.a) _ (record p { blocks = c.args.blocks.now })
    (record p { blocks = c.loop-a.blocks }) c.args.rounds.now.items c.loop-a.rounds.items (rows_last p.k c.loop-a.a end) c.loop-a.invariant.turns

pub returns-clause-blocks : goal.returns-clause-blocks
returns-clause-blocks c =
    let p = c.args.p.now in
    let end : p.k ≤ c.loop-a.a = (let e = c.k-k.ensures in let f = c.loop-a-test.false in omega arith) in
    ap (λ xs. after_turns (end_at p.k c.args.ends.now) xs c.loop-a.blocks) (sym (rows_last p.k c.loop-a.a end)) ∙ c.loop-a.invariant.leads
