use Rattle.std.proofs.Common.{◌<◌, ◌≤◌, ◌+◌, ◌∙◌, refl, sym, ap, subst, arith}
use Rattle.pin_plain.specs.Parted.{Parted}
use Rattle.round_log.specs.Passes.{block_pairs}
use Rattle.flow_pair.specs.Turns.{TakesTurns}
use Rattle.flow_pair.proofs.TurnLaws.{pairs_from, rows_from, rows_first, rows_last, rows_open, row_next, row_last, turns_none, turns_same, turns_more}
use Rattle.flow_pair.proofs.pass.Course.take_turns.Goals as goal

pub loop-a-init : goal.loop-a-init
loop-a-init c =
    let s = c.args.self.now in
    record {
      course = c.requires.course;
      same_level = refl;
      turns = subst (λ x. TakesTurns c.args.h.now s.level x (rows_from s.part.k 0) s.part s.part s.rounds.items s.rounds.items) (rows_first s.part.k)
          (turns_none c.args.h.now s.level (rows_from s.part.k 0) s.part s.rounds.items c.requires.course.fits);
      low = omega arith;
    }

pub loop-b-init : goal.loop-b-init
loop-b-init c =
    let s = c.args.self.now in
    let k = s.part.k in
    let now = c.loop-a.self in
    let low : c.loop-a.a < k = (let e = c.k-k.ensures in let f = c.loop-a-test.true in omega arith) in
    record {
      course = c.loop-a.invariant.course;
      same_level = c.loop-a.invariant.same_level;
      turns = turns_same c.args.h.now s.level (block_pairs k) (rows_from k c.loop-a.a) (pairs_from k c.loop-a.a (c.loop-a.a + 1)) s.part now.part
          s.rounds.items now.rounds.items (rows_open k c.loop-a.a low) c.loop-a.invariant.turns;
      low = c.loop-a.invariant.low;
    }

pub take_turn-requires-clause-second : goal.take_turn-requires-clause-second
take_turn-requires-clause-second c =
    let same = ap (λ (x : Parted). x.k) c.loop-b.invariant.turns.same in
    let k = c.k-k.ensures in
    let test = c.loop-b-test.true in
    omega arith

pub loop-b-preserved : goal.loop-b-preserved
loop-b-preserved c =
    let h = c.args.h.now in
    let s = c.args.self.now in
    let k = s.part.k in
    let a = c.loop-a.a in
    let b = c.loop-b.b in
    let now = c.loop-b.self in
    let next = c.take_turn.new.self in
    let low : b < k = (let e = c.k-k.ensures in let f = c.loop-b-test.true in omega arith) in
    let turn = subst (λ x. TakesTurns h x (pairs_from k a b) (pairs_from k a (b + 1)) now.part next.part now.rounds.items next.rounds.items)
    c.loop-b.invariant.same_level
    (subst (λ x. TakesTurns h now.level x (pairs_from k a (b + 1)) now.part next.part now.rounds.items next.rounds.items) (sym (row_next k a b low))
    (c.in_ok-take_turn.ensures.turn (pairs_from k a (b + 1)))) in
    record {
      course = c.in_ok-take_turn.ensures.course;
      same_level = c.take_turn.ensures.level ∙ c.loop-b.invariant.same_level;
      turns = turns_more h s.level (block_pairs k) (pairs_from k a b) (pairs_from k a (b + 1)) s.part now.part next.part s.rounds.items now.rounds.items
          next.rounds.items c.loop-b.invariant.turns turn;
      low = let less = c.in_ok-take_turn.ensures.no_dearer in let was = c.loop-b.invariant.low in omega arith;
    }

pub loop-a-preserved : goal.loop-a-preserved
loop-a-preserved c =
    let s = c.args.self.now in
    let k = s.part.k in
    let now = c.loop-b.self in
    let end : k ≤ c.loop-b.b = (let e = c.k-k.ensures in let f = c.loop-b-test.false in omega arith) in
    record {
      course = c.loop-b.invariant.course;
      same_level = c.loop-b.invariant.same_level;
      turns = turns_same c.args.h.now s.level (block_pairs k) (pairs_from k c.loop-a.a c.loop-b.b) (rows_from k (c.loop-a.a + 1)) s.part now.part
          s.rounds.items now.rounds.items (row_last k c.loop-a.a c.loop-b.b end) c.loop-b.invariant.turns;
      low = c.loop-b.invariant.low;
    }

pub returns-clause-turns : goal.returns-clause-turns
returns-clause-turns c =
    let s = c.args.self.now in
    let k = s.part.k in
    let end : k ≤ c.loop-a.a = (let e = c.k-k.ensures in let f = c.loop-a-test.false in omega arith) in
    turns_same c.args.h.now s.level (block_pairs k) (rows_from k c.loop-a.a) _ s.part c.loop-a.self.part s.rounds.items c.loop-a.self.rounds.items
    (rows_last k c.loop-a.a end) c.loop-a.invariant.turns
