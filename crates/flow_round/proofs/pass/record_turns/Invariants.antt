use Rattle.std.proofs.Common.{◌≡◌, ◌≤◌}
use Rattle.hg_defs.specs.Cost.{cost}
use Rattle.round_log.specs.Passes.{block_pairs}
use Rattle.flow_pair.specs.Turns.{TakesTurns}
use Rattle.flow_pair.proofs.TurnLaws.{pairs_from, rows_from}
use Rattle.flow_round.specs.PairTurns.{AreBooked, AreTurns, after_turns}
use Rattle.flow_round.specs.Waves.{end_at, moves_at}
use Rattle.flow_round.proofs.pass.record_turns.Given as goal

abbrev pub invariant-loop-a : goal.invariant-loop-a
invariant-loop-a l = record {
  turns : TakesTurns l.h l.level (block_pairs l.p.k) (rows_from l.p.k l.a) (record l.p { blocks = l.fn.blocks }) (record l.p { blocks = l.blocks })
      l.fn.rounds.items l.rounds.items;
  left : AreTurns l.h l.p.k l.p.limit (end_at l.p.k l.ends) (rows_from l.p.k l.a) l.blocks;
  booked : AreBooked l.h (end_at l.p.k l.ends) (moves_at l.p.k l.made) (rows_from l.p.k l.a) l.blocks;
  leads : after_turns (end_at l.p.k l.ends) (rows_from l.p.k l.a) l.blocks ≡ after_turns (end_at l.p.k l.ends) (block_pairs l.p.k) l.fn.blocks;
  cost : l.cost ≡ cost l.h l.blocks;
  low : l.cost ≤ l.before;
}

abbrev pub invariant-loop-b : goal.invariant-loop-b
invariant-loop-b l = record {
  turns : TakesTurns l.h l.level (block_pairs l.p.k) (pairs_from l.p.k l.a l.b) (record l.p { blocks = l.fn.blocks }) (record l.p { blocks = l.blocks })
      l.fn.rounds.items l.rounds.items;
  left : AreTurns l.h l.p.k l.p.limit (end_at l.p.k l.ends) (pairs_from l.p.k l.a l.b) l.blocks;
  booked : AreBooked l.h (end_at l.p.k l.ends) (moves_at l.p.k l.made) (pairs_from l.p.k l.a l.b) l.blocks;
  leads : after_turns (end_at l.p.k l.ends) (pairs_from l.p.k l.a l.b) l.blocks ≡ after_turns (end_at l.p.k l.ends) (block_pairs l.p.k) l.fn.blocks;
  cost : l.cost ≡ cost l.h l.blocks;
  low : l.cost ≤ l.before;
}
