use Rattle.std.proofs.Common.{◌≡◌, ◌≤◌}
use Rattle.round_log.specs.Passes.{block_pairs}
use Rattle.flow_pair.specs.Courses.{IsOnCourse}
use Rattle.flow_pair.specs.Turns.{TakesTurns}
use Rattle.flow_pair.proofs.TurnLaws.{pairs_from, rows_from}
use Rattle.flow_pair.proofs.pass.Course.take_turns.Given as goal

abbrev pub invariant-loop-a : goal.invariant-loop-a
invariant-loop-a l = record {
  course : IsOnCourse l.h l.self;
  same_level : l.self.level ≡ l.fn.self.level;
  turns : TakesTurns l.h l.fn.self.level (block_pairs l.fn.self.part.k) (rows_from l.fn.self.part.k l.a) l.fn.self.part l.self.part l.fn.self.rounds.items
      l.self.rounds.items;
  low : l.self.cost ≤ l.fn.self.cost;
}

abbrev pub invariant-loop-b : goal.invariant-loop-b
invariant-loop-b l = record {
  course : IsOnCourse l.h l.self;
  same_level : l.self.level ≡ l.fn.self.level;
  turns : TakesTurns l.h l.fn.self.level (block_pairs l.fn.self.part.k) (pairs_from l.fn.self.part.k l.a l.b) l.fn.self.part l.self.part
      l.fn.self.rounds.items l.self.rounds.items;
  low : l.self.cost ≤ l.fn.self.cost;
}
