use Rattle.std.proofs.Common.{◌≡◌, take, true}
use Rattle.move_core.specs.Balance.{IsBooks}
use Rattle.move_core.specs.Run.{run_of, all_enabled}
use Rattle.move_core.proofs.books.Books.make.Given as goal

abbrev pub invariant-loop-event : goal.invariant-loop-event
invariant-loop-event l = record {
  place : l.at ≡ l.event-index;
  setup : l.self.setup ≡ l.fn.self.setup;
  enabled : all_enabled l.fn.self (take l.event-index l.events) ≡ true;
  balance : IsBooks l.self;
  state : l.self ≡ run_of l.fn.self (take l.event-index l.events);
}
