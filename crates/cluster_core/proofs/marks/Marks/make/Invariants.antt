use Rattle.std.proofs.Common.{◌≡◌, take, true}
use Rattle.cluster_core.specs.State.{setup_of}
use Rattle.cluster_core.specs.Run.{run_of, all_enabled}
use Rattle.cluster_core.specs.Balance.{IsClusterState}
use Rattle.cluster_core.proofs.marks.Marks.make.Given as goal

abbrev pub invariant-loop-event : goal.invariant-loop-event
invariant-loop-event l = record {
  place : l.at ≡ l.event-index;
  enabled : all_enabled (setup_of l.h l.cap) l.fn.self (take l.event-index l.events) ≡ true;
  state : l.self ≡ run_of (setup_of l.h l.cap) l.fn.self (take l.event-index l.events);
  balance : IsClusterState (setup_of l.h l.cap) l.self;
}
