-- Each event is enabled at its turn, and leads to the state after it.
use Rattle.std.proofs.Common.{◌+◌, ap}
use Rattle.cluster_core.specs.State.{setup_of}
use Rattle.cluster_core.proofs.StateLaws.{made_more}
use Rattle.cluster_core.proofs.marks.Marks.make.Goals as goal

pub loop-event-preserved : goal.loop-event-preserved
loop-event-preserved c =
    let o = c.in-Ok.ensures in
    let m = made_more (setup_of c.args.h.now c.args.cap) c.args.self.now c.args.events.now c.loop-event.event-index _ c.loop-event-test.true
    c.loop-event.self
    c.step.new.self c.in-Ok._found o.ok c.loop-event.invariant.balance c.loop-event.invariant.state c.loop-event.invariant.enabled in
    record {
      place = ap (λ n. n + 1) c.loop-event.invariant.place;
      enabled = m.enabled;
      state = m.state;
      balance = m.balance;
    }
