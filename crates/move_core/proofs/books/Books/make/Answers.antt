-- Each event is enabled at its turn, and leads to the state after it.
use Rattle.std.proofs.Common.{◌+◌, ap, ◌∙◌}
use Rattle.move_core.proofs.RunLaws.{made_more}
use Rattle.move_core.proofs.books.Books.make.Goals as goal

pub loop-event-preserved : goal.loop-event-preserved
loop-event-preserved c =
    let o = c.in-Ok.ensures in
    let m = made_more c.args.self.now c.args.events.now c.loop-event.event-index _ c.loop-event-test.true c.loop-event.self c.step.new.self c.in-Ok._found
    o.ok
    c.loop-event.invariant.state c.loop-event.invariant.enabled in
    record {
      place = ap (λ n. n + 1) c.loop-event.invariant.place;
      setup = m.setup ∙ c.loop-event.invariant.setup;
      enabled = m.enabled;
      balance = c.step.ensures.balance;
      state = m.state;
    }
