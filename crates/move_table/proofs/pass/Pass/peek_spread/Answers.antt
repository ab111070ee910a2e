use Rattle.std.proofs.Common.{rules}
use Rattle.move_core.specs.declared.events.Event.TheVariants.{Peek}
use Rattle.move_core.specs.declared.events.Word.TheVariants as word
use Rattle.move_table.proofs.ReadyLaws.{ready}
use Rattle.move_table.proofs.pass.Pass.peek_spread.Goals as goal

pub load-found-requires-clause-ready : goal.load-found-requires-clause-ready
load-found-requires-clause-ready c =
    ready c.shared.result.now.table_id c.shared.result.now.key c.self.inside.seat.me.0 (Peek c.self.inside.number (word.Spread c.args.e)) c.net.result.start
    (search rules) (search rules) (search rules) (search rules) (search rules) (search rules) (search rules)
