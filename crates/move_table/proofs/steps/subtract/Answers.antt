use Rattle.move_table.proofs.AllowLaws.{subtract_allows}
use Rattle.move_table.proofs.steps.subtract.Goals as goal

pub subtract_as-requires-clause-table : goal.subtract_as-requires-clause-table
subtract_as-requires-clause-table c = (c.requires.table, c.requires.ready.within)

pub subtract_as-requires-clause-step : goal.subtract_as-requires-clause-step
subtract_as-requires-clause-step c =
    subtract_allows c.args.words.now.table_id c.args.words.now.key c.args.words.now.table_id.slots c.args.seat.now.id c.args.seat.now.me c.args.event
    c.args.word c.requires.ready c.args.amount c.requires.step c.requires.amount
