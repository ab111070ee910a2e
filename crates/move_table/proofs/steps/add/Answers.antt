use Rattle.move_table.proofs.AllowLaws.{add_allows}
use Rattle.move_table.proofs.steps.add.Goals as goal

pub add_as-requires-clause-table : goal.add_as-requires-clause-table
add_as-requires-clause-table c = (c.requires.table, c.requires.ready.within)

pub add_as-requires-clause-step : goal.add_as-requires-clause-step
add_as-requires-clause-step c =
    add_allows c.args.words.now.table_id c.args.words.now.key c.args.words.now.table_id.slots c.args.seat.now.id c.args.seat.now.me c.args.event c.args.word
    c.requires.ready c.args.amount c.requires.step c.requires.amount
