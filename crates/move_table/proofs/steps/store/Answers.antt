use Rattle.move_table.proofs.AllowLaws.{store_allows}
use Rattle.move_table.proofs.steps.store.Goals as goal

pub store_as-requires-clause-table : goal.store_as-requires-clause-table
store_as-requires-clause-table c = (c.requires.table, c.requires.ready.within)

pub store_as-requires-clause-step : goal.store_as-requires-clause-step
store_as-requires-clause-step c =
    store_allows c.args.words.now.table_id c.args.words.now.key c.args.words.now.table_id.slots c.args.seat.now.id c.args.seat.now.me c.args.event
    c.args.word
    c.requires.ready c.args.new c.requires.step c.requires.value
