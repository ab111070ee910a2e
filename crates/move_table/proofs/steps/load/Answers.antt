use Rattle.move_table.proofs.AllowLaws.{load_allows}
use Rattle.move_table.proofs.steps.load.Goals as goal

pub load_as-requires-clause-table : goal.load_as-requires-clause-table
load_as-requires-clause-table c = (c.requires.table, c.requires.ready.within)

pub load_as-requires-clause-step : goal.load_as-requires-clause-step
load_as-requires-clause-step c =
    load_allows c.args.words.now.table_id c.args.words.now.key c.args.words.now.table_id.slots c.args.seat.now.id c.args.seat.now.me c.args.event
    c.args.word
    c.requires.ready c.requires.step
