use Rattle.move_table.proofs.AllowLaws.{swap_allows}
use Rattle.move_table.proofs.steps.swap.Goals as goal

pub swap_as-requires-clause-table : goal.swap_as-requires-clause-table
swap_as-requires-clause-table c = (c.requires.table, c.requires.ready.within)

pub swap_as-requires-clause-step : goal.swap_as-requires-clause-step
swap_as-requires-clause-step c =
    swap_allows c.args.words.now.table_id c.args.words.now.key c.args.words.now.table_id.slots c.args.seat.now.id c.args.seat.now.me c.args.event
    c.args.word
    c.requires.ready c.args.new c.requires.step c.requires.value
