use Rattle.move_table.proofs.SeatLaws.{joins}
use Rattle.move_table.proofs.steps.join.Goals as goal

pub join_seat-requires : goal.join_seat-requires
join_seat-requires c = (
  c.requires.table.0,
  c.requires.table.1,
  c.requires.empty,
  c.requires.table.2,
  joins c.args.words.now.key c.args.seat.now.id c.args.other.id
      c.args.seat.now.me.0 c.args.other.me.0 c.requires.resting.0 c.requires.resting.1 c.requires.first,
)
