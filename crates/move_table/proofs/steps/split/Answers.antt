use Rattle.move_table.proofs.SeatLaws.{splits}
use Rattle.move_table.proofs.steps.split.Goals as goal

pub split_seat-requires : goal.split_seat-requires
split_seat-requires c = (
  c.requires.table.0,
  c.requires.table.1,
  splits c.args.words.now.key c.args.seat.now.id c.args.seat.now.me.0 c.requires.terms
      c.requires.resting c.requires.may,
)
