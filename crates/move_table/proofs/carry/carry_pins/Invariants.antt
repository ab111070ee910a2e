use Rattle.std.proofs.Common.{◌≡◌}
use Rattle.move_table.proofs.PassedLaws.{IsUnderWay}
use Rattle.move_table.proofs.carry.carry_pins.Given as goal

abbrev pub invariant-loop-e : goal.invariant-loop-e
invariant-loop-e l = record {
  table : l.seat.table_id ≡ l.initial.seat.table_id;
  rest : l.seat.me.1 ≡ l.initial.seat.me.1;
  way : IsUnderWay l.round.terms l.pass l.grant l.number l.e-index l.initial.seat.me.0 l.seat.me.0 l.booked;
}
