use Rattle.std.proofs.Common.{◌≡◌, ◌+◌, ◌+ℤ◌, take, get_or, pos, arith}
use Rattle.std.proofs.lemmas.Int.{ints, to_z-of_z}
use Rattle.hg_defs.specs.declared.moves.Move.{Move}
use Rattle.hg_defs.specs.Sums.{total_z}
use Rattle.hg_defs.proofs.SumLaws.{total_z-take_more}
use Rattle.flow_pair.proofs.round.saved_by.Goals as goal

pub loop-step-preserved : goal.loop-step-preserved
loop-step-preserved c =
    let none : Move = record { vertex = 0; from = 0; to = 0; worker = 0; booked = pos 0 } in
    let more : total_z (λ (m : Move). m.booked) (take (c.loop-step.step-index + 1) c.args.moves.now) ≡ total_z (λ (m : Move). m.booked)
    (take c.loop-step.step-index c.args.moves.now) +ℤ (get_or c.args.moves.now c.loop-step.step-index none).booked =
    total_z-take_more (λ (m : Move). m.booked) c.args.moves.now c.loop-step.step-index none c.loop-step-test.true in
    let is = c.from-sum.ensures in
    record {
      sum = first_of (omega (arith, ints), grind (arith, ints, to_z-of_z, more, is));
      low = omega (arith, ints);
      high = omega (arith, ints);
    }
