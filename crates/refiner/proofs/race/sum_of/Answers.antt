use Rattle.std.proofs.Common.{◌≡◌, ◌+◌, ◌+ℤ◌, ℤ, pos, take, get_or, arith}
use Rattle.std.proofs.lemmas.Int.{ints, to_z-of_z}
use Rattle.hg_defs.specs.Sums.{total_z}
use Rattle.hg_defs.proofs.SumLaws.{total_z-take_more}
use Rattle.refiner.proofs.race.sum_of.Goals as goal

pub loop-gain-preserved : goal.loop-gain-preserved
loop-gain-preserved c =
    let more : total_z (λ (g : ℤ). g) (take (c.loop-gain.gain-index + 1) c.args.gains.now) ≡ total_z (λ (g : ℤ). g)
    (take c.loop-gain.gain-index c.args.gains.now) +ℤ get_or c.args.gains.now c.loop-gain.gain-index (pos 0) =
    total_z-take_more (λ (g : ℤ). g) c.args.gains.now c.loop-gain.gain-index (pos 0) c.loop-gain-test.true in
    let is = c.from-sum.ensures in
    record {
      sum = first_of (omega (arith, ints), grind (arith, ints, to_z-of_z, more, is));
      low = omega (arith, ints);
      high = omega (arith, ints);
    }
