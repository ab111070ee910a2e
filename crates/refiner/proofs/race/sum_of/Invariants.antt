use Rattle.std.proofs.Common.{◌≡◌, ◌*◌, take, pos, ◌-ℤ◌, ◌≤ℤ◌}
use Rattle.hg_defs.specs.Sums.{total_z}
use Rattle.refiner.proofs.race.sum_of.Given as goal

-- the sum so far, which grows by less than 2^63 at each gain
abbrev pub invariant-loop-gain : goal.invariant-loop-gain
invariant-loop-gain l = record {
  sum : l.sum ≡ total_z (λ g. g) (take l.gain-index l.gains);
  low : (pos 0 -ℤ pos (l.gain-index * 9223372036854775808)) ≤ℤ l.sum;
  high : l.sum ≤ℤ pos (l.gain-index * 9223372036854775808);
}
