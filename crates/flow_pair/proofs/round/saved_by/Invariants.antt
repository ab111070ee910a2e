use Rattle.std.proofs.Common.{◌≡◌, ◌*◌, take, pos, ◌-ℤ◌, ◌≤ℤ◌}
use Rattle.hg_defs.specs.Sums.{total_z}
use Rattle.flow_pair.proofs.round.saved_by.Given as goal

-- the sum so far, which grows by less than 2^63 at each move
abbrev pub invariant-loop-step : goal.invariant-loop-step
invariant-loop-step l = record {
  sum : l.sum ≡ total_z (λ m. m.booked) (take l.step-index l.moves);
  low : (pos 0 -ℤ pos (l.step-index * 9223372036854775808)) ≤ℤ l.sum;
  high : l.sum ≤ℤ pos (l.step-index * 9223372036854775808);
}
