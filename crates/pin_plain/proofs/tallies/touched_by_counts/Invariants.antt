use Rattle.std.proofs.Common.{◌≡◌, ◌≤◌}
use Rattle.hg_defs.specs.Pins.{present}
use Rattle.hg_defs.specs.Sums.{sum_below}
use Rattle.hg_base.specs.Packed.{count_at}
use Rattle.pin_plain.proofs.tallies.touched_by_counts.Given as goal

abbrev pub invariant-loop-b : goal.invariant-loop-b
invariant-loop-b l = record {
  touched : l.touched ≡ sum_below (λ c. present (count_at l.words l.start l.bits c)) l.b;
  few : l.touched ≤ l.b;
}
