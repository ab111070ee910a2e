-- The vertices so far that marked nets hold.
use Rattle.std.proofs.Common.{◌≡◌, ◌-◌, ◌≤◌, filter}
use Rattle.std.specs.List.{range_with_len}
use Rattle.det_sync.specs.CutNets.{is_held}
use Rattle.det_sync.proofs.cut.held_between.Given as goal

abbrev pub invariant-loop-v : goal.invariant-loop-v
invariant-loop-v l = record {
  behind : l.first ≤ l.v;
  held : l.held.items ≡ filter (is_held l.h l.marks) (range_with_len l.first (l.v - l.first));
}
