-- What was kept, and what will be kept of the rest, are all that is kept.
use Rattle.std.proofs.Common.{◌≡◌, ◌<◌, ◌++◌, take, drop, nat_eq, slice_index}
use Rattle.std.specs.List.{dedup, dedup_from}
use Rattle.hg_base.proofs.sets.drop_repeats.Given as goal

abbrev pub invariant-loop-i : goal.invariant-loop-i
invariant-loop-i l =
    (l.last < l.i) × (drop l.i l.numbers ≡ drop l.i l.initial.numbers)
    × (take l.last l.numbers ++ dedup_from nat_eq (slice_index l.numbers l.last) (drop l.i l.initial.numbers) ≡ dedup nat_eq l.initial.numbers)
