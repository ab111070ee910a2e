-- The wishes of the parts so far.
use Rattle.std.proofs.Common.{◌≡◌, get_or}
use Rattle.std.specs.List.{range_with_len}
use Rattle.pin_plain.specs.BestMoves.{best_moves}
use Rattle.det_sync.proofs.wishes.all_wishes.Given as goal

abbrev pub invariant-loop-part : goal.invariant-loop-part
invariant-loop-part g l = l.wishes.items ≡ best_moves l.h l.p.k l.p.limit l.p.blocks (range_with_len 0 (get_or l.cuts l.part-index 0))
