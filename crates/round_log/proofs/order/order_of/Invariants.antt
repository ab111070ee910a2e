use Rattle.std.proofs.Common.{take}
use Rattle.round_log.specs.Rounds.{IsOrder}
use Rattle.round_log.proofs.order.order_of.Given as goal

-- the places of the moves so far stand at their vertices
abbrev pub invariant-loop-place : goal.invariant-loop-place
invariant-loop-place l = IsOrder l.n (take l.place l.moves) l.order.items
