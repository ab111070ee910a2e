-- The ranks before i were joined.
use Rattle.std.proofs.Common.{length, ◌-◌}
use Rattle.coarsen.proofs.PairLaws.{IsJoining}
use Rattle.coarsen.proofs.pairing.join_ranks.Given as goal

abbrev pub invariant-loop-i : goal.invariant-loop-i
invariant-loop-i l = IsJoining l.h l.cap l.ranks l.initial.roots l.initial.single l.i l.roots l.single

abbrev pub decreases-loop-i : goal.decreases-loop-i
decreases-loop-i l = length l.ranks - l.i
