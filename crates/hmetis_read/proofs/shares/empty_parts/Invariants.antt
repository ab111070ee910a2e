-- The parts so far have no nets.
use Rattle.std.proofs.Common.{◌≡◌, [], length, All}
use Rattle.std.specs.Prelude.{IfSome}
use Rattle.hmetis_read.proofs.shares.empty_parts.Given as goal

abbrev pub invariant-loop-j : goal.invariant-loop-j
invariant-loop-j l = (length l.parts.items ≡ l.j) × All (λ one. IfSome one (λ part. part.nets ≡ [])) l.parts.items
