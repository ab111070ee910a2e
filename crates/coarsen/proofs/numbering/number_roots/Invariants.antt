-- The roots so far have their numbers.
use Rattle.coarsen.proofs.NumberLaws.{IsNumbering}
use Rattle.coarsen.proofs.numbering.number_roots.Given as goal

abbrev pub invariant-loop-v : goal.invariant-loop-v
invariant-loop-v l = IsNumbering l.roots l.v l.count l.numbers.items
