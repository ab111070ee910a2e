-- The parts so far have no nets and no ends.
use Rattle.std.proofs.Common.{◌≡◌, length, All}
use Rattle.std.specs.Prelude.{IfOk}
use Rattle.contract_nets.specs.Parts.{IsEmptyPart}
use Rattle.contract_nets.proofs.merging.empty_parts.Given as goal

abbrev pub invariant-loop-j : goal.invariant-loop-j
invariant-loop-j l = (length l.parts.items ≡ l.j) × All (λ one. IfOk one IsEmptyPart) l.parts.items
