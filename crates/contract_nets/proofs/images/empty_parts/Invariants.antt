-- The parts so far have no lists and no keys.
use Rattle.std.proofs.Common.{◌≡◌, length, All, IfOk}
use Rattle.contract_nets.specs.Mapped.{IsBare}
use Rattle.contract_nets.proofs.images.empty_parts.Given as goal

abbrev pub invariant-loop-j : goal.invariant-loop-j
invariant-loop-j l = (length l.parts.items ≡ l.j) × All (λ one. IfOk one IsBare) l.parts.items
