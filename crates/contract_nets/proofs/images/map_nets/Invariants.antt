-- The parts so far are there, and the lists of their keys.
use Rattle.std.proofs.Common.{◌≡◌, List, map}
use Rattle.contract_nets.specs.declared.images.Mapped.{Mapped}
use Rattle.contract_nets.proofs.ImageLaws.{AreThere}
use Rattle.contract_nets.proofs.images.map_nets.Given as goal

abbrev pub invariant-loop-mapped : goal.invariant-loop-mapped
invariant-loop-mapped g l =
    (mapped : List Mapped) × AreThere l.yielded mapped × (l.parts.items ≡ map (λ (m : Mapped). m.part) mapped)
    × (l.lists.items ≡ map (λ (m : Mapped). m.keys) mapped)
