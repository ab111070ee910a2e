-- The parts so far are there, with their nets and ends.
use Rattle.std.proofs.Common.{◌≡◌, List, map}
use Rattle.contract_nets.specs.declared.merging.MergedPart.{MergedPart}
use Rattle.contract_nets.proofs.ImageLaws.{AreThere}
use Rattle.contract_nets.proofs.CutLaws.{joined_ends}
use Rattle.contract_nets.proofs.merging.merge_nets.Given as goal

abbrev pub invariant-loop-part : goal.invariant-loop-part
invariant-loop-part g l =
    (parts : List MergedPart) × AreThere l.yielded parts × (l.lists.items ≡ map (λ (p : MergedPart). p.nets) parts) × (l.ends.items ≡ joined_ends parts)
