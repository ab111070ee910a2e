-- The images so far, and their keys.
use Rattle.std.proofs.Common.{◌≡◌}
use Rattle.contract_nets.specs.Keys.{keys_from}
use Rattle.contract_nets.specs.Images.{over}
use Rattle.contract_nets.proofs.ImageLaws.{AreLists}
use Rattle.contract_nets.proofs.images.map_part.Given as goal

abbrev pub invariant-loop-i : goal.invariant-loop-i
invariant-loop-i l =
    AreLists l.h l.fn.clusters l.from l.i l.part-inside.starts.items l.part-inside.pins.items
    × (l.keys.items ≡ keys_from (over l.h l.fn.clusters) l.from l.i)
