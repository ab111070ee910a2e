use Rattle.std.proofs.Common.{◌≡◌, drop}
use Rattle.exact_cost.specs.Carrying.{carried, LeadsInto}
use Rattle.exact_cost.proofs.carrying.block_below.Given as goal

abbrev pub invariant-maps : goal.invariant-maps
invariant-maps l =
    LeadsInto (drop l.clusters-index l.maps) l.blocks l.at × (carried (drop l.clusters-index l.maps) l.at ≡ carried l.maps l.v)
