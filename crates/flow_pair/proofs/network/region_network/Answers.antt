use Rattle.std.proofs.Common.{◌∙◌, length, ap, sym, subst}
use Rattle.flow_pair.specs.PairNetwork.{ArePlaces}
use Rattle.flow_pair.proofs.network.region_network.Goals as goal

pub of-pair-requires-clause-long : goal.of-pair-requires-clause-long
of-pair-requires-clause-long c = ap length c.as_slice.ensures.value ∙ c.in_ok-place_region.ensures.long

pub of-pair-requires-clause-placed : goal.of-pair-requires-clause-placed
of-pair-requires-clause-placed c = subst (ArePlaces c.args.region.now) (sym c.as_slice.ensures.value) c.in_ok-place_region.ensures.placed
