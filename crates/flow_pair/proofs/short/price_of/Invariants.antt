use Rattle.std.proofs.Common.{◌≡◌, take}
use Rattle.hg_defs.specs.Sums.{total}
use Rattle.hg_defs.specs.Hypergraph.{net_of}
use Rattle.flow_pair.specs.PairNetwork.{net_price}
use Rattle.flow_pair.proofs.short.price_of.Given as goal

abbrev pub invariant-loop-e : goal.invariant-loop-e
invariant-loop-e l =
    l.price ≡ total (λ e. net_price l.pair.h.now l.pair.blocks.now l.pair.first l.pair.second (net_of l.pair.h.now e)) (take l.e-index l.nets)
