use Rattle.std.proofs.Common.{◌≡◌, ◌&&◌, filter, take}
use Rattle.hg_defs.specs.Hypergraph.{net_of}
use Rattle.round_log.specs.Rounds.{has_pin}
use Rattle.flow_pair.proofs.cut.nets_between.Given as goal

abbrev pub invariant-loop-e : goal.invariant-loop-e
invariant-loop-e l =
    l.found.items ≡ filter (λ e. has_pin l.p.blocks (net_of l.h e) l.a && has_pin l.p.blocks (net_of l.h e) l.b) (take l.e-index l.nets)
