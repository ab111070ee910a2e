use Rattle.std.proofs.Common.{◌≡◌, ◌&&◌, false, take}
use Rattle.std.specs.List.{list_any}
use Rattle.hg_defs.specs.Hypergraph.{net_of}
use Rattle.round_log.specs.Rounds.{has_pin}
use Rattle.flow_pair.proofs.cut.any_between.Given as goal

abbrev pub invariant-loop-e : goal.invariant-loop-e
invariant-loop-e l =
    list_any (λ e. has_pin l.p.blocks (net_of l.h e) l.a && has_pin l.p.blocks (net_of l.h e) l.b) (take l.e-index l.nets) ≡ false
