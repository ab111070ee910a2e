use Rattle.std.proofs.Common.{◌≡◌, ◌++◌, ◌-◌, ◌&&◌, filter}
use Rattle.std.specs.List.{range_with_len}
use Rattle.hg_defs.specs.Hypergraph.{net_of, net_count}
use Rattle.round_log.specs.Rounds.{has_pin}
use Rattle.flow_pair.specs.Sides.{touching_nets}
use Rattle.flow_pair.proofs.cut.touching_nets_of.Given as goal

abbrev pub invariant-loop-e : goal.invariant-loop-e
invariant-loop-e l =
    l.nets.items ++ filter (λ e. has_pin l.p.blocks (net_of l.h e) l.a && has_pin l.p.blocks (net_of l.h e) l.b)
    (range_with_len l.e (net_count l.h - l.e)) ≡ touching_nets l.h l.p.blocks l.a l.b
