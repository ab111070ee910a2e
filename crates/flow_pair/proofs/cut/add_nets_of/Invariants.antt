use Rattle.std.proofs.Common.{◌≡◌, ◌++◌, take}
use Rattle.std.specs.List.{flat_map}
use Rattle.hg_defs.specs.Incidence.{nets_of}
use Rattle.flow_pair.proofs.cut.add_nets_of.Given as goal

abbrev pub invariant-loop-step : goal.invariant-loop-step
invariant-loop-step l = l.list.items ≡ l.initial.list.items ++ flat_map (λ m. nets_of l.h m.vertex) (take l.step-index l.moves)
