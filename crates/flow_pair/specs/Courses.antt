-- A flow pass on its way.
use Rattle.std.specs.Prelude.{◌≡◌, ◌<◌, ◌^◌}
use Rattle.hg_defs.specs.Hypergraph.{Hyper}
use Rattle.hg_defs.specs.Partition.{Fits}
use Rattle.hg_defs.specs.Cost.{cost}
use Rattle.flow_pair.specs.declared.pass.Course.{Course}
use Rattle.flow_pair.specs.CutNets.{AreCutLists}

-- the partition fits, its cost is known, and so are its cut nets
pub record IsOnCourse (h : Hyper) (c : Course) : Type 0 where
  pub belongs : c.part.hyper ≡ h
  pub fits : Fits h c.part.k c.part.limit c.part.blocks
  pub cost_is : c.cost ≡ cost h c.part.blocks
  pub small : c.cost < 2 ^ 57
  pub cut_is : AreCutLists h c.part.k c.part.blocks c.cut
  pub solver_is : c.solver ≡ h
