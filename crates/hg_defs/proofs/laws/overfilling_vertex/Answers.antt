use Rattle.hg_defs.proofs.PlacementLaws.{overfilling_is_first, none_overfills, one_overfills}
use Rattle.hg_defs.proofs.laws.overfilling_vertex.Goals as goal

pub returns-clause-first : goal.returns-clause-first
returns-clause-first c = overfilling_is_first

pub returns-clause-none : goal.returns-clause-none
returns-clause-none c = none_overfills

pub returns-clause-one : goal.returns-clause-one
returns-clause-one c = one_overfills
