use Rattle.hg_defs.proofs.ContractionLaws.{cost_kept, loads_kept, fitting_projected, fitting_lifted}
use Rattle.hg_defs.proofs.ContractionLaws.{partition_projected, partition_lifted, fixes_projected, fixes_lifted}
use Rattle.hg_defs.proofs.laws.projection_of_partition.Goals as goal

pub returns-clause-cost : goal.returns-clause-cost
returns-clause-cost c = cost_kept

pub returns-clause-loads : goal.returns-clause-loads
returns-clause-loads c = loads_kept

pub returns-clause-fits : goal.returns-clause-fits
returns-clause-fits c = fitting_projected

pub returns-clause-fitted : goal.returns-clause-fitted
returns-clause-fitted c = fitting_lifted

pub returns-clause-partition : goal.returns-clause-partition
returns-clause-partition c = partition_projected

pub returns-clause-lifted : goal.returns-clause-lifted
returns-clause-lifted c = partition_lifted

pub returns-clause-obeys : goal.returns-clause-obeys
returns-clause-obeys c = fixes_projected

pub returns-clause-obeyed : goal.returns-clause-obeyed
returns-clause-obeyed c = fixes_lifted
