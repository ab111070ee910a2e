use Rattle.hg_defs.proofs.PlacementLaws.{least_loaded-partition, least_loaded-obeys, least_loaded-in_turn, only_least_loaded-in_turn, least_is}
use Rattle.hg_defs.proofs.laws.least_loaded_placement.Goals as goal

pub returns-clause-partition : goal.returns-clause-partition
returns-clause-partition c = least_loaded-partition

pub returns-clause-fixes : goal.returns-clause-fixes
returns-clause-fixes c = least_loaded-obeys

pub returns-clause-in_turn : goal.returns-clause-in_turn
returns-clause-in_turn c = least_loaded-in_turn

pub returns-clause-only : goal.returns-clause-only
returns-clause-only c = only_least_loaded-in_turn

pub returns-clause-least : goal.returns-clause-least
returns-clause-least c = least_is
