use Rattle.hg_defs.proofs.PlacementLaws.{heaviest_first-lists_free, heaviest_go_first, greedy-partition, greedy-obeys, greedy-fits, greedy-does_not_fit}
use Rattle.hg_defs.proofs.laws.greedy_placement.Goals as goal

pub returns-clause-listed : goal.returns-clause-listed
returns-clause-listed c = heaviest_first-lists_free

pub returns-clause-heaviest : goal.returns-clause-heaviest
returns-clause-heaviest c = heaviest_go_first

pub returns-clause-partition : goal.returns-clause-partition
returns-clause-partition c = greedy-partition

pub returns-clause-fixes : goal.returns-clause-fixes
returns-clause-fixes c = greedy-obeys

pub returns-clause-fits : goal.returns-clause-fits
returns-clause-fits c = greedy-fits

pub returns-clause-overfilled : goal.returns-clause-overfilled
returns-clause-overfilled c = greedy-does_not_fit
