use Rattle.hg_defs.proofs.MoveLaws.{moved-partition, moved-obeys, moved-fits, replay-partition, replay-obeys, replay-fits}
use Rattle.hg_defs.proofs.laws.allowed_moves.Goals as goal

pub returns-clause-partition : goal.returns-clause-partition
returns-clause-partition c = moved-partition

pub returns-clause-fixes : goal.returns-clause-fixes
returns-clause-fixes c = moved-obeys

pub returns-clause-fits : goal.returns-clause-fits
returns-clause-fits c = moved-fits

pub returns-clause-partitions : goal.returns-clause-partitions
returns-clause-partitions c = replay-partition

pub returns-clause-obeyed : goal.returns-clause-obeyed
returns-clause-obeyed c = replay-obeys

pub returns-clause-fitting : goal.returns-clause-fitting
returns-clause-fitting c = replay-fits
