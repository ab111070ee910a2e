use Rattle.hg_defs.proofs.SynchronousLaws.{unsettled-lower, settled-same, sync-no_dearer, sync-partition, sync-obeys, sync-fits}
use Rattle.hg_defs.proofs.laws.partition_after_synchronous_round.Goals as goal

pub returns-clause-cheaper : goal.returns-clause-cheaper
returns-clause-cheaper c = unsettled-lower

pub returns-clause-same : goal.returns-clause-same
returns-clause-same c = settled-same

pub returns-clause-no_dearer : goal.returns-clause-no_dearer
returns-clause-no_dearer c = sync-no_dearer

pub returns-clause-partition : goal.returns-clause-partition
returns-clause-partition c = sync-partition

pub returns-clause-fixes : goal.returns-clause-fixes
returns-clause-fixes c = sync-obeys

pub returns-clause-within : goal.returns-clause-within
returns-clause-within c = sync-fits
