use Rattle.round_log.proofs.RoundLaws.{sweeps-partition, sweeps-obeys, sweeps-fits, sweeps-no_dearer, sweeps-cheaper}
use Rattle.round_log.proofs.laws.partition_after_sweeps.Goals as goal

pub returns-clause-partition : goal.returns-clause-partition
returns-clause-partition c = sweeps-partition

pub returns-clause-fixes : goal.returns-clause-fixes
returns-clause-fixes c = sweeps-obeys

pub returns-clause-within : goal.returns-clause-within
returns-clause-within c = sweeps-fits

pub returns-clause-no_dearer : goal.returns-clause-no_dearer
returns-clause-no_dearer c = sweeps-no_dearer

pub returns-clause-cheaper : goal.returns-clause-cheaper
returns-clause-cheaper c = sweeps-cheaper
