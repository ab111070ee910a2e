use Rattle.round_log.proofs.PassLaws.{pass-partition, pass-obeys, pass-fits, pass-no_dearer}
use Rattle.round_log.proofs.laws.partition_after_pass.Goals as goal

pub returns-clause-partition : goal.returns-clause-partition
returns-clause-partition c = pass-partition

pub returns-clause-fixes : goal.returns-clause-fixes
returns-clause-fixes c = pass-obeys

pub returns-clause-within : goal.returns-clause-within
returns-clause-within c = pass-fits

pub returns-clause-no_dearer : goal.returns-clause-no_dearer
returns-clause-no_dearer c = pass-no_dearer
