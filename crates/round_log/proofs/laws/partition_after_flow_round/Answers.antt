use Rattle.round_log.proofs.FlowLaws.{flow-partition, flow-obeys, flow-no_dearer, region-free}
use Rattle.round_log.proofs.laws.partition_after_flow_round.Goals as goal

pub returns-clause-partition : goal.returns-clause-partition
returns-clause-partition c = flow-partition

pub returns-clause-fixes : goal.returns-clause-fixes
returns-clause-fixes c = flow-obeys

pub returns-clause-no_dearer : goal.returns-clause-no_dearer
returns-clause-no_dearer c = flow-no_dearer

pub returns-clause-region : goal.returns-clause-region
returns-clause-region c = region-free
