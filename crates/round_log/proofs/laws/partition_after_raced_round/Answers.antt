use Rattle.round_log.proofs.RoundLaws.{raced-partition, raced-obeys, raced-fits, raced-no_dearer, raced-kept_best, raced-cheapest}
use Rattle.round_log.proofs.laws.partition_after_raced_round.Goals as goal

pub returns-clause-partition : goal.returns-clause-partition
returns-clause-partition c = raced-partition

pub returns-clause-fixes : goal.returns-clause-fixes
returns-clause-fixes c = raced-obeys

pub returns-clause-within : goal.returns-clause-within
returns-clause-within c = raced-fits

pub returns-clause-no_dearer : goal.returns-clause-no_dearer
returns-clause-no_dearer c = raced-no_dearer

pub returns-clause-best : goal.returns-clause-best
returns-clause-best c = raced-kept_best

pub returns-clause-cheapest : goal.returns-clause-cheapest
returns-clause-cheapest c = raced-cheapest
