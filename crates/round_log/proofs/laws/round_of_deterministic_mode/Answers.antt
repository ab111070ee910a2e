use Rattle.round_log.proofs.SyncLaws.{sync_round-raced, sync_round-lower}
use Rattle.round_log.proofs.laws.round_of_deterministic_mode.Goals as goal

pub returns-clause-raced : goal.returns-clause-raced
returns-clause-raced c = sync_round-raced

pub returns-clause-lower : goal.returns-clause-lower
returns-clause-lower c = sync_round-lower
