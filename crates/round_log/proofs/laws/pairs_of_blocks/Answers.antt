use Rattle.round_log.proofs.PairLaws.{pairs_are_of_blocks, pairs_rise, pairs_are_half}
use Rattle.round_log.proofs.laws.pairs_of_blocks.Goals as goal

pub returns-clause-blocks : goal.returns-clause-blocks
returns-clause-blocks c = pairs_are_of_blocks

pub returns-clause-rising : goal.returns-clause-rising
returns-clause-rising c = pairs_rise

pub returns-clause-half : goal.returns-clause-half
returns-clause-half c = pairs_are_half
