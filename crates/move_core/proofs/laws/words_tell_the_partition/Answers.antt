-- The law, from the lemmas on books at rest.
use Rattle.move_core.proofs.RestedLaws.{is_partition, told, closing_fits}
use Rattle.move_core.proofs.laws.words_tell_the_partition.Goals as goal

pub returns-clause-partition : goal.returns-clause-partition
returns-clause-partition c = λ g r accounts rest. is_partition g r accounts rest

pub returns-clause-words : goal.returns-clause-words
returns-clause-words c = λ g r accounts rest. told g r accounts rest

pub returns-clause-fits : goal.returns-clause-fits
returns-clause-fits c = λ g r accounts rest. closing_fits g r accounts rest
