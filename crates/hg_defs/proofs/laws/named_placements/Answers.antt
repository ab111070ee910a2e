use Rattle.hg_defs.proofs.NamedLaws.{named-partitions, named-obey, cheapest_is_first, only_cheapest_is_first, none_is_cheapest, one_fits}
use Rattle.hg_defs.proofs.laws.named_placements.Goals as goal

pub returns-clause-partitions : goal.returns-clause-partitions
returns-clause-partitions c = named-partitions

pub returns-clause-fixes : goal.returns-clause-fixes
returns-clause-fixes c = named-obey

pub returns-clause-cheapest : goal.returns-clause-cheapest
returns-clause-cheapest c = cheapest_is_first

pub returns-clause-only : goal.returns-clause-only
returns-clause-only c = only_cheapest_is_first

pub returns-clause-none : goal.returns-clause-none
returns-clause-none c = none_is_cheapest

pub returns-clause-greedy : goal.returns-clause-greedy
returns-clause-greedy c = one_fits
