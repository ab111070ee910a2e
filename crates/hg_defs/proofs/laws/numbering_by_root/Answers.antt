use Rattle.hg_defs.proofs.NumberingLaws.{numbers_tell_roots, numbers_rise, numbers_are_as_many, number_counts_roots}
use Rattle.hg_defs.proofs.NumberingLaws.{numbers_are_clustering, numbering_keeps_together, numbering_keeps_singles}
use Rattle.hg_defs.proofs.laws.numbering_by_root.Goals as goal

pub returns-clause-told : goal.returns-clause-told
returns-clause-told c = numbers_tell_roots

pub returns-clause-rising : goal.returns-clause-rising
returns-clause-rising c = numbers_rise

pub returns-clause-count : goal.returns-clause-count
returns-clause-count c = numbers_are_as_many

pub returns-clause-number : goal.returns-clause-number
returns-clause-number c = number_counts_roots

pub returns-clause-clustering : goal.returns-clause-clustering
returns-clause-clustering c = numbers_are_clustering

pub returns-clause-together : goal.returns-clause-together
returns-clause-together c = numbering_keeps_together

pub returns-clause-singles : goal.returns-clause-singles
returns-clause-singles c = numbering_keeps_singles
