use Rattle.flow_pair.proofs.ApartLaws.{pairs_keep_apart, pairs_save_apart}
use Rattle.flow_pair.proofs.laws.pairs_apart.Goals as goal

pub returns-clause-kept : goal.returns-clause-kept
returns-clause-kept c = pairs_keep_apart

pub returns-clause-saved : goal.returns-clause-saved
returns-clause-saved c = pairs_save_apart
