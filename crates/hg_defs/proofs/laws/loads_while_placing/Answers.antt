use Rattle.hg_defs.proofs.PlacementLaws.{loads_are_kept, all_weights_are_placed}
use Rattle.hg_defs.proofs.laws.loads_while_placing.Goals as goal

pub returns-clause-kept : goal.returns-clause-kept
returns-clause-kept c = loads_are_kept

pub returns-clause-whole : goal.returns-clause-whole
returns-clause-whole c = all_weights_are_placed
