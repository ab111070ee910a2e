use Rattle.hg_defs.proofs.SetLaws.{set_rises, set_has_members, only_set_has_members}
use Rattle.hg_defs.proofs.laws.set_of_numbers.Goals as goal

pub returns-clause-rising : goal.returns-clause-rising
returns-clause-rising c = set_rises

pub returns-clause-members : goal.returns-clause-members
returns-clause-members c = set_has_members

pub returns-clause-only : goal.returns-clause-only
returns-clause-only c = only_set_has_members
