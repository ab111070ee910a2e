use Rattle.hg_make.proofs.MadeLaws.{made_is_read_back}
use Rattle.hg_make.proofs.laws.made_is_read_back.Goals as goal

pub returns : goal.returns
returns c = made_is_read_back
