use Rattle.part_text.proofs.PartLaws.{part_is_read_back}
use Rattle.part_text.proofs.laws.part_is_read_back.Goals as goal

pub returns : goal.returns
returns c = part_is_read_back
