use Rattle.part_run.proofs.CompletenessLaws.{runs_end}
use Rattle.part_run.proofs.laws.runs_come_to_their_end.Goals as goal

pub returns : goal.returns
returns c = runs_end
