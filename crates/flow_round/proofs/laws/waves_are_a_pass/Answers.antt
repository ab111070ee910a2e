use Rattle.flow_round.proofs.WaveLaws.{waves_pass_order}
use Rattle.flow_round.proofs.laws.waves_are_a_pass.Goals as goal

pub returns : goal.returns
returns c = waves_pass_order
