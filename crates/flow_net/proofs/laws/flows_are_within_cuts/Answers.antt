use Rattle.flow_net.proofs.CutLaws.{flow_within_cut}
use Rattle.flow_net.proofs.laws.flows_are_within_cuts.Goals as goal

pub returns : goal.returns
returns c = flow_within_cut
