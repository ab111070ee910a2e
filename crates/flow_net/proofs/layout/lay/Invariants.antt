use Rattle.flow_net.specs.Residual.{AreLaid}
use Rattle.flow_net.proofs.layout.lay.Given as goal

abbrev pub invariant-loop-i : goal.invariant-loop-i
invariant-loop-i l = AreLaid l.arcs l.heads l.rests l.i
