use Rattle.flow_net.specs.Residual.{AreLinked}
use Rattle.flow_net.proofs.layout.link.Given as goal

abbrev pub invariant-loop-half : goal.invariant-loop-half
invariant-loop-half l = AreLinked l.heads l.nexts l.firsts l.half
