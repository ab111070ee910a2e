use Rattle.std.proofs.Common.{map}
use Rattle.flow_round.specs.Waves.{AreTouched}
use Rattle.flow_round.proofs.touched.touched_pairs.Given as goal

abbrev pub invariant-loop-first : goal.invariant-loop-first
invariant-loop-first l = AreTouched l.h l.p l.wave l.first (map (λ pair. pair.1) l.pairs.items)
