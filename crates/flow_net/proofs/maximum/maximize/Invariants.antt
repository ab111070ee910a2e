use Rattle.std.proofs.Common.{ℕ, ◌<◌, length, slice_index}
use Rattle.flow_net.specs.Residual.{IsRaised, gap}
use Rattle.flow_net.proofs.maximum.maximize.Given as goal

abbrev pub invariant-loop-halves : goal.invariant-loop-halves
invariant-loop-halves l = record {
  entered : (v : ℕ) → v < length l.entries → 0 < length l.halves.heads.now → slice_index l.entries v < length l.halves.heads.now;
  raised : IsRaised l.halves.heads.now l.halves.source l.halves.sink 0 l.initial.rests l.rests;
}

abbrev pub decreases-loop-halves : goal.decreases-loop-halves
decreases-loop-halves l = gap l.halves.heads.now l.rests l.halves.source
