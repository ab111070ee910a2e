use Rattle.std.proofs.Common.{◌≡◌, length}
use Rattle.trace_text.proofs.LoadLemmas.{AreLoads}
use Rattle.trace_text.proofs.loads.sum_loads.Given as goal

abbrev pub invariant-vertices : goal.invariant-vertices
invariant-vertices l =
    (length l.loads ≡ 256) × AreLoads l.loads l.h.weights l.blocks l.v
