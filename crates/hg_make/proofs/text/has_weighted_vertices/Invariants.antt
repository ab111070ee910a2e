use Rattle.std.proofs.Common.{◌≡◌, false, take, not, eqb}
use Rattle.std.specs.List.{list_any}
use Rattle.hg_make.proofs.text.has_weighted_vertices.Given as goal

abbrev pub invariant-vertices : goal.invariant-vertices
invariant-vertices l = list_any (λ w. not (eqb w 1)) (take l.v l.h.weights) ≡ false
