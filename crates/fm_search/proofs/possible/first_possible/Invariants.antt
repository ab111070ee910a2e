use Rattle.std.proofs.Common.{ℕ, ◌<◌}
use Rattle.fm_search.specs.Possible.{MayGo}
use Rattle.fm_search.proofs.possible.first_possible.Given as goal

abbrev pub invariant-vertices : goal.invariant-vertices
invariant-vertices l = (u c : ℕ) → u < l.v → MayGo l.h l.p.k l.p.limit l.p.blocks u c → ⊥
