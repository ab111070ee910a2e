use Rattle.std.proofs.Common.{ℕ, ◌<◌}
use Rattle.fm_search.specs.Possible.{MayGo}
use Rattle.fm_search.proofs.possible.lowest.Given as goal

abbrev pub invariant-targets : goal.invariant-targets
invariant-targets l = (c : ℕ) → c < l.b → MayGo l.h l.p.k l.p.limit l.p.blocks l.v c → ⊥
