use Rattle.std.proofs.Common.{◌≡◌, take}
use Rattle.hg_defs.specs.Sums.{total}
use Rattle.exact_cost.proofs.costs.add_all.Given as goal

abbrev pub invariant-sums : goal.invariant-sums
invariant-sums l = l.all ≡ total (λ s. s) (take l.sum-index l.sums)
