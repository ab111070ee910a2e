use Rattle.std.proofs.Common.{◌+◌, ◌-◌, ◌*◌}
use Rattle.pin_plain.proofs.costs.+costs.Given as goal

abbrev pub decreases-cost_of_shares : goal.decreases-cost_of_shares
decreases-cost_of_shares g l = 2 * (l.to - l.from)

abbrev pub decreases-others : goal.decreases-others
decreases-others g l = 2 * (l.to - l.mid) + 1
