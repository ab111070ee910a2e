use Rattle.std.proofs.Common.{◌+◌, ◌-◌, ◌*◌}
use Rattle.pin_plain.proofs.tallies.+shares.Given as goal

abbrev pub decreases-tally_shares : goal.decreases-tally_shares
decreases-tally_shares g l = 4 * (l.to - l.from)

abbrev pub decreases-beside : goal.decreases-beside
decreases-beside g l = 4 * (l.to - l.from) - 1

abbrev pub decreases-beside-back : goal.decreases-beside-back
decreases-beside-back g l = 4 * (l.to - l.mid) + 1
