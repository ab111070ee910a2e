-- The cuts so far.
use Rattle.std.proofs.Common.{◌-◌, length}
use Rattle.hmetis_read.specs.Shares.{AreCuts}
use Rattle.hmetis_read.proofs.shares.cuts_of.Given as goal

abbrev pub invariant-parts : goal.invariant-parts
invariant-parts l = AreCuts l.text l.end l.cuts.items

abbrev pub decreases-parts : goal.decreases-parts
decreases-parts l = length l.text - l.end
