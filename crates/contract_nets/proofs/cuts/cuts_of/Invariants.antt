-- The cuts so far.
use Rattle.std.proofs.Common.{◌-◌, length}
use Rattle.contract_nets.specs.Cuts.{AreCuts}
use Rattle.contract_nets.proofs.cuts.cuts_of.Given as goal

abbrev pub invariant-parts : goal.invariant-parts
invariant-parts l = AreCuts l.nets l.keys l.end l.cuts.items

abbrev pub decreases-parts : goal.decreases-parts
decreases-parts l = length l.keys - l.end
