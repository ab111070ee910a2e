-- The lists so far were added.
use Rattle.std.proofs.Common.{◌≡◌, take}
use Rattle.contract_nets.specs.Nets.{all_nets}
use Rattle.contract_nets.proofs.merging.add_nets.Given as goal

abbrev pub invariant-loop-k : goal.invariant-loop-k
invariant-loop-k l = l.coarse ≡ record l.fn.coarse { nets = all_nets (take l.k l.lists) }
