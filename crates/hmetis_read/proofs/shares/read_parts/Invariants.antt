-- The nets of the parts so far are together.
use Rattle.std.proofs.Common.{◌≡◌}
use Rattle.hmetis_read.specs.Shares.{SpellsNets, with_nets}
use Rattle.hmetis_read.proofs.ShareLaws.{lists_before}
use Rattle.hmetis_read.proofs.shares.read_parts.Given as goal

abbrev pub invariant-loop-j : goal.invariant-loop-j
invariant-loop-j g l = record {
  spells : SpellsNets l.shape (lists_before l.text l.cuts.items l.j) l.hyper.nets l.pins;
  others : l.hyper ≡ with_nets l.shape l.hyper.nets;
}
