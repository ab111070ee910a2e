use Rattle.std.proofs.Common.{◌≡◌, take}
use Rattle.hg_defs.specs.Sums.{total}
use Rattle.hg_defs.specs.Partition.{block_of}
use Rattle.pin_plain.specs.Savings.{net_most, net_lost}
use Rattle.pin_plain.proofs.gains.most_and_lost.Given as goal

abbrev pub invariant-loop-e : goal.invariant-loop-e
invariant-loop-e l = record {
  most : l.most ≡ total (net_most l.lent.h.now l.lent.blocks.now (block_of l.lent.blocks.now l.v)) (take l.e-index l.e-items);
  down : l.down ≡ total (net_lost l.lent.h.now l.lent.blocks.now (block_of l.lent.blocks.now l.v)) (take l.e-index l.e-items);
}
