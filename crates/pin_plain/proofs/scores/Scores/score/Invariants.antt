use Rattle.std.proofs.Common.{◌≡◌, ◌≢◌, ℕ, take, slice_index}
use Rattle.hg_defs.specs.Sums.{total}
use Rattle.hg_defs.specs.Partition.{block_of}
use Rattle.pin_plain.specs.Savings.{net_saved, net_lost}
use Rattle.pin_plain.proofs.scores.Scores.score.Given as goal

abbrev pub invariant-loop-e : goal.invariant-loop-e
invariant-loop-e l = record {
  lost : l.loss ≡ total (net_lost l.lent.h.now l.lent.blocks.now (block_of l.lent.blocks.now l.v)) (take l.e-index l.e-items);
  sums : (b : ℕ) → b ≢ block_of l.lent.blocks.now l.v → slice_index l.self.sums b ≡ total (net_saved l.lent.h.now l.lent.blocks.now b)
      (take l.e-index l.e-items);
  own : slice_index l.self.sums (block_of l.lent.blocks.now l.v) ≡ 0;
}
