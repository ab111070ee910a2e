use Rattle.std.proofs.Common.{ℕ, ◌<◌, [], All, Contains, take, slice_index_or}
use Rattle.hg_defs.specs.Partition.{block_of}
use Rattle.flow_pair.specs.CutNets.{KeepNets}
use Rattle.flow_pair.proofs.cut_lists.note_all.Given as goal

abbrev pub invariant-loop-v : goal.invariant-loop-v
invariant-loop-v l = record {
  kept : (m : ℕ) → l.e < m → KeepNets m l.initial.lists.items l.lists.items;
  noted : All (λ v. Contains (slice_index_or l.lists.items (block_of l.blocks v) []) l.e) (take l.v-index l.pins);
}
