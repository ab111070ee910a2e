use Rattle.std.proofs.Common.{◌≡◌, ◌++◌, ◌&&◌, not, nat_eq, take, drop}
use Rattle.std.specs.List.{list_any}
use Rattle.std.specs.Set.{is_member}
use Rattle.hg_defs.specs.Partition.{block_of}
use Rattle.flow_pair.specs.ShortNetwork.{inner_nodes}
use Rattle.flow_pair.proofs.notes.note_pins.Given as goal

abbrev pub invariant-loop-v : goal.invariant-loop-v
invariant-loop-v l = record {
  nodes : l.nodes.items ++ inner_nodes l.pair.region.now (drop l.v-index l.pins) ≡ l.initial.nodes.items ++ inner_nodes l.pair.region.now l.pins;
  first : l.outside.0 ≡ list_any (λ v. nat_eq (block_of l.pair.blocks.now v) l.pair.first && not (is_member nat_eq l.pair.region.now v))
      (take l.v-index l.pins);
  second : l.outside.1 ≡ list_any (λ v. nat_eq (block_of l.pair.blocks.now v) l.pair.second && not (is_member nat_eq l.pair.region.now v))
      (take l.v-index l.pins);
}
