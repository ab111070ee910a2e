-- Parts of the merged nets with the ends of their keys.
use Rattle.std.specs.Prelude.{◌≡◌, ℕ, ◌+◌, List, [], slice_index, slice_range}
use Rattle.hg_defs.specs.Hypergraph.{Hyper}
use Rattle.contract_nets.specs.declared.merging.MergedPart.{MergedPart}
use Rattle.contract_nets.specs.Keys.{Key}
use Rattle.contract_nets.specs.Cuts.{AreEnds, part_of}

-- the nets of the keys between two cuts, merged, and the ends of these keys
pub record IsMergedPart (h : Hyper) (keys : List Key) (cuts : List ℕ) (j : ℕ) (part : MergedPart) : Type 0 where
  pub nets : part.nets ≡ part_of h keys cuts j
  pub ends : AreEnds h (slice_range keys (slice_index cuts j) (slice_index cuts (j + 1))) part.ends.items

-- a part without nets and ends
pub record IsEmptyPart (part : MergedPart) : Type 0 where
  pub nets : part.nets ≡ []
  pub ends : part.ends.items ≡ []
