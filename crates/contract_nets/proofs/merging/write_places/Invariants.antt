-- So many nets were made of the keys so far, which have their places.
use Rattle.std.proofs.Common.{◌≡◌, ℕ, List, length, map}
use Rattle.hg_defs.specs.Hypergraph.{Net}
use Rattle.contract_nets.specs.Keys.{net_of_key}
use Rattle.contract_nets.specs.Merging.{merged}
use Rattle.contract_nets.proofs.MergeLaws.{IsMerging, IsPlacing}
use Rattle.contract_nets.proofs.merging.write_places.Given as goal

abbrev pub invariant-loop-i : goal.invariant-loop-i
invariant-loop-i l =
    (made : List Net) × (weight : ℕ) × IsMerging l.nets.value l.keys l.i made weight × (l.place ≡ length made)
    × IsPlacing l.nets.value l.keys (map (λ e. e.pins) (merged (map (net_of_key l.nets.value) l.keys))) l.i l.places
