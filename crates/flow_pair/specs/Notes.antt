-- What the pins of the nets of a region are, noted for runs of the nets.
use Rattle.std.specs.Prelude.{◌≡◌, ◌<◌, ◌≤◌, ◌+◌, ◌*◌, ◌/◌, ◌^◌, ℕ, List, length, slice_index, slice_index_or, slice_range, true}
use Rattle.hg_defs.specs.Hypergraph.{Hyper, Net, net_of}
use Rattle.flow_pair.specs.declared.notes.Note.{Note}
use Rattle.flow_pair.specs.declared.notes.Notes.{Notes}
use Rattle.flow_pair.specs.PairNetwork.{has_pin_outside, net_price}
use Rattle.flow_pair.specs.ShortNetwork.{inner_nodes}

-- a note of a net, whose nodes stand in a list
pub record IsNote (h : Hyper) (p : List ℕ) (a b : ℕ) (region nodes : List ℕ) (e : Net) (n : Note) : Type 0 where
  pub order : n.from ≤ n.to
  pub within : n.to ≤ length nodes
  pub nodes_are : slice_range nodes n.from n.to ≡ inner_nodes region e.pins
  pub first : n.outside.0 ≡ has_pin_outside p region e a
  pub second : n.outside.1 ≡ has_pin_outside p region e b
  pub price_is : n.price ≡ net_price h p a b e
  pub small : n.price < 2 ^ 55

-- a note of each of some nets, in their order
pub record AreNotes (h : Hyper) (p : List ℕ) (a b : ℕ) (region nets nodes : List ℕ) (notes : List Note) : Type 0 where
  pub count : length notes ≡ length nets
  pub each : (i : ℕ) (d : Note) → i < length nets → IsNote h p a b region nodes (net_of h (slice_index nets i)) (slice_index_or notes i d)

-- run i of a list that is cut into so many runs
abbrev pub run_of : List ℕ → ℕ → ℕ → List ℕ
run_of nets runs i = slice_range nets (length nets * i / runs) (length nets * (i + 1) / runs)

-- the nets of a run were noted, unless there was no memory
abbrev pub IsNotedRun : Hyper → List ℕ → ℕ → ℕ → List ℕ → List ℕ → ℕ → ℕ → Notes → Type 0
IsNotedRun h p a b region nets runs i run = run.whole ≡ true → AreNotes h p a b region (run_of nets runs i) run.nodes.items run.nets.items
