-- Flow networks: arcs with capacities, a flow for each arc, and cuts.
use Rattle.std.specs.Prelude.{◌≡◌, ◌≢◌, ℕ, ◌+◌, ◌≤◌, ◌<◌, ◌^◌, List, length, All, Bool, true, false, not}
use Rattle.std.specs.Prelude.{◌&&◌, slice_index, slice_index_or, nat_eq, if◌then◌else◌}
use Rattle.hg_defs.specs.Sums.{sum_below}
use Rattle.flow_net.specs.declared.network.Arc.{Arc}

-- how many nodes there are, the arcs, and a flow for each arc
pub record FlowNetwork : Type 0 where
  pub nodes : ℕ
  pub arcs : List Arc
  pub flows : List ℕ

-- the arc of a number
abbrev pub arc_at : List Arc → ℕ → Arc
arc_at arcs i = slice_index_or arcs i (record { from = 0; to = 0; cap = 0 })

-- the flow that leaves a node, and the flow that enters it
abbrev pub leaving : List Arc → List ℕ → ℕ → ℕ
leaving arcs flows v = sum_below (λ i. if nat_eq (arc_at arcs i).from v then slice_index flows i else 0) (length arcs)

abbrev pub entering : List Arc → List ℕ → ℕ → ℕ
entering arcs flows v = sum_below (λ i. if nat_eq (arc_at arcs i).to v then slice_index flows i else 0) (length arcs)

-- whether a node is on a side
abbrev pub is_in : List Bool → ℕ → Bool
is_in side v = slice_index_or side v false

-- the capacity of the arcs that leave a side
abbrev pub cut_capacity : List Arc → List Bool → ℕ
cut_capacity arcs side =
    sum_below (λ i. if is_in side (arc_at arcs i).from && not (is_in side (arc_at arcs i).to) then (arc_at arcs i).cap else 0) (length arcs)

-- the arcs join nodes, and the numbers are within the limits under which no sum passes 128 bits
pub record IsNetwork (network : FlowNetwork) : Type 0 where
  pub few : network.nodes ≤ 2 ^ 26
  pub arcs : length network.arcs ≤ 2 ^ 28
  pub flows : length network.flows ≡ length network.arcs
  pub joined : All (λ arc. (arc.from < network.nodes) × (arc.to < network.nodes) × (arc.cap ≤ 2 ^ 62)) network.arcs

-- no arc has more flow than capacity, and as much flow leaves as enters each node but for the source and the sink
pub record IsFlow (network : FlowNetwork) (source sink : ℕ) : Type 0 where
  pub within : (i : ℕ) → i < length network.arcs → slice_index network.flows i ≤ (arc_at network.arcs i).cap
  pub balanced : (v : ℕ) → v < network.nodes → v ≢ source → v ≢ sink → leaving network.arcs network.flows v ≡ entering network.arcs network.flows v

-- the side holds the source and not the sink, and the flow fills just the arcs that leave it
pub record IsFilledCut (network : FlowNetwork) (source sink value : ℕ) (side : List Bool) : Type 0 where
  pub long : length side ≡ network.nodes
  pub holds_source : is_in side source ≡ true
  pub lacks_sink : is_in side sink ≡ false
  pub flow : leaving network.arcs network.flows source ≡ entering network.arcs network.flows source + value
  pub capacity : cut_capacity network.arcs side ≡ value
