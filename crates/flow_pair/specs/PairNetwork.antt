-- The flow network of a region of two blocks: its cuts are the assignments of the region, and cost what the nets pay for touching both blocks.
use Rattle.std.specs.Prelude.{◌≡◌, ◌⊎◌, ℕ, ◌+◌, ◌*◌, ◌<◌, List, [], ◌∷◌, ◌++◌, length, slice_index, filter, replicate, All}
use Rattle.std.specs.Prelude.{Bool, not, ◌&&◌, ◌||◌, nat_eq, nat_lt, if◌then◌else◌}
use Rattle.std.specs.List.{list_any, position_or_len}
use Rattle.std.specs.Set.{is_member}
use Rattle.flow_net.specs.declared.network.Arc.{Arc}
use Rattle.flow_net.specs.Flow.{FlowNetwork}
use Rattle.hg_defs.specs.Hypergraph.{Net, Hyper, total_net_weight}
use Rattle.hg_defs.specs.Partition.{block_of}
use Rattle.round_log.specs.Rounds.{leaves, pair_price}

-- the nodes of all vertices of a block outside the region: one is the source, the other the sink
abbrev pub source_node : ℕ
source_node = 0

abbrev pub sink_node : ℕ
sink_node = 1

-- the node of a vertex of one of the blocks: its place in the region and 2, and outside the region that of its block
abbrev pub node_of : List ℕ → ℕ → List ℕ → ℕ → ℕ
node_of p a region v =
    let place = position_or_len (nat_eq v) region in
    if nat_lt place (length region) then 2 + place else (if nat_eq (block_of p v) a then source_node else sink_node)

-- a net with a pin in a block outside of the region
abbrev pub has_pin_outside : List ℕ → List ℕ → Net → ℕ → Bool
has_pin_outside p region e b = list_any (λ v. nat_eq (block_of p v) b && not (is_member nat_eq region v)) e.pins

-- the nets with a pin in the region, or with pins outside of it in both blocks
abbrev pub joins : List ℕ → ℕ → ℕ → List ℕ → Net → Bool
joins p a b region e = list_any (is_member nat_eq region) e.pins || (has_pin_outside p region e a && has_pin_outside p region e b)

-- whether some of the pins are in neither block
abbrev pub leaves_pair : List ℕ → ℕ → ℕ → List ℕ → Bool
leaves_pair p a b pins = list_any (λ v. not (nat_eq (block_of p v) a) && not (nat_eq (block_of p v) b)) pins

-- more than all nets pay together
abbrev pub unbounded : Hyper → ℕ
unbounded h = 2 * total_net_weight h + 1

-- what a net pays for touching both blocks
abbrev pub net_price : Hyper → List ℕ → ℕ → ℕ → Net → ℕ
net_price h p a b e = pair_price h.objective (leaves p a b e) e.weight

-- the arcs between the nodes of the pins in the two blocks and the two nodes of their net
abbrev pub pin_arcs : Hyper → List ℕ → ℕ → ℕ → List ℕ → ℕ → List ℕ → List Arc
pin_arcs h p a b region at [] = []
pin_arcs h p a b region at (v ∷ pins) =
    let later = pin_arcs h p a b region at pins in
    let node = node_of p a region v in
    if nat_eq (block_of p v) a || nat_eq (block_of p v) b
    then (record { from = node; to = at; cap = unbounded h } ∷ record { from = at + 1; to = node; cap = unbounded h } ∷ later)
    else later

-- the arcs of a net whose nodes are at and the next one: what it pays, and then the arcs of its pins
abbrev pub net_arcs : Hyper → List ℕ → ℕ → ℕ → List ℕ → ℕ → Net → List Arc
net_arcs h p a b region at e = record { from = at; to = at + 1; cap = net_price h p a b e } ∷ pin_arcs h p a b region at e.pins

-- the arcs of a list of nets, net by net
abbrev pub nets_arcs : Hyper → List ℕ → ℕ → ℕ → List ℕ → ℕ → List Net → List Arc
nets_arcs h p a b region at [] = []
nets_arcs h p a b region at (e ∷ nets) = net_arcs h p a b region at e ++ nets_arcs h p a b region (at + 2) nets

abbrev pub joined_nets : Hyper → List ℕ → ℕ → ℕ → List ℕ → List Net
joined_nets h p a b region = filter (joins p a b region) h.nets

-- the network: the source, the sink, the region's vertices in their order, and two nodes for each net
abbrev pub pair_network : Hyper → List ℕ → ℕ → ℕ → List ℕ → FlowNetwork
pair_network h p a b region =
    let nets = joined_nets h p a b region in
    let arcs = nets_arcs h p a b region (2 + length region) nets in
    record { nodes = 2 + length region + 2 * length nets; arcs = arcs; flows = replicate (length arcs) 0 }

-- the vertices are in one of the two blocks
abbrev pub AreOfPair : List ℕ → ℕ → ℕ → List ℕ → Type 0
AreOfPair p a b vs = All (λ v. (block_of p v ≡ a) ⊎ (block_of p v ≡ b)) vs

-- each vertex of a region has its place in it
abbrev pub ArePlaces : List ℕ → List ℕ → Type 0
ArePlaces region places = (i : ℕ) → i < length region → slice_index places (slice_index region i) ≡ i

-- a network after it got more nodes and arcs, all without flow
pub record Extends (old new : FlowNetwork) (nodes : ℕ) (arcs : List Arc) : Type 0 where
  pub more_nodes : new.nodes ≡ old.nodes + nodes
  pub more_arcs : new.arcs ≡ old.arcs ++ arcs
  pub idle : new.flows ≡ replicate (length new.arcs) 0

-- no flow yet
abbrev pub IsIdle : FlowNetwork → Type 0
IsIdle network = network.flows ≡ replicate (length network.arcs) 0
