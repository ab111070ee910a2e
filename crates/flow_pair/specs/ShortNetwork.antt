-- The network that the solver makes of a region of two blocks: a short form of the region's flow network. What is outside the region stands for one
-- end of a net at most in each block, a net of two ends is an arc between them, and a net that is cut whatever the region does is a part of a fixed cost.
-- Of four vertices in a row in the blocks a, a, b, b with nets of weights 1, 5, 1 between neighbours and the middle two as region, nodes 2 and 3, it has
-- the arcs 0 to 2 of 1, 2 to 3 of 5, 3 to 2 of 5 and 3 to 1 of 1.
use Rattle.std.specs.Prelude.{ℕ, ◌+◌, List, [], ◌∷◌, ◌++◌, length, filter, replicate, Bool, true, false, ◌&&◌, nat_eq, nat_lt, if◌then◌else◌}
use Rattle.std.specs.List.{list_any, position_or_len}
use Rattle.std.specs.Set.{is_member}
use Rattle.hg_defs.specs.Sums.{total}
use Rattle.hg_defs.specs.Hypergraph.{Net, Hyper}
use Rattle.flow_net.specs.declared.network.Arc.{Arc}
use Rattle.flow_net.specs.Flow.{FlowNetwork}
use Rattle.flow_pair.specs.PairNetwork.{source_node, sink_node, has_pin_outside, unbounded, net_price, joined_nets}

-- the nodes of those pins that are in the region
abbrev pub inner_nodes : List ℕ → List ℕ → List ℕ
inner_nodes region [] = []
inner_nodes region (v ∷ pins) =
    let place = position_or_len (nat_eq v) region in
    let later = inner_nodes region pins in
    if nat_lt place (length region) then (2 + place) ∷ later else later

-- an arc from a node to each of some others, and from each of them to the node
abbrev pub arcs_to_each : ℕ → ℕ → List ℕ → List Arc
arcs_to_each cap at [] = []
arcs_to_each cap at (n ∷ nodes) = record { from = at; to = n; cap = cap } ∷ arcs_to_each cap at nodes

abbrev pub arcs_from_each : ℕ → ℕ → List ℕ → List Arc
arcs_from_each cap at [] = []
arcs_from_each cap at (n ∷ nodes) = record { from = n; to = at; cap = cap } ∷ arcs_from_each cap at nodes

-- the arcs of a net with these nodes in the region and a pin outside of it in the first block, in the second one, in neither: two ends are joined,
-- and more of them by the node at, or by it and the next one, past which the price flows
abbrev pub source_arcs : ℕ → ℕ → ℕ → List ℕ → List Arc
source_arcs most price at [] = []
source_arcs most price at (n ∷ []) = record { from = source_node; to = n; cap = price } ∷ []
source_arcs most price at (m ∷ n ∷ nodes) = record { from = source_node; to = at; cap = price } ∷ arcs_to_each most at (m ∷ n ∷ nodes)

abbrev pub sink_arcs : ℕ → ℕ → ℕ → List ℕ → List Arc
sink_arcs most price at [] = []
sink_arcs most price at (n ∷ []) = record { from = n; to = sink_node; cap = price } ∷ []
sink_arcs most price at (m ∷ n ∷ nodes) = record { from = at; to = sink_node; cap = price } ∷ arcs_from_each most at (m ∷ n ∷ nodes)

abbrev pub inner_arcs : ℕ → ℕ → ℕ → List ℕ → List Arc
inner_arcs most price at [] = []
inner_arcs most price at (n ∷ []) = []
inner_arcs most price at (m ∷ n ∷ []) = record { from = m; to = n; cap = price } ∷ record { from = n; to = m; cap = price } ∷ []
inner_arcs most price at (l ∷ m ∷ n ∷ nodes) =
    record { from = at; to = at + 1; cap = price } ∷ (arcs_from_each most at (l ∷ m ∷ n ∷ nodes) ++ arcs_to_each most (at + 1) (l ∷ m ∷ n ∷ nodes))

-- the arcs of a net, by whether it has pins outside in the first block and in the second one: with both it is cut anyway
abbrev pub end_arcs : Bool → Bool → ℕ → ℕ → ℕ → List ℕ → List Arc
end_arcs true true most price at nodes = []
end_arcs true false most price at nodes = source_arcs most price at nodes
end_arcs false true most price at nodes = sink_arcs most price at nodes
end_arcs false false most price at nodes = inner_arcs most price at nodes

-- how many nodes of its own it has
abbrev pub outer_count : List ℕ → ℕ
outer_count [] = 0
outer_count (n ∷ []) = 0
outer_count (m ∷ n ∷ nodes) = 1

abbrev pub inner_count : List ℕ → ℕ
inner_count [] = 0
inner_count (n ∷ []) = 0
inner_count (m ∷ n ∷ []) = 0
inner_count (l ∷ m ∷ n ∷ nodes) = 2

abbrev pub end_count : Bool → Bool → List ℕ → ℕ
end_count true true nodes = 0
end_count true false nodes = outer_count nodes
end_count false true nodes = outer_count nodes
end_count false false nodes = inner_count nodes

-- the same of a net of the hypergraph
abbrev pub short_arcs : Hyper → List ℕ → ℕ → ℕ → List ℕ → ℕ → Net → List Arc
short_arcs h p a b region at e =
    end_arcs (has_pin_outside p region e a) (has_pin_outside p region e b) (unbounded h) (net_price h p a b e) at (inner_nodes region e.pins)

abbrev pub short_count : List ℕ → ℕ → ℕ → List ℕ → Net → ℕ
short_count p a b region e = end_count (has_pin_outside p region e a) (has_pin_outside p region e b) (inner_nodes region e.pins)

-- the arcs of a list of nets, net by net
abbrev pub all_short_arcs : Hyper → List ℕ → ℕ → ℕ → List ℕ → ℕ → List Net → List Arc
all_short_arcs h p a b region at [] = []
all_short_arcs h p a b region at (e ∷ nets) = short_arcs h p a b region at e ++ all_short_arcs h p a b region (at + short_count p a b region e) nets

-- the nets with a pin in the region; the others that join have no arcs
abbrev pub inside_nets : Hyper → List ℕ → List Net
inside_nets h region = filter (λ e. list_any (is_member nat_eq region) e.pins) h.nets

-- what a net pays in every assignment, and what all pay
abbrev pub fixed_price : Hyper → List ℕ → ℕ → ℕ → List ℕ → Net → ℕ
fixed_price h p a b region e = if has_pin_outside p region e a && has_pin_outside p region e b then net_price h p a b e else 0

abbrev pub fixed_cost : Hyper → List ℕ → ℕ → ℕ → List ℕ → ℕ
fixed_cost h p a b region = total (fixed_price h p a b region) (joined_nets h p a b region)

-- the network: the source, the sink, the region's vertices in their order, and the nodes of the nets
abbrev pub short_network : Hyper → List ℕ → ℕ → ℕ → List ℕ → FlowNetwork
short_network h p a b region =
    let nets = joined_nets h p a b region in
    let arcs = all_short_arcs h p a b region (2 + length region) nets in
    record { nodes = 2 + length region + total (short_count p a b region) nets; arcs = arcs; flows = replicate (length arcs) 0 }
