-- What holds of each flow and each cut between the same two nodes.
use Rattle.std.specs.Prelude.{◌≡◌, ℕ, ◌+◌, ◌<◌, ◌≤◌, List, Bool, true, false}
use Rattle.flow_net.specs.Flow.{FlowNetwork, leaving, entering, is_in, cut_capacity, IsNetwork, IsFlow}

-- no more flows from the source than the arcs may take that leave a side with the source and without the sink
abbrev pub FlowsAreWithinCuts : Type 0
FlowsAreWithinCuts =
    (network : FlowNetwork) (source sink : ℕ) (side : List Bool)
    → IsNetwork network → source < network.nodes → IsFlow network source sink → is_in side source ≡ true → is_in side sink ≡ false
    → leaving network.arcs network.flows source ≤ entering network.arcs network.flows source + cut_capacity network.arcs side
