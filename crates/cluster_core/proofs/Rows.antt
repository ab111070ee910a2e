-- A worked example of a list of events, closed by computing.
use Rattle.std.specs.Prelude.{◌≡◌, List, [], ◌∷◌, refl, true}
use Rattle.hg_defs.specs.declared.objective.Objective.TheVariants.{Connectivity}
use Rattle.cluster_core.specs.declared.events.ClusterEvent.{ClusterEvent}
use Rattle.cluster_core.specs.declared.events.ClusterEvent.TheVariants.{Take, Root, Add, TakeBack, Follow, Peek}
use Rattle.cluster_core.specs.State.{Setup, opened}
use Rattle.cluster_core.specs.Run.{run_of, all_enabled, found_in}

-- three vertices of weight 1 on a net, with the cap 2
abbrev three : Setup
three = record {
  graph = record {
    weights = 1 ∷ 1 ∷ 1 ∷ [];
    nets = record { weight = 1; pins = 0 ∷ 1 ∷ 2 ∷ [] } ∷ [];
    objective = Connectivity;
    fixes = 256 ∷ 256 ∷ 256 ∷ [];
  };
  cap = 2;
}

-- pass 1 joins vertex 1 to the root 0 that it peeked; then pass 0 finds no room for vertex 2
abbrev joined : List ClusterEvent
joined = Take 0 0 ∷ Root 0 0 ∷ Take 1 1 ∷ Peek 1 0 ∷ Add 1 1 0 ∷ Follow 1 ∷ Take 0 2 ∷ Add 0 2 0 ∷ TakeBack 0 ∷ Root 0 2 ∷ []

joined-enabled : all_enabled three (opened three 2) joined ≡ true
joined-enabled = refl

joined-found : found_in three (opened three 2) joined ≡ 0 ∷ 1 ∷ 0 ∷ 2 ∷ 1 ∷ 1 ∷ 0 ∷ 2 ∷ 3 ∷ 1 ∷ []
joined-found = refl

joined-marks : (run_of three (opened three 2) joined).marks ≡ 2 ∷ 2 ∷ 4 ∷ []
joined-marks = refl

joined-masses : (run_of three (opened three 2) joined).masses ≡ 2 ∷ 1 ∷ 1 ∷ []
joined-masses = refl
