-- Lists of events: whether each is enabled at its turn, and the state that they lead to.
use Rattle.std.specs.Prelude.{◌≡◌, ◌<◌, length, take, slice_index_or, false, ℕ, List, [], ◌∷◌, Bool, true, ◌&&◌}
use Rattle.cluster_core.specs.declared.events.ClusterEvent.{ClusterEvent}
use Rattle.cluster_core.specs.declared.runs.RunEnd.{RunEnd}
use Rattle.cluster_core.specs.declared.runs.RunEnd.TheVariants.{NotEnabled, NoMemory}
use Rattle.cluster_core.specs.State.{Setup, State}
use Rattle.cluster_core.specs.Events.{is_enabled, found_of, after}

-- the event is enabled in s, finds this number in its word, and leads to t
pub record Leads (g : Setup) (s : State) (x : ClusterEvent) (f : ℕ) (t : State) : Type 0 where
  pub enabled : is_enabled g s.accounts x ≡ true
  pub found : f ≡ found_of s x
  pub state : t ≡ after g s x

-- the state after the events, one after the other
abbrev pub run_of : Setup → State → List ClusterEvent → State
run_of g s [] = s
run_of g s (x ∷ xs) = run_of g (after g s x) xs

-- each event is enabled at its turn
abbrev pub all_enabled : Setup → State → List ClusterEvent → Bool
all_enabled g s [] = true
all_enabled g s (x ∷ xs) = is_enabled g s.accounts x && all_enabled g (after g s x) xs

-- what each event finds in its word
abbrev pub found_in : Setup → State → List ClusterEvent → List ℕ
found_in g s [] = []
found_in g s (x ∷ xs) = found_of s x ∷ found_in g (after g s x) xs

-- the event at a place is the first that isn't enabled at its turn
pub record IsFirstDisabled (g : Setup) (s : State) (xs : List ClusterEvent) (at : ℕ) : Type 0 where
  pub place : at < length xs
  pub before : all_enabled g s (take at xs) ≡ true
  pub event : (x : ClusterEvent) → is_enabled g (run_of g s (take at xs)).accounts (slice_index_or xs at x) ≡ false

-- why a list of events didn't run to its end; want of memory says nothing
abbrev pub IsStoppedBy : Setup → State → List ClusterEvent → RunEnd → Type 0
IsStoppedBy g s xs (NotEnabled at) = IsFirstDisabled g s xs at
IsStoppedBy g s xs NoMemory = Unit {0}
