-- Lists of events: whether each is enabled at its turn, and the state that they lead to.
use Rattle.std.specs.Prelude.{◌≡◌, ◌<◌, length, take, slice_index_or, false, ℕ, List, [], ◌∷◌, Bool, true, ◌&&◌}
use Rattle.move_core.specs.declared.events.Event.{Event}
use Rattle.move_core.specs.declared.runs.RunEnd.{RunEnd}
use Rattle.move_core.specs.declared.runs.RunEnd.TheVariants.{NotEnabled, NoMemory}
use Rattle.move_core.specs.State.{State}
use Rattle.move_core.specs.Events.{is_enabled, found_of, state_after}

-- the event is enabled in s, finds this number in its word, and leads to t
pub record Leads (s : State) (x : Event) (f : ℕ) (t : State) : Type 0 where
  pub enabled : is_enabled s x ≡ true
  pub found : f ≡ found_of s x
  pub state : t ≡ state_after s x

-- the state after the events, one after the other
abbrev pub run_of : State → List Event → State
run_of s [] = s
run_of s (x ∷ xs) = run_of (state_after s x) xs

-- each event is enabled at its turn
abbrev pub all_enabled : State → List Event → Bool
all_enabled s [] = true
all_enabled s (x ∷ xs) = is_enabled s x && all_enabled (state_after s x) xs

-- what each event finds in its word
abbrev pub found_in : State → List Event → List ℕ
found_in s [] = []
found_in s (x ∷ xs) = found_of s x ∷ found_in (state_after s x) xs

-- the event at a place is the first that isn't enabled at its turn
pub record IsFirstDisabled (s : State) (xs : List Event) (at : ℕ) : Type 0 where
  pub place : at < length xs
  pub before : all_enabled s (take at xs) ≡ true
  pub event : (x : Event) → is_enabled (run_of s (take at xs)) (slice_index_or xs at x) ≡ false

-- why a list of events didn't run to its end; want of memory says nothing
abbrev pub IsStoppedBy : State → List Event → RunEnd → Type 0
IsStoppedBy s xs (NotEnabled at) = IsFirstDisabled s xs at
IsStoppedBy s xs NoMemory = Unit {0}

-- where it left the state: after all events before the one that isn't enabled, or after some first ones
abbrev pub IsLeftAt : State → List Event → RunEnd → State → Type 0
IsLeftAt s xs (NotEnabled at) t = t ≡ run_of s (take at xs)
IsLeftAt s xs NoMemory t = (made : ℕ) × (made < length xs) × (all_enabled s (take made xs) ≡ true) × (t ≡ run_of s (take made xs))
