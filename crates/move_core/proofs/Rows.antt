-- Worked examples of lists of events, each closed by computing.
use Rattle.std.specs.Prelude.{◌≡◌, ℕ, List, [], ◌∷◌, length, take, map, refl, replicate, ℤ, pos, negsuc, true, false}
use Rattle.hg_defs.specs.declared.objective.Objective.{Objective}
use Rattle.hg_defs.specs.declared.objective.Objective.TheVariants.{Connectivity, ExternalDegree}
use Rattle.move_core.specs.declared.account.Stage.TheVariants.{Idle, Granted}
use Rattle.move_core.specs.declared.events.Event.{Event}
use Rattle.move_core.specs.declared.events.Event.TheVariants.{Claim, Reserve, TakeBack, Draw, Name, Raise, Widen, Lower, Narrow, GiveBack}
use Rattle.move_core.specs.State.{Setup, State, opened}
use Rattle.move_core.specs.Run.{run_of, all_enabled, found_in}

-- two vertices of weight 1 on a net of weight 5, in two blocks with the limit 2
abbrev pair_setup : Objective → List ℕ → Setup
pair_setup o p = record {
  graph = record {
    weights = 1 ∷ 1 ∷ [];
    nets = record { weight = 5; pins = 0 ∷ 1 ∷ [] } ∷ [];
    objective = o;
    fixes = 256 ∷ 256 ∷ [];
  };
  blocks = 2;
  limit = 2;
  opening = p;
}

-- both passes move a vertex to block 1, in turns
abbrev together : List Event
together =
    Claim 0 0 ∷ Claim 1 1 ∷ Reserve 0 0 1 ∷ Reserve 1 1 1 ∷ Draw 0 ∷ Draw 1 ∷ Name 0 ∷ Name 1 ∷ Raise 0 ∷ Widen 0 ∷ Raise 1
    ∷ Lower 0 ∷ Lower 1 ∷ Narrow 1 ∷ GiveBack 0 ∷ GiveBack 1 ∷ []

together-enabled : all_enabled (opened (pair_setup Connectivity (0 ∷ 0 ∷ [])) 2) together ≡ true
together-enabled = refl

together-found : found_in (opened (pair_setup Connectivity (0 ∷ 0 ∷ [])) 2) together
    ≡ 0 ∷ 0 ∷ 0 ∷ 1 ∷ 0 ∷ 1 ∷ 0 ∷ 0 ∷ 0 ∷ 65 ∷ 1 ∷ 2 ∷ 1 ∷ 66 ∷ 2 ∷ 1 ∷ []
together-found = refl

abbrev gains : State → List ℤ
gains s = map (λ a. a.gain) s.accounts

together-gains : gains (run_of (opened (pair_setup Connectivity (0 ∷ 0 ∷ [])) 2) together) ≡ negsuc 4 ∷ pos 5 ∷ []
together-gains = refl

together-loads : (run_of (opened (pair_setup Connectivity (0 ∷ 0 ∷ [])) 2) together).loads ≡ 0 ∷ 2 ∷ []
together-loads = refl

together-degree : gains (run_of (opened (pair_setup ExternalDegree (0 ∷ 0 ∷ [])) 2) together) ≡ negsuc 9 ∷ pos 10 ∷ []
together-degree = refl

-- the passes swap the blocks of two vertices: no net gets a block or loses one
abbrev swap : List Event
swap =
    Claim 0 0 ∷ Claim 1 1 ∷ Reserve 0 0 1 ∷ Reserve 1 1 0 ∷ Draw 0 ∷ Draw 1 ∷ Name 0 ∷ Name 1 ∷ Raise 0 ∷ Raise 1
    ∷ Lower 0 ∷ Lower 1 ∷ GiveBack 0 ∷ GiveBack 1 ∷ []

swap-enabled : all_enabled (opened (pair_setup Connectivity (0 ∷ 1 ∷ [])) 2) swap ≡ true
swap-enabled = refl

swap-found : found_in (opened (pair_setup Connectivity (0 ∷ 1 ∷ [])) 2) swap
    ≡ 0 ∷ 0 ∷ 1 ∷ 1 ∷ 0 ∷ 1 ∷ 0 ∷ 1 ∷ 1 ∷ 1 ∷ 2 ∷ 2 ∷ 2 ∷ 2 ∷ []
swap-found = refl

swap-gains : gains (run_of (opened (pair_setup Connectivity (0 ∷ 1 ∷ [])) 2) swap) ≡ pos 0 ∷ pos 0 ∷ []
swap-gains = refl

-- an event that isn't enabled in its turn
abbrev early : List Event
early = Claim 0 0 ∷ Claim 1 1 ∷ Reserve 0 0 1 ∷ Reserve 1 1 1 ∷ Draw 0 ∷ Draw 1 ∷ Name 0 ∷ Name 1 ∷ Lower 0 ∷ []

early-disabled : all_enabled (opened (pair_setup Connectivity (0 ∷ 0 ∷ [])) 2) early ≡ false
early-disabled = refl

-- ---- an event left out, or in the wrong place

-- without Widen, the Lower of pass 0 comes while it still owes
abbrev unbooked : List Event
unbooked =
    Claim 0 0 ∷ Claim 1 1 ∷ Reserve 0 0 1 ∷ Reserve 1 1 1 ∷ Draw 0 ∷ Draw 1 ∷ Name 0 ∷ Name 1 ∷ Raise 0 ∷ Raise 1 ∷ Lower 0 ∷ []

unbooked-disabled : all_enabled (opened (pair_setup Connectivity (0 ∷ 0 ∷ [])) 2) unbooked ≡ false
unbooked-disabled = refl

unbooked-before : all_enabled (opened (pair_setup Connectivity (0 ∷ 0 ∷ [])) 2) (take 10 unbooked) ≡ true
unbooked-before = refl

early-before : all_enabled (opened (pair_setup Connectivity (0 ∷ 0 ∷ [])) 2) (take 8 early) ≡ true
early-before = refl

swap-degree : gains (run_of (opened (pair_setup ExternalDegree (0 ∷ 1 ∷ [])) 2) swap) ≡ pos 0 ∷ pos 0 ∷ []
swap-degree = refl

-- ---- loads and the limit

-- vertices without nets, in two blocks with the limit 4
abbrev loose_setup : List ℕ → List ℕ → Setup
loose_setup weights p = record {
  graph = record { weights = weights; nets = []; objective = Connectivity; fixes = replicate (length weights) 256 };
  blocks = 2;
  limit = 4;
  opening = p;
}

-- the first Reserve is granted, and the second refused
abbrev last_place : List Event
last_place = Claim 0 0 ∷ Claim 1 1 ∷ Reserve 0 0 1 ∷ Reserve 1 1 1 ∷ TakeBack 1 ∷ []

last_place-found : found_in (opened (loose_setup (1 ∷ 1 ∷ 1 ∷ 1 ∷ 1 ∷ []) (0 ∷ 0 ∷ 1 ∷ 1 ∷ 1 ∷ [])) 2) last_place ≡ 0 ∷ 0 ∷ 3 ∷ 4 ∷ 5 ∷ []
last_place-found = refl

last_place-loads : (run_of (opened (loose_setup (1 ∷ 1 ∷ 1 ∷ 1 ∷ 1 ∷ []) (0 ∷ 0 ∷ 1 ∷ 1 ∷ 1 ∷ [])) 2) last_place).loads ≡ 2 ∷ 4 ∷ []
last_place-loads = refl

-- two passes refuse each other, and then one is granted
abbrev refusals : List Event
refusals = Claim 0 0 ∷ Claim 1 1 ∷ Reserve 0 0 1 ∷ Reserve 1 1 1 ∷ TakeBack 0 ∷ TakeBack 1 ∷ Reserve 1 1 1 ∷ []

refusals-enabled : all_enabled (opened (loose_setup (3 ∷ 1 ∷ 1 ∷ 1 ∷ []) (0 ∷ 0 ∷ 1 ∷ 1 ∷ [])) 2) refusals ≡ true
refusals-enabled = refl

refusals-found : found_in (opened (loose_setup (3 ∷ 1 ∷ 1 ∷ 1 ∷ []) (0 ∷ 0 ∷ 1 ∷ 1 ∷ [])) 2) refusals ≡ 0 ∷ 0 ∷ 2 ∷ 5 ∷ 6 ∷ 3 ∷ 2 ∷ []
refusals-found = refl

refusals-loads : (run_of (opened (loose_setup (3 ∷ 1 ∷ 1 ∷ 1 ∷ []) (0 ∷ 0 ∷ 1 ∷ 1 ∷ [])) 2) refusals).loads ≡ 4 ∷ 3 ∷ []
refusals-loads = refl

refusals-stages : map (λ a. a.stage) (run_of (opened (loose_setup (3 ∷ 1 ∷ 1 ∷ 1 ∷ []) (0 ∷ 0 ∷ 1 ∷ 1 ∷ [])) 2) refusals).accounts ≡ Idle ∷
    Granted 1 0 1 2 ∷ []
refusals-stages = refl

-- ---- three passes on one net

abbrev three_setup : Setup
three_setup = record {
  graph = record {
    weights = 1 ∷ 1 ∷ 1 ∷ [];
    nets = record { weight = 4; pins = 0 ∷ 1 ∷ 2 ∷ [] } ∷ [];
    objective = Connectivity;
    fixes = 256 ∷ 256 ∷ 256 ∷ [];
  };
  blocks = 2;
  limit = 3;
  opening = 0 ∷ 0 ∷ 0 ∷ [];
}

abbrev three : List Event
three =
    Claim 0 0 ∷ Claim 1 1 ∷ Claim 2 2 ∷ Reserve 0 0 1 ∷ Reserve 1 1 1 ∷ Reserve 2 2 1 ∷ Draw 0 ∷ Draw 1 ∷ Draw 2 ∷ Name 0 ∷ Name 1 ∷ Name 2
    ∷ Raise 0 ∷ Widen 0 ∷ Raise 1 ∷ Raise 2 ∷ Lower 2 ∷ Lower 0 ∷ Lower 1 ∷ Narrow 1 ∷ GiveBack 0 ∷ GiveBack 1 ∷ GiveBack 2 ∷ []

three-enabled : all_enabled (opened three_setup 3) three ≡ true
three-enabled = refl

three-found : found_in (opened three_setup 3) three
    ≡ 0 ∷ 0 ∷ 0 ∷ 0 ∷ 1 ∷ 2 ∷ 0 ∷ 1 ∷ 2 ∷ 0 ∷ 0 ∷ 0 ∷ 0 ∷ 65 ∷ 1 ∷ 2 ∷ 3 ∷ 2 ∷ 1 ∷ 66 ∷ 3 ∷ 2 ∷ 1 ∷ []
three-found = refl

three-gains : gains (run_of (opened three_setup 3) three) ≡ negsuc 3 ∷ pos 4 ∷ pos 0 ∷ []
three-gains = refl
