-- Worked examples of rounds, each closed by computing.
use Rattle.std.specs.Prelude.{◌≡◌, ℕ, suc, List, [], ◌∷◌, length, map, refl, replicate, pos}
use Rattle.hg_defs.specs.declared.objective.Objective.{Objective}
use Rattle.hg_defs.specs.declared.objective.Objective.TheVariants.{Connectivity, CutNet, ExternalDegree}
use Rattle.hg_defs.specs.declared.moves.Move.{Move}
use Rattle.hg_defs.specs.Hypergraph.{Net, Hyper, vertices}
use Rattle.hg_defs.specs.Cost.{cost}
use Rattle.hg_defs.specs.Moves.{sweep}
use Rattle.hg_defs.specs.Replay.{replay}
use Rattle.round_log.specs.Rounds.{touching, region, pair_cost, changes}
use Rattle.round_log.specs.Passes.{block_pairs}

abbrev pub net : ℕ → List ℕ → Net
net w ps = record { weight = w; pins = ps }

-- so many vertices of weight 1
abbrev pub unit : Objective → List ℕ → List Net → Hyper
unit o fixes nets = record { weights = map (λ f. 1) fixes; nets = nets; objective = o; fixes = fixes }

abbrev pub free : ℕ → List ℕ
free n = replicate n 256

abbrev move : ℕ → ℕ → ℕ → ℕ → Move
move v a b gain = record { vertex = v; from = a; to = b; worker = 0; booked = pos gain }

-- ---- a minimum cut in a row of four vertices

abbrev line : Hyper
line = unit Connectivity (free 4) (net 1 (0 ∷ 1 ∷ []) ∷ net 5 (1 ∷ 2 ∷ []) ∷ net 1 (2 ∷ 3 ∷ []) ∷ [])

line-region : region line 3 (0 ∷ 0 ∷ 1 ∷ 1 ∷ []) 0 1 ≡ 1 ∷ 2 ∷ []
line-region = refl

line-costs : map (cost line) ((0 ∷ 0 ∷ 1 ∷ 1 ∷ []) ∷ (0 ∷ 0 ∷ 0 ∷ 1 ∷ []) ∷ (0 ∷ 1 ∷ 1 ∷ 1 ∷ []) ∷ (0 ∷ 1 ∷ 0 ∷ 1 ∷ []) ∷ []) ≡ 5 ∷ 1 ∷ 1 ∷ 7 ∷ []
line-costs = refl

line-value : pair_cost line (0 ∷ 0 ∷ 0 ∷ 1 ∷ []) 0 1 ≡ 1
line-value = refl

line-moves : changes line (0 ∷ 0 ∷ 1 ∷ 1 ∷ []) (0 ∷ 0 ∷ 0 ∷ 1 ∷ []) (vertices line) ≡ move 2 1 0 4 ∷ []
line-moves = refl

-- ---- a pair whose blocks are full: the region is empty, and the value is what the cut net costs

abbrev pub pair : Hyper
pair = unit Connectivity (free 2) (net 1 (0 ∷ 1 ∷ []) ∷ [])

pair-region : region pair 1 (0 ∷ 1 ∷ []) 0 1 ≡ []
pair-region = refl

pair-value : pair_cost pair (0 ∷ 1 ∷ []) 0 1 ≡ 1
pair-value = refl

-- ---- fixed vertices stand in no region

abbrev fixed : Hyper
fixed = unit
    Connectivity
    (0 ∷ 0 ∷ 0 ∷ 1 ∷ 1 ∷ 1 ∷ 0 ∷ [])
    (net 2 (0 ∷ 1 ∷ []) ∷ net 3 (0 ∷ 4 ∷ 5 ∷ 6 ∷ []) ∷ net 8 (3 ∷ 4 ∷ 5 ∷ []) ∷ net 7 (1 ∷ 2 ∷ 3 ∷ []) ∷ [])

fixed-region : region fixed 4 fixed.fixes 0 1 ≡ []
fixed-region = refl

fixed-value : pair_cost fixed fixed.fixes 0 1 ≡ 10
fixed-value = refl

-- ---- a net with a pin in a third block, under each objective

abbrev thirds : Objective → Hyper
thirds o = unit o (free 3) (net 5 (0 ∷ 1 ∷ 2 ∷ []) ∷ net 1 (0 ∷ 1 ∷ []) ∷ [])

abbrev of_each : (Objective → ℕ) → List ℕ
of_each f = f Connectivity ∷ f CutNet ∷ f ExternalDegree ∷ []

thirds-region : region (thirds Connectivity) 2 (0 ∷ 1 ∷ 2 ∷ []) 0 1 ≡ 0 ∷ 1 ∷ []
thirds-region = refl

thirds-before : of_each (λ o. cost (thirds o) (0 ∷ 1 ∷ 2 ∷ [])) ≡ 11 ∷ 6 ∷ 17 ∷ []
thirds-before = refl

thirds-after : of_each (λ o. cost (thirds o) (0 ∷ 0 ∷ 2 ∷ [])) ≡ 5 ∷ 5 ∷ 10 ∷ []
thirds-after = refl

-- what the two nets pay for touching both blocks: the first has a pin outside of them
thirds-values : of_each (λ o. pair_cost (thirds o) (0 ∷ 1 ∷ 2 ∷ []) 0 1) ≡ 6 ∷ 1 ∷ 7 ∷ []
thirds-values = refl

thirds-joined : of_each (λ o. pair_cost (thirds o) (0 ∷ 0 ∷ 2 ∷ []) 0 1) ≡ 0 ∷ 0 ∷ 0 ∷ []
thirds-joined = refl

-- ---- two pairs of four blocks

abbrev lines : Objective → Hyper
lines o = unit
    o
    (free 8)
    (net 1 (0 ∷ 1 ∷ []) ∷ net 5 (1 ∷ 2 ∷ []) ∷ net 1 (2 ∷ 3 ∷ []) ∷ net 1 (4 ∷ 5 ∷ []) ∷ net 5 (5 ∷ 6 ∷ []) ∷ net 1 (6 ∷ 7 ∷ []) ∷ [])

abbrev halves : List ℕ
halves = 0 ∷ 0 ∷ 3 ∷ 3 ∷ 1 ∷ 1 ∷ 2 ∷ 2 ∷ []

abbrev first_joined : List ℕ
first_joined = 0 ∷ 0 ∷ 0 ∷ 3 ∷ 1 ∷ 1 ∷ 2 ∷ 2 ∷ []

abbrev both_joined : List ℕ
both_joined = 0 ∷ 0 ∷ 0 ∷ 3 ∷ 1 ∷ 1 ∷ 1 ∷ 2 ∷ []

four-pairs : block_pairs 4 ≡ (0, 1) ∷ (0, 2) ∷ (0, 3) ∷ (1, 2) ∷ (1, 3) ∷ (2, 3) ∷ []
four-pairs = refl

lines-touched : map (λ (pair : ℕ × ℕ). length (touching (lines Connectivity) halves pair.0 pair.1)) (block_pairs 4) ≡ 0 ∷ 0 ∷ 1 ∷ 1 ∷ 0 ∷ 0 ∷ []
lines-touched = refl

lines-first : region (lines Connectivity) 3 halves 0 3 ≡ 1 ∷ 2 ∷ []
lines-first = refl

lines-second : region (lines Connectivity) 3 first_joined 1 2 ≡ 5 ∷ 6 ∷ []
lines-second = refl

lines-costs : map (cost (lines Connectivity)) (halves ∷ first_joined ∷ both_joined ∷ []) ≡ 10 ∷ 6 ∷ 2 ∷ []
lines-costs = refl

lines-degrees : map (cost (lines ExternalDegree)) (halves ∷ first_joined ∷ both_joined ∷ []) ≡ 20 ∷ 12 ∷ 4 ∷ []
lines-degrees = refl

lines-values : pair_cost (lines Connectivity) first_joined 0 3 ∷ pair_cost (lines Connectivity) both_joined 1 2 ∷ [] ≡ 1 ∷ 1 ∷ []
lines-values = refl

lines-degree_values : pair_cost (lines ExternalDegree) first_joined 0 3 ∷ pair_cost (lines ExternalDegree) both_joined 1 2 ∷ [] ≡ 2 ∷ 2 ∷ []
lines-degree_values = refl

-- ---- a sweep of a path of six vertices, and the next one

abbrev pub path : Hyper
path = unit Connectivity (free 6) (map (λ v. net 1 (v ∷ suc v ∷ [])) (0 ∷ 1 ∷ 2 ∷ 3 ∷ 4 ∷ []))

abbrev pub in_turns : List ℕ
in_turns = 0 ∷ 1 ∷ 0 ∷ 1 ∷ 0 ∷ 1 ∷ []

path-sweep : sweep path 2 4 in_turns ≡ move 0 0 1 1 ∷ move 3 1 0 2 ∷ move 5 1 0 1 ∷ []
path-sweep = refl

path-swept : replay in_turns (sweep path 2 4 in_turns) ≡ 1 ∷ 1 ∷ 0 ∷ 0 ∷ 0 ∷ 0 ∷ []
path-swept = refl

path-settled : sweep path 2 4 (1 ∷ 1 ∷ 0 ∷ 0 ∷ 0 ∷ 0 ∷ []) ≡ []
path-settled = refl

path-costs : map (cost path) (in_turns ∷ (1 ∷ 1 ∷ 0 ∷ 0 ∷ 0 ∷ 0 ∷ []) ∷ (0 ∷ 0 ∷ 1 ∷ 1 ∷ 0 ∷ 0 ∷ []) ∷ []) ≡ 5 ∷ 1 ∷ 2 ∷ []
path-costs = refl

-- a partition from which no single move helps, though another one costs less
path-stuck : sweep path 2 4 (0 ∷ 0 ∷ 1 ∷ 1 ∷ 0 ∷ 0 ∷ []) ≡ []
path-stuck = refl
