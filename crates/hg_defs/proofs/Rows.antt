-- Worked examples of the definitions, each closed by computing.
use Rattle.std.specs.Prelude.{◌≡◌, ℕ, List, [], ◌∷◌, map, refl, replicate, pos, Some, None}
use Rattle.hg_defs.specs.declared.objective.Objective.{Objective}
use Rattle.hg_defs.specs.declared.objective.Objective.TheVariants.{Connectivity, CutNet, ExternalDegree}
use Rattle.hg_defs.specs.declared.moves.Move.{Move}
use Rattle.hg_defs.specs.Hypergraph.{Net, Hyper}
use Rattle.hg_defs.specs.Partition.{load, limit}
use Rattle.hg_defs.specs.Cost.{cost}
use Rattle.hg_defs.specs.LeastLoaded.{greedy, overfills}
use Rattle.hg_defs.specs.Moves.{gain, sweep}
use Rattle.hg_defs.specs.Replay.{replay, best_prefix}
use Rattle.hg_defs.specs.Contraction.{contract}

abbrev pub net : ℕ → List ℕ → Net
net w ps = record { weight = w; pins = ps }

abbrev pub free : ℕ → List ℕ
free n = replicate n 256

-- seven vertices and four nets of weights 2, 3, 8 and 7
abbrev pub four_nets : Objective → List ℕ → Hyper
four_nets o fixes = record {
  weights = replicate 7 1;
  nets = net 2 (0 ∷ 1 ∷ []) ∷ net 3 (0 ∷ 4 ∷ 5 ∷ 6 ∷ []) ∷ net 8 (3 ∷ 4 ∷ 5 ∷ []) ∷ net 7 (1 ∷ 2 ∷ 3 ∷ []) ∷ [];
  objective = o;
  fixes = fixes;
}

abbrev pub plain : Hyper
plain = four_nets Connectivity (free 7)

-- cost, loads and limit of a partition
plain-cost : cost plain (0 ∷ 0 ∷ 0 ∷ 1 ∷ 1 ∷ 1 ∷ 0 ∷ []) ≡ 10
plain-cost = refl

plain-loads : map (load plain (0 ∷ 0 ∷ 0 ∷ 1 ∷ 1 ∷ 1 ∷ 0 ∷ [])) (0 ∷ 1 ∷ []) ≡ 4 ∷ 3 ∷ []
plain-loads = refl

plain-limit : limit 7 2 0 ≡ 4
plain-limit = refl

-- the three objectives
connectivity-cost : cost plain (0 ∷ 1 ∷ 2 ∷ 0 ∷ 1 ∷ 2 ∷ 0 ∷ []) ≡ 38
connectivity-cost = refl

cut-cost : cost (four_nets CutNet (free 7)) (0 ∷ 1 ∷ 2 ∷ 0 ∷ 1 ∷ 2 ∷ 0 ∷ []) ≡ 20
cut-cost = refl

degree-cost : cost (four_nets ExternalDegree (free 7)) (0 ∷ 1 ∷ 2 ∷ 0 ∷ 1 ∷ 2 ∷ 0 ∷ []) ≡ 58
degree-cost = refl

-- a net of one pin, and a net without pins, cost nothing
abbrev one_net : List ℕ → Hyper
one_net ps = record { weights = replicate 3 1; nets = net 5 ps ∷ []; objective = ExternalDegree; fixes = free 3 }

one_pin-cost : cost (one_net (2 ∷ [])) (0 ∷ 1 ∷ 1 ∷ []) ≡ 0
one_pin-cost = refl

no_pin-cost : cost (one_net []) (0 ∷ 1 ∷ 1 ∷ []) ≡ 0
no_pin-cost = refl

-- greedy placement
greedy-plain : greedy plain 2 ≡ 0 ∷ 1 ∷ 0 ∷ 1 ∷ 0 ∷ 1 ∷ 0 ∷ []
greedy-plain = refl

greedy-plain-cost : cost plain (greedy plain 2) ≡ 20
greedy-plain-cost = refl

greedy-plain-fits : overfills plain 2 4 ≡ None
greedy-plain-fits = refl

-- greedy placement with vertices 0, 3 and 6 fixed to blocks 0, 1 and 1
abbrev fixed : Hyper
fixed = four_nets Connectivity (0 ∷ 256 ∷ 256 ∷ 1 ∷ 256 ∷ 256 ∷ 1 ∷ [])

greedy-fixed : greedy fixed 2 ≡ 0 ∷ 0 ∷ 0 ∷ 1 ∷ 1 ∷ 0 ∷ 1 ∷ []
greedy-fixed = refl

greedy-fixed-cost : cost fixed (greedy fixed 2) ≡ 18
greedy-fixed-cost = refl

-- five vertices fixed to one block of limit 4: the fifth passes it
overfills-fixed : overfills (four_nets Connectivity (0 ∷ 0 ∷ 0 ∷ 0 ∷ 0 ∷ 256 ∷ 256 ∷ [])) 2 4 ≡ Some 4
overfills-fixed = refl

-- no nets, but weights
abbrev weighted : List ℕ → Hyper
weighted ws = record { weights = ws; nets = []; objective = Connectivity; fixes = [] }

overfills-last : overfills (weighted (3 ∷ 3 ∷ 2 ∷ 2 ∷ 2 ∷ [])) 2 (limit 12 2 0) ≡ Some 4
overfills-last = refl

overfills-first : overfills (weighted (50 ∷ replicate 10 1)) 4 (limit 60 4 0) ≡ Some 0
overfills-first = refl

large-limits : map (limit 12884901885 2) (334 ∷ 0 ∷ []) ≡ 8594229557 ∷ 6442450943 ∷ []
large-limits = refl

overfills-large : overfills (weighted (replicate 3 4294967295)) 2 6442450943 ≡ Some 2
overfills-large = refl

-- the sweep of the greedy partition moves one vertex
greedy-gain : gain plain (greedy plain 2) 0 1 ≡ pos 2
greedy-gain = refl

greedy-sweep : sweep plain 2 4 (greedy plain 2) ≡ record { vertex = 0; from = 0; to = 1; worker = 0; booked = pos 2 } ∷ []
greedy-sweep = refl

-- prefixes of four moves: costs 10, 12, 9, 9, 11
abbrev four_pairs : List ℕ → Hyper
four_pairs ws = record {
  weights = ws;
  nets = net 2 (0 ∷ 4 ∷ []) ∷ net 3 (1 ∷ 5 ∷ []) ∷ net 2 (3 ∷ 4 ∷ []) ∷ net 7 (4 ∷ 5 ∷ []) ∷ [];
  objective = Connectivity;
  fixes = free 6;
}

abbrev step : ℕ → ℕ → ℕ → Move
step v a b = record { vertex = v; from = a; to = b; worker = 0; booked = pos 0 }

abbrev steps : List Move
steps = step 0 0 1 ∷ step 1 0 1 ∷ step 2 1 0 ∷ step 3 0 1 ∷ []

abbrev start : List ℕ
start = 0 ∷ 0 ∷ 1 ∷ 0 ∷ 0 ∷ 1 ∷ []

kept-costs : cost (four_pairs (replicate 6 1)) start ∷ cost (four_pairs (replicate 6 1)) (replay start steps) ∷ [] ≡ 10 ∷ 11 ∷ []
kept-costs = refl

best_prefix-even : best_prefix (four_pairs (replicate 6 1)) 2 4 start steps ≡ 2
best_prefix-even = refl

best_prefix-heavy : best_prefix (four_pairs (1 ∷ 2 ∷ 2 ∷ 1 ∷ 1 ∷ 1 ∷ [])) 2 5 start steps ≡ 3
best_prefix-heavy = refl

-- two contractions
contract-three : contract plain (0 ∷ 0 ∷ 1 ∷ 1 ∷ 2 ∷ 2 ∷ 2 ∷ []) 3
    ≡ record {
      weights = 2 ∷ 2 ∷ 3 ∷ [];
      nets = net 7 (0 ∷ 1 ∷ []) ∷ net 3 (0 ∷ 2 ∷ []) ∷ net 8 (1 ∷ 2 ∷ []) ∷ [];
      objective = Connectivity;
      fixes = free 3;
    }
contract-three = refl

contract-two : contract plain (0 ∷ 0 ∷ 0 ∷ 1 ∷ 1 ∷ 1 ∷ 0 ∷ []) 2
    ≡ record { weights = 4 ∷ 3 ∷ []; nets = net 10 (0 ∷ 1 ∷ []) ∷ []; objective = Connectivity; fixes = free 2 }
contract-two = refl
