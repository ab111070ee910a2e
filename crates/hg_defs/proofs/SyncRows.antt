-- Worked examples of the pairing sweep, of numbering, of the cheapest named placement and of synchronous rounds, each closed by computing.
use Rattle.std.specs.Prelude.{◌≡◌, ℕ, suc, List, [], ◌∷◌, map, refl, replicate, ℤ, pos, negsuc, Some, None, option_map}
use Rattle.hg_defs.specs.declared.objective.Objective.TheVariants.{Connectivity}
use Rattle.hg_defs.specs.declared.moves.Move.{Move}
use Rattle.hg_defs.specs.Hypergraph.{Hyper}
use Rattle.hg_defs.specs.Cost.{cost}
use Rattle.hg_defs.specs.Replay.{best_prefix}
use Rattle.hg_defs.specs.Numbering.{numbered}
use Rattle.hg_defs.specs.Pairing.{paired, paired_inside}
use Rattle.hg_defs.specs.Placement.{named_best}
use Rattle.hg_defs.specs.Synchronous.{wishing, sync_moves, sync}
use Rattle.hg_defs.specs.Levels.{lifted}
use Rattle.hg_defs.proofs.Rows.{plain, net, free}

-- ---- the pairing sweep

paired-plain : paired plain 2 ≡ 0 ∷ 0 ∷ 1 ∷ 1 ∷ 2 ∷ 2 ∷ 3 ∷ []
paired-plain = refl

-- inside the blocks of a partition no pair crosses them: each of the two blocks is paired by itself on every net
inside-plain : numbered (paired_inside plain 2 2 (0 ∷ 0 ∷ 0 ∷ 1 ∷ 1 ∷ 1 ∷ 0 ∷ []) (0 ∷ 1 ∷ 2 ∷ 3 ∷ 4 ∷ 5 ∷ 6 ∷ [])) ≡ 0 ∷ 0 ∷ 1 ∷ 2 ∷ 3 ∷ 3 ∷ 4 ∷ []
inside-plain = refl

-- ---- a path of six vertices, from a partition in which the blocks alternate

abbrev path : Hyper
path = record { weights = replicate 6 1; nets = map (λ v. net 1 (v ∷ suc v ∷ [])) (0 ∷ 1 ∷ 2 ∷ 3 ∷ 4 ∷ []); objective = Connectivity; fixes = free 6 }

abbrev in_turns : List ℕ
in_turns = 0 ∷ 1 ∷ 0 ∷ 1 ∷ 0 ∷ 1 ∷ []

path-wishing : wishing path 2 4 in_turns ≡ 1 ∷ 2 ∷ 3 ∷ 4 ∷ 0 ∷ 5 ∷ []
path-wishing = refl

abbrev move : ℕ → ℕ → ℕ → ℤ → Move
move v a b gain = record { vertex = v; from = a; to = b; worker = 0; booked = gain }

path-moves : sync_moves path 2 4 in_turns
    ≡ move 1 1 0 (pos 2) ∷ move 2 0 1 (pos 0) ∷ move 3 1 0 (pos 0) ∷ move 4 0 1 (pos 0) ∷ move 0 0 1 (negsuc 0) ∷ move 5 1 0 (negsuc 0) ∷ []
path-moves = refl

path-kept : best_prefix path 2 4 in_turns (sync_moves path 2 4 in_turns) ≡ 1
path-kept = refl

path-synced : sync path 2 4 in_turns ≡ 0 ∷ 0 ∷ 0 ∷ 1 ∷ 0 ∷ 1 ∷ []
path-synced = refl

path-costs : map (cost path) (in_turns ∷ sync path 2 4 in_turns ∷ sync path 2 4 (sync path 2 4 in_turns) ∷ []) ≡ 5 ∷ 3 ∷ 1 ∷ []
path-costs = refl

path-again : map (λ (m : Move). m.vertex) (sync_moves path 2 4 (sync path 2 4 in_turns)) ≡ 4 ∷ []
path-again = refl

-- settled
path-settled : sync_moves path 2 4 (sync path 2 4 (sync path 2 4 in_turns)) ≡ []
path-settled = refl

-- ---- a partition lifted to the clusters of its vertices

lifted-plain : lifted (0 ∷ 0 ∷ 1 ∷ 1 ∷ 0 ∷ 0 ∷ 1 ∷ []) (0 ∷ 0 ∷ 1 ∷ 1 ∷ 2 ∷ 2 ∷ 3 ∷ []) 4 ≡ 0 ∷ 1 ∷ 0 ∷ 1 ∷ []
lifted-plain = refl

-- ---- the cheapest named placement: of three heavy vertices none fits, and on the other hypergraph greedy placement isn't the cheapest

abbrev heavy : Hyper
heavy = record { weights = replicate 3 4; nets = []; objective = Connectivity; fixes = free 3 }

heavy-placed : named_best heavy 2 6 1 ≡ None
heavy-placed = refl

plain-placed : option_map (cost plain) (named_best plain 2 4 1) ≡ Some 10
plain-placed = refl
