-- Synchronous rounds: every vertex wishes for its best move in one partition, and the wishes are granted while there is room.
use Rattle.std.specs.Prelude.{ℕ, ◌-◌, List, [], ◌∷◌, ◌++◌, map, filter, if◌then◌else◌, Option, Some, None, is_some}
use Rattle.hg_defs.specs.declared.moves.Move.{Move}
use Rattle.hg_defs.specs.Sorting.{sorted}
use Rattle.hg_defs.specs.Hypergraph.{Hyper, vertices}
use Rattle.hg_defs.specs.Cost.{cost}
use Rattle.hg_defs.specs.LeastLoaded.{heavier_first}
use Rattle.hg_defs.specs.Moves.{moved, is_allowed, best_block, move_of}
use Rattle.hg_defs.specs.Replay.{replay, replay_first, best_prefix}

-- the block to which a vertex wishes to go: the allowed one of the highest gain above 0, the lowest at a tie
abbrev pub wish : Hyper → ℕ → ℕ → List ℕ → ℕ → Option ℕ
wish h k l p v = best_block h l p v k

-- what a wish would save, alone
abbrev pub saving : Hyper → List ℕ → ℕ → Option ℕ → ℕ
saving h p v None = 0
saving h p v (Some b) = cost h p - cost h (moved p v b)

-- the vertices that have a wish: the highest gain first, the lower number at a tie
abbrev pub wishing : Hyper → ℕ → ℕ → List ℕ → List ℕ
wishing h k l p =
    map (λ a. a.1) (sorted heavier_first (map (λ v. (saving h p v (wish h k l p v), v)) (filter (λ v. is_some (wish h k l p v)) (vertices h))))

-- the move of a wish, where there still is room for it in the partition reached, booked with its gain there
abbrev pub granted_move : Hyper → ℕ → List ℕ → ℕ → Option ℕ → List Move
granted_move h l reached v None = []
granted_move h l reached v (Some b) = if is_allowed h l reached v b then move_of h reached v b ∷ [] else []

-- the moves of those wishes in p that are granted, one after the other, from the partition reached on
abbrev pub granted : Hyper → ℕ → ℕ → List ℕ → List ℕ → List ℕ → List Move
granted h k l p reached [] = []
granted h k l p reached (v ∷ vs) =
    let made = granted_move h l reached v (wish h k l p v) in made ++ granted h k l p (replay reached made) vs

-- the moves of a synchronous round
abbrev pub sync_moves : Hyper → ℕ → ℕ → List ℕ → List Move
sync_moves h k l p = granted h k l p p (wishing h k l p)

-- the partition after a synchronous round, which keeps the best prefix of its moves
abbrev pub sync : Hyper → ℕ → ℕ → List ℕ → List ℕ
sync h k l p = replay_first p (sync_moves h k l p) (best_prefix h k l p (sync_moves h k l p))
