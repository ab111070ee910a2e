-- Single moves: which are allowed, what they gain, where none helps, and a sweep over all vertices.
use Rattle.std.specs.Prelude.{◌≢◌, ℕ, zero, suc, ◌+◌, ◌<◌, ◌≤◌, List, [], ◌∷◌, ◌++◌, ℤ, pos, ◌-ℤ◌, slice_set, Bool, not, ◌&&◌, nat_eq}
use Rattle.std.specs.Prelude.{nat_lt, nat_le, if◌then◌else◌, Option, Some, None, option_map, option_to_list}
use Rattle.hg_defs.specs.declared.moves.Move.{Move}
use Rattle.hg_defs.specs.Hypergraph.{Hyper, vertex_count, vertices, weight_of, is_free, IsFree}
use Rattle.hg_defs.specs.Partition.{block_of, load}
use Rattle.hg_defs.specs.Cost.{cost}
use Rattle.hg_defs.specs.Replay.{replay}

-- the vertex may go to the block: it is free, and the block is another one and has room for it
pub record IsAllowed (h : Hyper) (k l : ℕ) (p : List ℕ) (v b : ℕ) : Type 0 where
  pub vertex : v < vertex_count h
  pub free : IsFree h v
  pub block : b < k
  pub other : b ≢ block_of p v
  pub room : load h p b + weight_of h v ≤ l

-- the partition after a move
abbrev pub moved : List ℕ → ℕ → ℕ → List ℕ
moved p v b = slice_set p v b

-- the cost less the cost after the move
abbrev pub gain : Hyper → List ℕ → ℕ → ℕ → ℤ
gain h p v b = pos (cost h p) -ℤ pos (cost h (moved p v b))

-- no single allowed move makes the partition cheaper
abbrev pub IsSettled : Hyper → ℕ → ℕ → List ℕ → Type 0
IsSettled h k l p = (v b : ℕ) → IsAllowed h k l p v b → cost h p ≤ cost h (moved p v b)

-- the test whether a vertex may go to a block below k
abbrev pub is_allowed : Hyper → ℕ → List ℕ → ℕ → ℕ → Bool
is_allowed h l p v b = is_free h v && not (nat_eq b (block_of p v)) && nat_le (load h p b + weight_of h v) l

-- whether the move makes the partition cheaper than the moves to the lower blocks do
abbrev pub is_better : Hyper → List ℕ → ℕ → Option ℕ → ℕ → Bool
is_better h p v None b = nat_lt (cost h (moved p v b)) (cost h p)
is_better h p v (Some best) b = nat_lt (cost h (moved p v b)) (cost h (moved p v best))

-- the allowed block below k of the highest gain above 0, the lowest one at a tie
abbrev pub best_block : Hyper → ℕ → List ℕ → ℕ → ℕ → Option ℕ
best_block h l p v zero = None
best_block h l p v (suc b) =
    let lower = best_block h l p v b in
    if is_allowed h l p v b && is_better h p v lower b then Some b else lower

-- a move as it is recorded, made by worker 0 and booked with its gain
abbrev pub move_of : Hyper → List ℕ → ℕ → ℕ → Move
move_of h p v b = record { vertex = v; from = block_of p v; to = b; worker = 0; booked = gain h p v b }

-- what a visit of the vertex moves: it goes to its best block, where there is one
abbrev pub visit : Hyper → ℕ → ℕ → List ℕ → ℕ → List Move
visit h k l p v = option_to_list (option_map (move_of h p v) (best_block h l p v k))

-- the moves made when the vertices are visited in order
abbrev pub visits : Hyper → ℕ → ℕ → List ℕ → List ℕ → List Move
visits h k l p [] = []
visits h k l p (v ∷ vs) = let made = visit h k l p v in made ++ visits h k l (replay p made) vs

-- the moves of one visit of each vertex, in rising number
abbrev pub sweep : Hyper → ℕ → ℕ → List ℕ → List Move
sweep h k l p = visits h k l p (vertices h)
