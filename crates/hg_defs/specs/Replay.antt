-- Lists of moves: the partition that they lead to, and the prefix of them that is worth keeping.
use Rattle.std.specs.Prelude.{ℕ, ◌+◌, List, [], ◌∷◌, length, take, slice_set, ℤ, pos, ◌-ℤ◌, Bool, ◌&&◌, ◌||◌, not, nat_le, unwrap_or, find}
use Rattle.std.specs.List.{list_all, range_with_len}
use Rattle.hg_defs.specs.declared.moves.Move.{Move}
use Rattle.hg_defs.specs.Hypergraph.{Hyper}
use Rattle.hg_defs.specs.Partition.{is_fitting}
use Rattle.hg_defs.specs.Cost.{cost}

-- the partition after the moves, one after the other
abbrev pub replay : List ℕ → List Move → List ℕ
replay p [] = p
replay p (m ∷ moves) = replay (slice_set p m.vertex m.to) moves

-- the partition after the first j moves
abbrev pub replay_first : List ℕ → List Move → ℕ → List ℕ
replay_first p moves j = replay p (take j moves)

-- the cost before the move of a place less the cost after it, as the moves are replayed
abbrev pub replay_gain : Hyper → List ℕ → List Move → ℕ → ℤ
replay_gain h p moves i = pos (cost h (replay_first p moves i)) -ℤ pos (cost h (replay_first p moves (i + 1)))

-- the partition with the block that each move left written at its vertex
abbrev pub undone : List ℕ → List Move → List ℕ
undone p [] = p
undone p (m ∷ moves) = undone (slice_set p m.vertex m.from) moves

-- whether the first j moves lead to a partition that fits, and that is no dearer than any other prefix which fits
abbrev pub is_best_prefix : Hyper → ℕ → ℕ → List ℕ → List Move → ℕ → Bool
is_best_prefix h k l p moves j =
    is_fitting h k l (replay_first p moves j)
    && list_all
    (λ i. not (is_fitting h k l (replay_first p moves i)) || nat_le (cost h (replay_first p moves j)) (cost h (replay_first p moves i)))
    (range_with_len 0 (length moves + 1))

-- the length of the shortest best prefix; 0 is one of the candidates where p fits
abbrev pub best_prefix : Hyper → ℕ → ℕ → List ℕ → List Move → ℕ
best_prefix h k l p moves = unwrap_or (find (is_best_prefix h k l p moves) (range_with_len 0 (length moves + 1))) 0
