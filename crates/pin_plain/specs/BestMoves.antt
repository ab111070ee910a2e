-- The best moves of listed vertices in one partition.
use Rattle.std.specs.Prelude.{ℕ, ◌-◌, List, [], ◌∷◌, ◌++◌, option_map, option_to_list}
use Rattle.std.specs.declared.cmp.Reverse.{Reverse}
use Rattle.hg_defs.specs.Hypergraph.{Hyper}
use Rattle.hg_defs.specs.Cost.{cost}
use Rattle.hg_defs.specs.Moves.{moved, best_block}

-- what a move saves, its vertex and its block
abbrev pub ranked : Hyper → List ℕ → ℕ → ℕ → Reverse ℕ × ℕ × ℕ
ranked h p v b = (record { 0 = cost h p - cost h (moved p v b) }, v, b)

-- the best moves of those of the vertices that have one
abbrev pub best_moves : Hyper → ℕ → ℕ → List ℕ → List ℕ → List (Reverse ℕ × ℕ × ℕ)
best_moves h k l p [] = []
best_moves h k l p (v ∷ vs) = option_to_list (option_map (ranked h p v) (best_block h l p v k)) ++ best_moves h k l p vs
