-- Placement into the least loaded block, and greedy placement, which takes the heaviest vertices first.
use Rattle.std.specs.Prelude.{ℕ, suc, ◌+◌, List, [], ◌∷◌, ◌++◌, map, not, filter, replicate, slice_index}
use Rattle.std.specs.Prelude.{slice_set, nat_le, if◌then◌else◌, Option, Some, None}
use Rattle.std.specs.List.{list_all}
use Rattle.std.specs.declared.cmp.Ordering.{Ordering}
use Rattle.std.specs.Ordering.{nat_cmp, ordering_then}
use Rattle.hg_defs.specs.Sorting.{sorted}
use Rattle.hg_defs.specs.Hypergraph.{Hyper, vertex_count, vertices, weight_of, fix_of, is_free}

-- loads and blocks while vertices are placed, one after the other
pub record Placing : Type 0 where
  pub loads : List ℕ
  pub blocks : List ℕ

-- nothing is placed yet
abbrev pub unplaced : Hyper → ℕ → Placing
unplaced h k = record { loads = replicate k 0; blocks = replicate (vertex_count h) 0 }

-- the place of the least number of a list, the first at a tie
abbrev pub least : List ℕ → ℕ
least [] = 0
least (x ∷ xs) = if list_all (λ y. nat_le x y) xs then 0 else suc (least xs)

-- the block that a vertex takes: that of its fix, or the least loaded one
abbrev pub taken_block : Hyper → List ℕ → ℕ → ℕ
taken_block h loads v = if is_free h v then least loads else fix_of h v

abbrev pub placed_one : Hyper → Placing → ℕ → Placing
placed_one h s v =
    let b = taken_block h s.loads v in
    record { loads = slice_set s.loads b (slice_index s.loads b + weight_of h v); blocks = slice_set s.blocks v b }

abbrev pub placed : Hyper → Placing → List ℕ → Placing
placed h s [] = s
placed h s (v ∷ vs) = placed h (placed_one h s v) vs

-- the vertices as they are placed: those that are fixed in rising number, and then the free ones in the given order
abbrev pub placing_order : Hyper → List ℕ → List ℕ
placing_order h order = filter (λ v. not (is_free h v)) (vertices h) ++ order

abbrev pub least_loaded : Hyper → ℕ → List ℕ → List ℕ
least_loaded h k order = (placed h (unplaced h k) (placing_order h order)).blocks

-- by falling weight, then rising number, of pairs of a weight and a number
abbrev pub heavier_first : ℕ × ℕ → ℕ × ℕ → Ordering
heavier_first a b = ordering_then (nat_cmp b.0 a.0) (nat_cmp a.1 b.1)

-- the free vertices, the heaviest first
abbrev pub heaviest_first : Hyper → List ℕ
heaviest_first h =
    map (λ a. a.1) (sorted heavier_first (map (λ v. (weight_of h v, v)) (filter (is_free h) (vertices h))))

abbrev pub greedy : Hyper → ℕ → List ℕ
greedy h k = least_loaded h k (heaviest_first h)

-- the first vertex of the list whose placing takes its block past the limit
abbrev pub first_overfilling : Hyper → ℕ → Placing → List ℕ → Option ℕ
first_overfilling h l s [] = None
first_overfilling h l s (v ∷ vs) =
    let later = first_overfilling h l (placed_one h s v) vs in
    if nat_le (slice_index s.loads (taken_block h s.loads v) + weight_of h v) l then later else Some v

-- the vertex at which greedy placement passes the limit
abbrev pub overfills : Hyper → ℕ → ℕ → Option ℕ
overfills h k l = first_overfilling h l (unplaced h k) (placing_order h (heaviest_first h))
