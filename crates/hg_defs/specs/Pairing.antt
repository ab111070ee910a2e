-- The pairing sweep: on each net the lightest single vertices are joined two by two, while the cap allows it.
use Rattle.std.specs.Prelude.{ℕ, ◌+◌, List, [], ◌∷◌, length, map, filter, min, max, slice_index, slice_set, ◌&&◌, nat_eq, nat_le, if◌then◌else◌}
use Rattle.std.specs.List.{range_with_len}
use Rattle.hg_defs.specs.Sorting.{sorted, lower_first}
use Rattle.hg_defs.specs.Hypergraph.{Net, Hyper, vertices, weight_of}
use Rattle.hg_defs.specs.Partition.{block_of}
use Rattle.hg_defs.specs.Clustering.{is_single, is_small}
use Rattle.hg_defs.specs.Numbering.{numbered}

-- the pairing within the cap for a clustering by roots, where vertices of one block alone are joined, `block` being that of a vertex
module _ (h : Hyper) (cap k : ℕ) (block : ℕ → ℕ) where
  -- the single vertices of a block among the pins: the lightest first, the lower number at a tie
  abbrev pub lightest_first : List ℕ → ℕ → List ℕ → List ℕ
  lightest_first roots b pins =
      map (λ a. a.1) (sorted lower_first (map (λ v. (weight_of h v, v)) (filter (λ v. is_single h roots v && nat_eq (block v) b) pins)))

  -- the roots after the listed vertices were joined two by two, as far as two weigh at most the cap: the lower one is the root
  abbrev pub pair_up : List ℕ → List ℕ → List ℕ
  pair_up roots [] = roots
  pair_up roots (v ∷ []) = roots
  pair_up roots (u ∷ v ∷ vs) =
      if nat_le (weight_of h u + weight_of h v) cap then pair_up (slice_set roots (max u v) (min u v)) vs else roots

  -- the roots after each of the blocks was paired on a net
  abbrev pub pair_blocks : List ℕ → List ℕ → List ℕ → List ℕ
  pair_blocks roots pins [] = roots
  pair_blocks roots pins (b ∷ blocks) = pair_blocks (pair_up roots (lightest_first roots b pins)) pins blocks

  -- the roots after the small nets were visited in turn
  abbrev pub pair_nets : List ℕ → List Net → List ℕ
  pair_nets roots [] = roots
  pair_nets roots (e ∷ nets) =
      pair_nets (if is_small e then pair_blocks roots e.pins (range_with_len 0 k) else roots) nets

-- the pairing sweep from a clustering by roots
abbrev pub paired_from : Hyper → ℕ → List ℕ → List ℕ
paired_from h cap roots = pair_nets h cap 1 (λ v. 0) roots h.nets

-- the same inside the k blocks of a partition
abbrev pub paired_inside : Hyper → ℕ → ℕ → List ℕ → List ℕ → List ℕ
paired_inside h cap k p roots = pair_nets h cap k (block_of p) roots h.nets

-- the roots, where a vertex whose root lies in another block becomes a vertex alone
abbrev pub split_by : List ℕ → List ℕ → List ℕ
split_by p roots =
    map
    (λ v. if nat_eq (block_of p (slice_index roots v)) (block_of p v) then slice_index roots v else v)
    (range_with_len 0 (length roots))

-- the pairing sweep begun with every vertex alone, its clusters numbered by rising root
abbrev pub paired : Hyper → ℕ → List ℕ
paired h cap = numbered (paired_from h cap (vertices h))
