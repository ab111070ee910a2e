-- The nine named placements: greedy, and least loaded placement in eight orders drawn from a seed; and the cheapest of them.
use Rattle.std.specs.Prelude.{ℕ, zero, suc, List, [], ◌∷◌, map, filter, slice_index, Bool, true, ◌&&◌, nat_le, if◌then◌else◌, Option, Some, None}
use Rattle.std.specs.List.{range_with_len}
use Rattle.rand_pcg.specs.Lcg.{Lcg, started, increment_of}
use Rattle.rand_pcg.specs.Pcg.{multiplier_64, pcg32}
use Rattle.hg_defs.specs.Sorting.{sorted, lower_first}
use Rattle.hg_defs.specs.Hypergraph.{Hyper, vertex_count, vertices, is_free}
use Rattle.hg_defs.specs.Partition.{is_fitting}
use Rattle.hg_defs.specs.Cost.{cost}
use Rattle.hg_defs.specs.LeastLoaded.{least_loaded, greedy}

-- the generator of a seed and a stream
abbrev pub generator : ℕ → ℕ → Lcg
generator seed stream = started 64 multiplier_64 seed (increment_of 64 stream)

-- its first n words
abbrev pub words : ℕ → Lcg → List ℕ
words zero g = []
words (suc n) g = (pcg32 g).0 ∷ words n (pcg32 g).1

-- the free vertices by the words drawn for them, word v being that of vertex v
abbrev pub drawn_order : Hyper → ℕ → ℕ → List ℕ
drawn_order h seed stream =
    let drawn = words (vertex_count h) (generator seed stream) in
    map (λ a. a.1) (sorted lower_first (map (λ v. (slice_index drawn v, v)) (filter (is_free h) (vertices h))))

abbrev pub named : Hyper → ℕ → ℕ → List (List ℕ)
named h k seed = greedy h k ∷ map (λ stream. least_loaded h k (drawn_order h seed stream)) (range_with_len 0 8)

-- whether a partition costs no more than the best of those behind it
abbrev pub is_as_cheap : Hyper → List ℕ → Option (List ℕ) → Bool
is_as_cheap h p None = true
is_as_cheap h p (Some q) = nat_le (cost h p) (cost h q)

-- the first of the cheapest of the listed partitions that fit
abbrev pub first_cheapest : Hyper → ℕ → ℕ → List (List ℕ) → Option (List ℕ)
first_cheapest h k l [] = None
first_cheapest h k l (p ∷ ps) =
    let later = first_cheapest h k l ps in if is_fitting h k l p && is_as_cheap h p later then Some p else later

-- the first of the cheapest named placements that fit
abbrev pub named_best : Hyper → ℕ → ℕ → ℕ → Option (List ℕ)
named_best h k l seed = first_cheapest h k l (named h k seed)
