-- The lists that a region is formed of.
use Rattle.std.specs.Prelude.{◌≡◌, ◌-◌, ◌^◌, ◌<◌, ◌≤◌, ℕ, min, List, ◌++◌, length, filter, slice_index, Bool, ◌&&◌, not, nat_eq, nat_le}
use Rattle.std.specs.List.{range_with_len, list_any, fold}
use Rattle.std.specs.Set.{is_member}
use Rattle.hg_defs.specs.Hypergraph.{Hyper, vertex_count, net_count, net_of, weight_of, is_free}
use Rattle.hg_defs.specs.Incidence.{nets_of}
use Rattle.hg_defs.specs.Partition.{block_of}
use Rattle.round_log.specs.Rounds.{has_pin, taken}

-- the numbers of the nets with pins in both blocks, in rising order
abbrev pub touching_nets : Hyper → List ℕ → ℕ → ℕ → List ℕ
touching_nets h p a b = filter (λ e. has_pin p (net_of h e) a && has_pin p (net_of h e) b) (range_with_len 0 (net_count h))

-- a free vertex of a block
abbrev pub is_free_in : Hyper → List ℕ → ℕ → ℕ → Bool
is_free_in h p b v = is_free h v && nat_eq (block_of p v) b

-- the free vertices of a block on a net
abbrev pub free_pins : Hyper → List ℕ → ℕ → ℕ → List ℕ
free_pins h p b e = filter (is_free_in h p b) (net_of h e).pins

-- whether a net has at most 1,000 pins
abbrev pub is_small : Hyper → ℕ → Bool
is_small h e = nat_le (length (net_of h e).pins) 1000

-- the nets of at most 1,000 pins that hold a vertex
abbrev pub small_nets : Hyper → ℕ → List ℕ
small_nets h v = filter (is_small h) (nets_of h v)

-- a free vertex of a block on one of the small nets, which isn't near itself
abbrev pub is_reached : Hyper → List ℕ → ℕ → List ℕ → List ℕ → ℕ → Bool
is_reached h p a near small v = is_free_in h p a v && (list_any (is_member nat_eq small) (nets_of h v) && not (is_member nat_eq near v))

-- the least weight of a vertex, or the greatest number of 64 bits where there is none
abbrev pub least_weight : Hyper → ℕ
least_weight h = fold min (2 ^ 64 - 1) h.weights

-- each vertex weighs as much at least
abbrev pub WeighsAtLeast : Hyper → ℕ → Type 0
WeighsAtLeast h least = (v : ℕ) → v < vertex_count h → least ≤ weight_of h v

-- vertices were taken where there was room for them: the room that is left, and what may be taken later
abbrev pub TakesAll : Hyper → ℕ → List ℕ → List ℕ → List ℕ → ℕ → Type 0
TakesAll h room vertices before after left = (vs : List ℕ) → after ++ taken h left vs ≡ before ++ taken h room (vertices ++ vs)

-- the same numbers, how often ever
abbrev pub HasMembersOf : List ℕ → List ℕ → Type 0
HasMembersOf xs ys = (x : ℕ) → is_member nat_eq xs x ≡ is_member nat_eq ys x

-- the spot of a number tells a place of a list at which it stands
pub record IsNoted (spots list : List ℕ) (x : ℕ) : Type 0 where
  pub place : slice_index spots x < length list
  pub stands : slice_index list (slice_index spots x) ≡ x
