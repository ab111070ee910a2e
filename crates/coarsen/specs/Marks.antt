-- Marks of single vertices, and vertices ranked by weight.
use Rattle.std.specs.Prelude.{◌≡◌, ℕ, ◌<◌, List, length, filter, min, slice_index, slice_index_or, Bool, true, false}
use Rattle.hg_defs.specs.Hypergraph.{Hyper, vertex_count, net_count, net_of, weight_of}
use Rattle.hg_defs.specs.Clustering.{is_single}

-- the mark of each vertex tells whether it is a free vertex that is alone in its cluster
pub record AreMarked (h : Hyper) (roots : List ℕ) (single : List Bool) : Type 0 where
  pub vertices : length single ≡ vertex_count h
  pub each : (v : ℕ) → v < vertex_count h → slice_index_or single v false ≡ is_single h roots v

-- no vertex is marked afterwards that wasn't before
abbrev pub AreFewer : List Bool → List Bool → Type 0
AreFewer before after = (v : ℕ) → slice_index_or after v false ≡ true → slice_index_or before v false ≡ true

-- how many pins of a net are marked
abbrev pub marked_pins : Hyper → List Bool → ℕ → ℕ
marked_pins h marks e = length (filter (λ v. slice_index_or marks v false) (net_of h e).pins)

-- the count of each net tells how many of its pins are marked, where 255 stands for all that are more
pub record AreCounted (h : Hyper) (marks : List Bool) (counts : List ℕ) : Type 0 where
  pub nets : length counts ≡ net_count h
  pub each : (e : ℕ) → e < net_count h → slice_index counts e ≡ min (marked_pins h marks e) 255

-- a vertex beside its weight
abbrev pub weighed : Hyper → ℕ → ℕ × ℕ
weighed h v = (weight_of h v, v)
