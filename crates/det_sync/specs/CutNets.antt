-- Cut nets, and the vertices that marked nets hold.
use Rattle.std.specs.Prelude.{◌≡◌, ℕ, ◌+◌, ◌<◌, List, Bool, false, length, nat_lt, slice_index_or}
use Rattle.std.specs.List.{list_any}
use Rattle.hg_defs.specs.Hypergraph.{Hyper, net_count, net_of}
use Rattle.hg_defs.specs.Cost.{connectivity}
use Rattle.hg_defs.specs.Incidence.{nets_of}

-- whether the net touches two blocks or more
abbrev pub is_cut : Hyper → List ℕ → ℕ → Bool
is_cut h p e = nat_lt 1 (connectivity p (net_of h e).pins)

-- a mark for each of n nets from a first one on, set where the net is cut
abbrev pub AreCutFrom : Hyper → List ℕ → ℕ → ℕ → List Bool → Type 0
AreCutFrom h p first n marks = (i : ℕ) → i < n → slice_index_or marks i false ≡ is_cut h p (first + i)

-- a mark for each net, set where the net is cut
pub record AreCutMarks (h : Hyper) (p : List ℕ) (marks : List Bool) : Type 0 where
  pub all : length marks ≡ net_count h
  pub each : (e : ℕ) → e < net_count h → slice_index_or marks e false ≡ is_cut h p e

-- whether one of the marked nets holds the vertex
abbrev pub is_held : Hyper → List Bool → ℕ → Bool
is_held h marks v = list_any (λ e. slice_index_or marks e false) (nets_of h v)
