-- How the placing of vertices, one after the other, ends within a limit on the loads.
use Rattle.std.specs.Prelude.{◌≡◌, ℕ, ◌+◌, ◌*◌, ◌/◌, ◌<◌, ◌≤◌, min, List, length, slice_index, Option, Some, None, MatchOption}
use Rattle.std.specs.declared.cmp.Reverse.{Reverse}
use Rattle.hg_defs.specs.Hypergraph.{Hyper, weight_of}
use Rattle.hg_defs.specs.LeastLoaded.{Placing, placed, first_overfilling}

-- from state s all are placed, which leads to state t, or the result is the first that overfills
abbrev pub EndsPlacing : Hyper → ℕ → Placing → List ℕ → Option ℕ → Placing → Type 0
EndsPlacing h l s vs result t =
    MatchOption result ((first_overfilling h l s vs ≡ None) × (placed h s vs ≡ t)) (λ v. first_overfilling h l s vs ≡ Some v)

-- a vertex beside its weight, the greatest weight first
abbrev pub rank_of : Hyper → ℕ → Reverse ℕ × ℕ
rank_of h v = (record { 0 = weight_of h v }, v)

-- b is the first of the numbers from low up to high at which f is least
pub record IsLeastWithin (f : ℕ → ℕ) (low high b : ℕ) : Type 0 where
  pub from : low ≤ b
  pub below : b < high
  pub least : (c : ℕ) → low ≤ c → c < high → f b ≤ f c
  pub first : (c : ℕ) → low ≤ c → c < b → f b < f c

-- each group of 16 loads in a row, the last one perhaps shorter, has the place of its first least load
pub record AreLed (loads leaders : List ℕ) : Type 0 where
  pub groups : length leaders ≡ (length loads + 15) / 16
  pub led : (g : ℕ) → g < length leaders → IsLeastWithin (slice_index loads) (16 * g) (min (16 * g + 16) (length loads)) (slice_index leaders g)
