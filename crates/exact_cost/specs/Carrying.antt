-- A vertex carried up through clusterings, to the cluster that holds it on the last level, and blocks carried down.
use Rattle.std.specs.Prelude.{ℕ, ◌<◌, List, [], ◌∷◌, length, map, slice_index}
use Rattle.std.specs.List.{range_with_len}

abbrev pub carried : List (List ℕ) → ℕ → ℕ
carried [] v = v
carried (clusters ∷ maps) v = carried maps (slice_index clusters v)

-- each clustering on the way has an entry for it, and so has the partition at the end
abbrev pub LeadsInto : List (List ℕ) → List ℕ → ℕ → Type 0
LeadsInto [] p v = v < length p
LeadsInto (clusters ∷ maps) p v = (v < length clusters) × LeadsInto maps p (slice_index clusters v)

-- the blocks carried down to so many vertices: each has that of what it is carried to
abbrev pub carried_down : ℕ → List (List ℕ) → List ℕ → List ℕ
carried_down n maps p = map (λ v. slice_index p (carried maps v)) (range_with_len 0 n)

-- so many vertices lead into the blocks, each to one below 256
pub record AllLead (n : ℕ) (maps : List (List ℕ)) (p : List ℕ) : Type 0 where
  pub leads : (v : ℕ) → v < n → LeadsInto maps p v
  pub small : (v : ℕ) → v < n → slice_index p (carried maps v) < 256
