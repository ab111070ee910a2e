-- The vertices cut into runs of about the same length, one behind the other.
use Rattle.std.specs.Prelude.{◌≡◌, ℕ, ◌+◌, ◌*◌, ◌/◌, Bool, true, false, List, length, slice_index_or}
use Rattle.hg_defs.specs.Hypergraph.{Hyper, vertex_count}
use Rattle.pin_plain.specs.Settling.{IsSettledWithin}

-- no single allowed move of a vertex of run i makes the partition cheaper
abbrev pub IsSettledRun : Hyper → ℕ → ℕ → List ℕ → ℕ → ℕ → Type 0
IsSettledRun h k l p runs i = IsSettledWithin h k l p (vertex_count h * i / runs) (vertex_count h * (i + 1) / runs)

-- a note for each run, and those that are set are of settled runs
pub record AreNotes (h : Hyper) (k l : ℕ) (p : List ℕ) (runs : ℕ) (notes : List Bool) : Type 0 where
  pub count : length notes ≡ runs
  pub settled : (i : ℕ) → slice_index_or notes i false ≡ true → IsSettledRun h k l p runs i
