-- The blocks of a level on the way of a partition that is carried down.
use Rattle.std.specs.Prelude.{◌≡◌, ℕ, ◌<◌, List, length, slice_index}
use Rattle.exact_cost.specs.Carrying.{carried}

-- they are the blocks of the first vertices below the clusterings
abbrev pub AreCarried : List (List ℕ) → List ℕ → List ℕ → Type 0
AreCarried maps p blocks = (v : ℕ) → v < length blocks → slice_index blocks v ≡ slice_index p (carried maps v)
