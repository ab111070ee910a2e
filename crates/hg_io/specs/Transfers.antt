-- What whole transfers do to the bytes that a source has left and a sink got, where those are known.
use Rattle.std.specs.Prelude.{ℕ, ◌≡◌, ◌<◌, ◌≤◌, List, length, take, ◌++◌, Option, Result, OnOk, OnErr}
use Rattle.std.specs.Io.KnownBytes.{Appends, Consumes}

-- a source lost more than `max` bytes from its front
abbrev pub ConsumesMoreThan : Option (List ℕ) → Option (List ℕ) → ℕ → Type 0
ConsumesMoreThan old new max = (bs : List ℕ) × (Consumes old new bs × (max < length bs))

-- a source lost at most `max` bytes from its front
abbrev pub ConsumesAtMost : Option (List ℕ) → Option (List ℕ) → ℕ → Type 0
ConsumesAtMost old new max = (bs : List ℕ) × (Consumes old new bs × (length bs ≤ max))

-- a sink got a prefix of bs
abbrev pub AppendsPrefix : Option (List ℕ) → Option (List ℕ) → List ℕ → Type 0
AppendsPrefix old new bs = (n : ℕ) × Appends old new (take n bs)

-- a sink got all of bs on Ok, and a prefix of it on Err
pub record PutsAll {T E : Type 0} (old new : Option (List ℕ)) (result : Result T E) (bs : List ℕ) : Type 0 where
  pub ok : OnOk result (Appends old new bs)
  pub err : OnErr result (AppendsPrefix old new bs)

-- what the sink got, and then what the pen holds, is what the pen held, and then bs
abbrev pub Passes : Option (List ℕ) → Option (List ℕ) → List ℕ → List ℕ → List ℕ → Type 0
Passes old new held holds bs = (put : List ℕ) × (Appends old new put × (put ++ holds ≡ held ++ bs))

-- bs went through a pen on Ok; on Err the sink got a prefix of what the pen held and bs
pub record Writes {T E : Type 0} (old new : Option (List ℕ)) (held holds : List ℕ) (result : Result T E) (bs : List ℕ) : Type 0 where
  pub ok : OnOk result (Passes old new held holds bs)
  pub err : OnErr result (AppendsPrefix old new (held ++ bs))
