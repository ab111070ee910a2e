-- What contracts see of a stream, of a file, and of a source or sink at a place.
use Rattle.std.specs.Prelude.{ℕ, Bool, List, Option}
use Rattle.hg_io.specs.declared.place.Place.{Place}

-- the faults so far, the bytes where the stream tells them, and whether some are held back
pub record Stream : Type 0 where
  pub faults : ℕ
  pub bytes : Option (List ℕ)
  pub held : Bool

-- the name of a file, whether it is open, the faults so far, and whether bytes are held back
pub record Filed : Type 0 where
  pub name : List ℕ
  pub opened : Bool
  pub faults : ℕ
  pub held : Bool

-- the place that is read or written, or Nothing, the faults so far, and whether bytes are held back
pub record End : Type 0 where
  pub place : Place
  pub faults : ℕ
  pub held : Bool
