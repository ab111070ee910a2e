-- What contracts see of a source over memory.
use Rattle.std.specs.Prelude.{ℕ, List, drop, Result, Ok, Err}
use Rattle.hg_io.specs.Faults.{next_count}

-- the bytes left, the numbers of the takes that fail, the most bytes of a take, and the takes and faults so far
pub record Supply : Type 0 where
  pub left : List ℕ
  pub fail : List ℕ
  pub step : ℕ
  pub takes : ℕ
  pub faults : ℕ

-- the source after a take: it gave the first n bytes left, or it failed and gave none
abbrev pub after_take : {E : Type 0} → Supply → Result ℕ E → Supply
after_take s (Ok n) = record s { left = drop n s.left; takes = next_count s.takes }
after_take s (Err e) = record s { takes = next_count s.takes; faults = next_count s.faults }
