-- Counts of faults, and the answers that they account for.
use Rattle.std.specs.Prelude.{◌≡◌, ℕ, ◌+◌, ◌-◌, ◌^◌, ◌≤◌, min, Result, OnOk, OnErr, if◌then◌else◌, is_ok}

-- the next count: a count of 64 bits stands still at its last value
abbrev pub next_count : ℕ → ℕ
next_count count = min (count + 1) (2 ^ 64 - 1)

-- the count rose in the call, or stands at its last value
abbrev pub Rose : ℕ → ℕ → Type 0
Rose before now = next_count before ≤ now

-- the count never falls, an Err comes only where it rose, and an Ok counts no fault
pub record HasCause {T E : Type 0} (before now : ℕ) (result : Result T E) : Type 0 where
  pub later : before ≤ now
  pub failed : OnErr result (Rose before now)
  pub kept : OnOk result (now ≡ before)

-- the count after an answer that counts each Err once
abbrev pub counted : {T E : Type 0} → ℕ → Result T E → ℕ
counted before result = if is_ok result then before else next_count before
