-- The stages of a pass: their parts, the tests on them, and what becomes of them.
use Rattle.std.specs.Prelude.{ℕ, ◌+◌, List, [], ◌∷◌, ℤ, pos, ◌+ℤ◌, Bool, true, false, nat_eq, if◌then◌else◌}
use Rattle.hg_defs.specs.declared.moves.Move.{Move}
use Rattle.move_core.specs.declared.account.Owed.{Owed}
use Rattle.move_core.specs.declared.account.Owed.TheVariants.{Nothing, Up, Down}
use Rattle.move_core.specs.declared.account.Stage.{Stage}
use Rattle.move_core.specs.declared.account.Stage.TheVariants.{Idle, Refused, Granted, Moving}

-- the parts of a stage; 0 where it has none
abbrev pub vertex_at : Stage → ℕ
vertex_at Idle = 0
vertex_at (Refused v to seen) = v
vertex_at (Granted v from to seen) = v
vertex_at (Moving v from to number named raised lowered owed booked) = v

abbrev pub to_at : Stage → ℕ
to_at Idle = 0
to_at (Refused v to seen) = to
to_at (Granted v from to seen) = to
to_at (Moving v from to number named raised lowered owed booked) = to

abbrev pub from_at : Stage → ℕ
from_at Idle = 0
from_at (Refused v to seen) = 0
from_at (Granted v from to seen) = from
from_at (Moving v from to number named raised lowered owed booked) = from

abbrev pub raised_at : Stage → ℕ
raised_at Idle = 0
raised_at (Refused v to seen) = 0
raised_at (Granted v from to seen) = 0
raised_at (Moving v from to number named raised lowered owed booked) = raised

abbrev pub lowered_at : Stage → ℕ
lowered_at Idle = 0
lowered_at (Refused v to seen) = 0
lowered_at (Granted v from to seen) = 0
lowered_at (Moving v from to number named raised lowered owed booked) = lowered

abbrev pub booked_at : Stage → ℤ
booked_at Idle = pos 0
booked_at (Refused v to seen) = pos 0
booked_at (Granted v from to seen) = pos 0
booked_at (Moving v from to number named raised lowered owed booked) = booked

-- the tests on stages
abbrev pub is_idle : Stage → Bool
is_idle Idle = true
is_idle (Refused v to seen) = false
is_idle (Granted v from to seen) = false
is_idle (Moving v from to number named raised lowered owed booked) = false

abbrev pub is_reserved : Stage → Bool
is_reserved Idle = false
is_reserved (Refused v to seen) = true
is_reserved (Granted v from to seen) = true
is_reserved (Moving v from to number named raised lowered owed booked) = false

abbrev pub is_granted : Stage → Bool
is_granted Idle = false
is_granted (Refused v to seen) = false
is_granted (Granted v from to seen) = true
is_granted (Moving v from to number named raised lowered owed booked) = false

abbrev pub owes_nothing : Owed → Bool
owes_nothing Nothing = true
owes_nothing Up = false
owes_nothing Down = false

abbrev pub owes_up : Owed → Bool
owes_up Nothing = false
owes_up Up = true
owes_up Down = false

abbrev pub owes_down : Owed → Bool
owes_down Nothing = false
owes_down Up = false
owes_down Down = true

-- a test on a move in its middle
abbrev pub is_moving : (Bool → ℕ → ℕ → Owed → Bool) → Stage → Bool
is_moving test Idle = false
is_moving test (Refused v to seen) = false
is_moving test (Granted v from to seen) = false
is_moving test (Moving v from to number named raised lowered owed booked) = test named raised lowered owed

-- what becomes of a stage when a number is drawn, the name written, a net raised or lowered, and a gain booked
abbrev pub drawn_stage : ℕ → Stage → Stage
drawn_stage found Idle = Idle
drawn_stage found (Refused v to seen) = Refused v to seen
drawn_stage found (Granted v from to seen) = Moving v from to found false 0 0 Nothing (pos 0)
drawn_stage found (Moving v from to number named raised lowered owed booked) =
    Moving v from to number named raised lowered owed booked

abbrev pub named_stage : Stage → Stage
named_stage Idle = Idle
named_stage (Refused v to seen) = Refused v to seen
named_stage (Granted v from to seen) = Granted v from to seen
named_stage (Moving v from to number named raised lowered owed booked) =
    Moving v from to number true raised lowered owed booked

abbrev pub raised_stage : ℕ → Stage → Stage
raised_stage found Idle = Idle
raised_stage found (Refused v to seen) = Refused v to seen
raised_stage found (Granted v from to seen) = Granted v from to seen
raised_stage found (Moving v from to number named raised lowered owed booked) =
    Moving v from to number named (raised + 1) lowered (if nat_eq found 0 then Up else owed) booked

abbrev pub lowered_stage : ℕ → Stage → Stage
lowered_stage found Idle = Idle
lowered_stage found (Refused v to seen) = Refused v to seen
lowered_stage found (Granted v from to seen) = Granted v from to seen
lowered_stage found (Moving v from to number named raised lowered owed booked) =
    Moving v from to number named raised (lowered + 1) (if nat_eq found 1 then Down else owed) booked

abbrev pub booked_stage : ℤ → Stage → Stage
booked_stage gain Idle = Idle
booked_stage gain (Refused v to seen) = Refused v to seen
booked_stage gain (Granted v from to seen) = Granted v from to seen
booked_stage gain (Moving v from to number named raised lowered owed booked) =
    Moving v from to number named raised lowered Nothing (booked +ℤ gain)

-- the move of a stage, made by a pass, and its number
abbrev pub move_at : ℕ → Stage → List Move
move_at i Idle = []
move_at i (Refused v to seen) = []
move_at i (Granted v from to seen) = []
move_at i (Moving v from to number named raised lowered owed booked) =
    record { vertex = v; from = from; to = to; worker = i; booked = booked } ∷ []

abbrev pub number_at : Stage → List ℕ
number_at Idle = []
number_at (Refused v to seen) = []
number_at (Granted v from to seen) = []
number_at (Moving v from to number named raised lowered owed booked) = number ∷ []
