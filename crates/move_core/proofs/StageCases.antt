-- Proofs by the stage at which an event is enabled.
use Rattle.std.proofs.Common.{◌≡◌, ℕ, Bool, true, false, ℤ, sym}
use Rattle.std.proofs.lemmas.Bool.{true≢false}
use Rattle.move_core.specs.declared.account.Owed.{Owed}
use Rattle.move_core.specs.declared.account.Owed.TheVariants.{Nothing, Up, Down}
use Rattle.move_core.specs.declared.account.Stage.{Stage}
use Rattle.move_core.specs.declared.account.Stage.TheVariants.{Idle, Refused, Granted, Moving}
use Rattle.move_core.specs.Stages.{is_idle, is_reserved, is_granted, is_moving, owes_nothing, owes_up, owes_down}

pub no : {P : Type 0} → false ≡ true → P
no h = absurd (true≢false (sym h))

pub on_idle : (P : Stage → Type 0) → P Idle → (stage : Stage) → is_idle stage ≡ true → P stage
on_idle P f Idle h = f
on_idle P f (Refused v to seen) h = no h
on_idle P f (Granted v from to seen) h = no h
on_idle P f (Moving v from to number named raised lowered owed booked) h = no h

pub on_reserved : (P : Stage → Type 0) → ((v to seen : ℕ) → P (Refused v to seen)) → ((v from to seen : ℕ) → P (Granted v from to seen)) → (stage : Stage)
    → is_reserved stage ≡ true → P stage
on_reserved P f g Idle h = no h
on_reserved P f g (Refused v to seen) h = f v to seen
on_reserved P f g (Granted v from to seen) h = g v from to seen
on_reserved P f g (Moving v from to number named raised lowered owed booked) h = no h

pub on_granted : (P : Stage → Type 0) → ((v from to seen : ℕ) → P (Granted v from to seen)) → (stage : Stage) → is_granted stage ≡ true → P stage
on_granted P f Idle h = no h
on_granted P f (Refused v to seen) h = no h
on_granted P f (Granted v from to seen) h = f v from to seen
on_granted P f (Moving v from to number named raised lowered owed booked) h = no h

pub on_moving : (test : Bool → ℕ → ℕ → Owed → Bool) (P : Stage → Type 0)
    → ((v from to number : ℕ) (named : Bool) (raised lowered : ℕ) (owed : Owed) (booked : ℤ) → test named raised lowered owed ≡ true
    → P (Moving v from to number named raised lowered owed booked)) → (stage : Stage) → is_moving test stage ≡ true → P stage
on_moving test P f Idle h = no h
on_moving test P f (Refused v to seen) h = no h
on_moving test P f (Granted v from to seen) h = no h
on_moving test P f (Moving v from to number named raised lowered owed booked) h = f v from to number named raised lowered owed booked h

pub on_nothing : (P : Owed → Type 0) → P Nothing → (owed : Owed) → owes_nothing owed ≡ true → P owed
on_nothing P f Nothing h = f
on_nothing P f Up h = no h
on_nothing P f Down h = no h

pub on_up : (P : Owed → Type 0) → P Up → (owed : Owed) → owes_up owed ≡ true → P owed
on_up P f Nothing h = no h
on_up P f Up h = f
on_up P f Down h = no h

pub on_down : (P : Owed → Type 0) → P Down → (owed : Owed) → owes_down owed ≡ true → P owed
on_down P f Nothing h = no h
on_down P f Up h = no h
on_down P f Down h = f
