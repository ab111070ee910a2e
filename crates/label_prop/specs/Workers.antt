-- What a worker keeps of its pass between two visits.
use Rattle.std.specs.Prelude.{◌≡◌, ℕ}
use Rattle.move_core.specs.declared.account.Stage.TheVariants.{Idle}
use Rattle.move_table.specs.Calls.{RacedRound, RacedPass, IsPassOf}

-- the pass of this number of a round, which holds no grant
pub record IsIdlePass (r : RacedRound) (number : ℕ) (p : RacedPass) : Type 0 where
  pub belongs : IsPassOf r p
  pub numbered : p.view.number ≡ number
  pub idle : p.view.account.stage ≡ Idle
