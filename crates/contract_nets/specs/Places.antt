-- How places of nets are kept as numbers.
use Rattle.std.specs.Prelude.{ℕ, nat_eq, if◌then◌else◌}
use Rattle.contract_nets.specs.declared.ledger.Merged.{Merged}
use Rattle.contract_nets.specs.declared.ledger.Merged.TheVariants.{Dropped, Into}
use Rattle.contract_nets.specs.declared.ledger.TheConstants.{DROPPED}

-- what a number stands for
abbrev pub read_place : ℕ → Merged
read_place i = if nat_eq i DROPPED then Dropped else Into i
