use Rattle.move_table.specs.Steps.{acted, overwritten}
use Rattle.move_table.specs.Standing.{terms_setup}
use Rattle.move_table.specs.Seen.{IsKnownFound}
use Rattle.move_table.proofs.steps.store.Given as goal

abbrev pub ghosts-store_as : goal.ghosts-store_as
ghosts-store_as a = record {
  after = λ n v. acted a.event (overwritten (terms_setup v.terms) a.event v.account) v;
  told = λ v n. IsKnownFound (terms_setup v.terms) a.event v.account (overwritten (terms_setup v.terms) a.event v.account);
}
