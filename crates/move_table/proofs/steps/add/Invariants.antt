use Rattle.move_core.specs.Events.{word_of}
use Rattle.move_table.specs.Places.{number_in}
use Rattle.move_table.specs.Steps.{acted}
use Rattle.move_table.specs.Standing.{terms_setup}
use Rattle.move_table.specs.Seen.{IsKnownFound}
use Rattle.move_table.proofs.steps.add.Given as goal

abbrev pub ghosts-add_as : goal.ghosts-add_as
ghosts-add_as a = record {
  after = λ n v. acted a.event (number_in (terms_setup v.terms) (word_of (terms_setup v.terms) a.event v.account) n) v;
  told = λ v n. IsKnownFound (terms_setup v.terms) a.event v.account (number_in (terms_setup v.terms) (word_of (terms_setup v.terms) a.event v.account) n);
}
