use Rattle.move_core.specs.Events.{word_of}
use Rattle.move_table.specs.Places.{number_in}
use Rattle.move_table.specs.Steps.{acted}
use Rattle.move_table.specs.Standing.{terms_setup}
use Rattle.move_table.specs.Seen.{IsKnownFound, AreCountsRead}
use Rattle.move_table.proofs.steps.load.Given as goal

abbrev pub ghosts-load_as : goal.ghosts-load_as
ghosts-load_as a = record {
  after = λ n v. acted a.event (number_in (terms_setup v.terms) (word_of (terms_setup v.terms) a.event v.account) n) v;
  told = λ v n. IsKnownFound (terms_setup v.terms) a.event v.account (number_in (terms_setup v.terms) (word_of (terms_setup v.terms) a.event v.account) n)
      × AreCountsRead (terms_setup v.terms) v.account a.word n;
}
