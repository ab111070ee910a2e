use Rattle.part_run.proofs.NumberLaws.{numbers-spelled, imbalances-spelled, imbalances-these}
use Rattle.part_run.proofs.laws.numbers_of_words.Goals as goal

pub returns-clause-numbers : goal.returns-clause-numbers
returns-clause-numbers c = numbers-spelled

pub returns-clause-imbalances : goal.returns-clause-imbalances
returns-clause-imbalances c = imbalances-spelled

pub returns-clause-these : goal.returns-clause-these
returns-clause-these c = imbalances-these
