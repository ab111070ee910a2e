use Rattle.uncoarsen.proofs.LegalLaws.{three_kinds_refine, three_kinds_are_legal}
use Rattle.uncoarsen.proofs.laws.three_kinds.Goals as goal

pub returns-clause-level : goal.returns-clause-level
returns-clause-level c = three_kinds_refine

pub returns-clause-legal : goal.returns-clause-legal
returns-clause-legal c = three_kinds_are_legal
