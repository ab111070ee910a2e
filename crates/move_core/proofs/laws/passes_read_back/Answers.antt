-- The law, from the lemmas on what is read back.
use Rattle.move_core.proofs.ReadBack.{names_back, claims_back, counts_back, loads_back, cursor_back, name_below, unmoved_back}
use Rattle.move_core.proofs.laws.passes_read_back.Goals as goal

pub returns-clause-names : goal.returns-clause-names
returns-clause-names c = λ g r accounts i b. names_back g r accounts b i

pub returns-clause-claims : goal.returns-clause-claims
returns-clause-claims c = λ g r accounts i v b h. claims_back g r accounts b i v h

pub returns-clause-counts : goal.returns-clause-counts
returns-clause-counts c = λ g r accounts i e k ok b l m. counts_back g r accounts b ok i e k l m

pub returns-clause-loads : goal.returns-clause-loads
returns-clause-loads c = λ g r accounts i k ok b l. loads_back g r accounts b ok i k l

pub returns-clause-cursor : goal.returns-clause-cursor
returns-clause-cursor c = λ g r accounts i b. cursor_back g r accounts b i

pub returns-clause-blocks : goal.returns-clause-blocks
returns-clause-blocks c = λ g r accounts v ok b l. name_below g r accounts b ok v l

pub returns-clause-unmoved : goal.returns-clause-unmoved
returns-clause-unmoved c = λ g r accounts i v b h z. unmoved_back g r accounts b i v h z
