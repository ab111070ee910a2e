use Rattle.std.proofs.Common.{inr, rules}
use Rattle.part_run.proofs.reading.read_graph.Goals as goal

pub returns-in-Err-TooLarge-clause-answer : goal.returns-in-Err-TooLarge-clause-answer
returns-in-Err-TooLarge-clause-answer g c = inr (record { bytes = c.in-Ok.bytes.items; read = search rules; spelled = search rules })
