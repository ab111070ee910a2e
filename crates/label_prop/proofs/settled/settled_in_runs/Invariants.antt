use Rattle.std.proofs.Common.{All}
use Rattle.label_prop.specs.Runs.{AreNotes}
use Rattle.label_prop.proofs.settled.settled_in_runs.Given as goal

abbrev pub invariant-loop : goal.invariant-loop
invariant-loop g l = All (λ notes. AreNotes l.h l.p.k l.p.limit l.p.blocks l.runs notes.items) l.lists.items
