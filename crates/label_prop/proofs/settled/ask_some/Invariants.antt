use Rattle.label_prop.specs.Runs.{AreNotes}
use Rattle.label_prop.proofs.settled.ask_some.Given as goal

abbrev pub invariant-loop : goal.invariant-loop
invariant-loop l = AreNotes l.h l.p.k l.p.limit l.p.blocks l.runs l.notes.items
