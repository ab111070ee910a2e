-- The nets so far are tallied.
use Rattle.pin_plain.specs.Tallies.{AreTallied}
use Rattle.pin_plain.proofs.tallies.tally_run.Given as goal

abbrev pub invariant-loop-e : goal.invariant-loop-e
invariant-loop-e l = AreTallied l.nets.h.now l.nets.k l.nets.blocks.now l.from l.e l.place l.words
