use Rattle.std.proofs.Common.{◌≡◌}
use Rattle.hg_make.proofs.MadeLemmas.{made_first}
use Rattle.hg_make.proofs.generate.make.Given as goal

abbrev pub invariant-nets : goal.invariant-nets
invariant-nets l = l.h ≡ made_first l.n l.i
