use Rattle.std.proofs.Common.{◌≡◌, true}
use Rattle.hg_defs.specs.Cost.{cost}
use Rattle.label_prop.proofs.PassLaws.{IsUnderway}
use Rattle.label_prop.proofs.pass.label_pass.Given as goal

abbrev pub invariant-turns : goal.invariant-turns
invariant-turns g l = record {
  underway : IsUnderway l.h l.task l.fn.p l.fn.tally l.fn.log l.counter true l.part l.tally l.log;
  cost_is : l.cost ≡ cost l.h l.part.blocks;
}
