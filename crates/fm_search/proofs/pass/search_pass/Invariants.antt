use Rattle.std.proofs.Common.{◌≡◌, true}
use Rattle.hg_defs.specs.Cost as costs
use Rattle.fm_search.specs.Memory.{IsMemoryFor}
use Rattle.fm_search.proofs.PassLaws.{IsUnderway}
use Rattle.fm_search.proofs.pass.search_pass.Given as goal

abbrev pub invariant-rounds : goal.invariant-rounds
invariant-rounds g l = record {
  underway : IsUnderway l.h l.task l.fn.p l.fn.tally l.fn.log l.counter true l.part l.tally l.log;
  memory : IsMemoryFor l.part.k l.memory;
  cost : l.cost ≡ costs.cost l.h l.part.blocks;
}
