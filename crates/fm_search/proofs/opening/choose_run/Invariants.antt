use Rattle.std.proofs.Common.{◌≡◌, All, length}
use Rattle.fm_search.specs.Opened.{IsBelow}
use Rattle.fm_search.proofs.opening.choose_run.Given as goal

abbrev pub invariant-vertices : goal.invariant-vertices
invariant-vertices l = record {
  long : length l.run ≡ length l.fn.run;
  below : All (IsBelow l.terms.part.k) l.run;
}
