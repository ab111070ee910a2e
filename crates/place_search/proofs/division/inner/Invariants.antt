use Rattle.place_search.proofs.InnerLaws.{IsInner}
use Rattle.place_search.proofs.division.inner.Given as goal

abbrev pub invariant-loop-e : goal.invariant-loop-e
invariant-loop-e l = IsInner l.h l.flat l.e l.count
