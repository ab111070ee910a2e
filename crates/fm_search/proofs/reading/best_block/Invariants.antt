use Rattle.std.proofs.Common.{◌≡◌, ◌≢◌, ◌<◌, IfSome}
use Rattle.fm_search.proofs.reading.best_block.Given as goal

abbrev pub invariant-places : goal.invariant-places
invariant-places l = record {
  mover : l.mover ≡ l.fn.mover;
  block : IfSome l.best (λ c. c.to < l.shared.k);
  other : IfSome l.best (λ c. c.to ≢ l.block);
}
