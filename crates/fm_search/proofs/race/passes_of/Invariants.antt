use Rattle.std.proofs.Common.{◌≡◌, All, map}
use Rattle.move_core.specs.declared.account.Stage.TheVariants.{Idle}
use Rattle.fm_search.specs.Standing.{standing_of}
use Rattle.fm_search.proofs.race.passes_of.Given as goal

abbrev pub invariant-workers : goal.invariant-workers
invariant-workers l = record {
  movers : map standing_of l.passes.items ≡ map (λ w. w.mover) l.yielded;
  idle : All (λ p. p.view.account.stage ≡ Idle) l.passes.items;
  desks : All (λ d. d.blocks ≡ l.k) l.desks.items;
}
