use Rattle.std.proofs.Common.{◌≡◌, All, map}
use Rattle.fm_search.specs.Standing.{standing_of}
use Rattle.fm_search.proofs.race.workers_of.Given as goal

abbrev pub invariant-passes : goal.invariant-passes
invariant-passes l = record {
  movers : map (λ w. w.mover) l.workers.items ≡ map standing_of l.yielded;
  blocks : All (λ w. w.desk.blocks ≡ l.k) l.workers.items;
  desks : All (λ d. d.blocks ≡ l.k) l.desks.items;
}
