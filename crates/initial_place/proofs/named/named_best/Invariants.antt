-- Greedy placement and the placements in the orders so far were tried.
use Rattle.std.proofs.Common.{◌∷◌}
use Rattle.hg_defs.specs.LeastLoaded.{greedy}
use Rattle.initial_place.specs.Leading.{Leads}
use Rattle.initial_place.proofs.LeadLaws.{drawn_upto}
use Rattle.initial_place.proofs.named.named_best.Given as goal

abbrev pub invariant-streams : goal.invariant-streams
invariant-streams g l = Leads l.h l.k l.limit (greedy l.h l.k ∷ drawn_upto l.h l.k l.seed l.stream) l.leader
