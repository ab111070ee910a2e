-- The wishes so far were granted, where there was room.
use Rattle.det_sync.proofs.GrantLaws.{IsGranted}
use Rattle.det_sync.proofs.rounds.admit.Given as goal

abbrev pub invariant-wishes : goal.invariant-wishes
invariant-wishes l = IsGranted l.h l.p.k l.p.limit l.p.blocks l.wishes l.v-index l.moves.items l.loads.items
