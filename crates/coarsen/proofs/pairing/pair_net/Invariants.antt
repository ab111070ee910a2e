-- The blocks before b were paired.
use Rattle.coarsen.proofs.SweepLaws.{IsPairing}
use Rattle.coarsen.proofs.pairing.pair_net.Given as goal

abbrev pub invariant-loop-b : goal.invariant-loop-b
invariant-loop-b l = IsPairing l.h l.cap l.k l.blocks l.pins l.initial.roots l.initial.single l.b l.roots l.single
