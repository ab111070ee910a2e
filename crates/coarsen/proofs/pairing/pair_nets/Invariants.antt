-- The nets before e were visited.
use Rattle.coarsen.proofs.SweepLaws.{IsSweeping}
use Rattle.coarsen.proofs.pairing.pair_nets.Given as goal

abbrev pub invariant-loop-e : goal.invariant-loop-e
invariant-loop-e l = IsSweeping l.h l.cap l.k l.blocks l.initial.roots l.initial.single.items l.e l.roots l.single.items
