use Rattle.std.proofs.Common.{ℕ, ◌<◌, get_or, All, Contains}
use Rattle.hg_defs.specs.declared.moves.Move.{Move}
use Rattle.hg_defs.specs.Hypergraph.{net_count}
use Rattle.hg_defs.specs.Incidence.{nets_of}
use Rattle.rollback_prefix.specs.Gains.{IsInRun}
use Rattle.rollback_prefix.proofs.NetLaws.{AreSeen}
use Rattle.rollback_prefix.proofs.nets.touched_nets.Given as goal

-- the nets of the moves so far were seen
abbrev pub invariant-loop-step : goal.invariant-loop-step
invariant-loop-step l = record {
  seen : AreSeen l.first l.end l.seen.items l.nets.items;
  below : All (λ e. e < net_count l.h) l.nets.items;
  all : (j : ℕ) (d : Move) (e : ℕ) → j < l.step-index → Contains (nets_of l.h (get_or l.moves j d).vertex) e → IsInRun l.first l.end e →
      Contains l.nets.items e;
}

-- and those of the move at hand
abbrev pub invariant-loop-e : goal.invariant-loop-e
invariant-loop-e l = record {
  seen : AreSeen l.first l.end l.seen.items l.nets.items;
  below : All (λ e. e < net_count l.h) l.nets.items;
  all : (j : ℕ) (d : Move) (e : ℕ) → j < l.step-index → Contains (nets_of l.h (get_or l.moves j d).vertex) e → IsInRun l.first l.end e →
      Contains l.nets.items e;
  row : (j : ℕ) → j < l.e-index → IsInRun l.first l.end (get_or l.e-items j 0) → Contains l.nets.items (get_or l.e-items j 0);
}
