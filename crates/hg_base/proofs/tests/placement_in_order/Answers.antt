-- The two vertices are free, and the order has them the other way round.
use Rattle.std.proofs.Common.{[], ◌∷◌, refl, sym, subst, arith}
use Rattle.hg_defs.specs.Hypergraph.{Hyper}
use Rattle.hg_defs.specs.PlacementLaws.{ListsFree}
use Rattle.hg_base.proofs.tests.placement_in_order.Goals as goal

pub least_loaded-requires-clause-listed : goal.least_loaded-requires-clause-listed
least_loaded-requires-clause-listed g c =
    subst (λ (h : Hyper). ListsFree h (1 ∷ 0 ∷ [])) (sym c.in_ok-h.ensures.value)
    (record { moves = (0, 1) ∷ []; below = (omega arith, omega arith, tt); is = refl })
