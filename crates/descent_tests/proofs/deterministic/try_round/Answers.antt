-- The partition was seen to fit.
use Rattle.std.proofs.Common.{rules, IsTrue, ap, subst}
use Rattle.hg_defs.specs.Hypergraph.{Hyper}
use Rattle.hg_defs.specs.Partition.{Fits}
use Rattle.pin_plain.specs.Parted.{Parted}
use Rattle.descent_tests.proofs.deterministic.try_round.Goals as goal

pub sync_round-requires-clause-fits : goal.sync_round-requires-clause-fits
sync_round-requires-clause-fits g c κs within =
    let seen : IsTrue c.fits.result = search rules in
    subst (λ (x : Hyper). Fits x c.in_ok-p.p.k c.in_ok-p.p.limit c.in_ok-p.p.blocks) (ap (λ (x : Parted). x.hyper) c.in_ok-p.ensures)
    (c.fits.ensures.0 seen)
