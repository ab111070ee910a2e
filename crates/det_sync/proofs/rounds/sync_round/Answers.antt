use Rattle.std.proofs.Common.{ap, subst, arith}
use Rattle.hg_defs.specs.Hypergraph.{Hyper}
use Rattle.hg_defs.specs.Partition.{IsPartition}
use Rattle.hg_defs.specs.Cost.{cost}
use Rattle.hg_defs.proofs.SynchronousLaws.{unsettled-lower}
use Rattle.pin_plain.specs.Parted.{Parted}
use Rattle.det_sync.proofs.rounds.sync_round.Goals as goal

pub returns-clause-cheaper : goal.returns-clause-cheaper
returns-clause-cheaper g c =
    let whole = subst (λ (x : Hyper). IsPartition x c.args.p.k c.args.p.blocks) c.requires.belongs c.blocks-parted.ensures.parted.partition in
    let less = unsettled-lower c.args.h.now c.args.p.k c.args.p.limit c.args.p.blocks whole c.requires.fits c.requires.unsettled in
    let is = ap (λ (x : Parted). cost c.args.h.now x.blocks) c.in_ok-grant_best.ensures.partition in
    omega arith
