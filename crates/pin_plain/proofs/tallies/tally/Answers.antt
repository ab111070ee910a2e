use Rattle.std.proofs.Common.{subst, sym}
use Rattle.pin_plain.specs.Tallies.{HaveRoom}
use Rattle.pin_plain.proofs.RunLaws.{all_room}
use Rattle.pin_plain.proofs.tallies.tally.Goals as goal

pub tally_run-requires : goal.tally_run-requires
tally_run-requires c =
    let nets = c.args.nets.now in
    let parted = nets.parted in
    subst (λ n. HaveRoom nets.h.now nets.k 0 n 0 c.args.words.now) (sym c.nets.ensures.count)
    (all_room nets.h.now nets.k c.args.words.now parted.some parted.few parted.bounds parted.suits c.requires)
