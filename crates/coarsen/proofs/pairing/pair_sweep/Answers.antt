-- Every vertex alone is a clustering by roots.
use Rattle.std.proofs.Common.{◌≡◌, List, sym, subst}
use Rattle.hg_defs.specs.Numbering.{IsRooted}
use Rattle.hg_defs.proofs.PairingLaws.{alone_is_rooted}
use Rattle.coarsen.proofs.pairing.pair_sweep.Goals as goal

pub pair_all-requires : goal.pair_all-requires
pair_all-requires c = subst (IsRooted c.args.h.now c.args.cap) (sym c.in_ok-all_alone.ensures) (alone_is_rooted c.args.h.now c.args.cap)
