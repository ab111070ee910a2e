-- A vertex that may go somewhere is a possible move.
use Rattle.std.proofs.Common.{refl, subst}
use Rattle.hg_defs.specs.Hypergraph.{Hyper}
use Rattle.pin_plain.specs.Parted.{IsParted}
use Rattle.fm_search.proofs.PossibleLaws.{possible_by}
use Rattle.fm_search.proofs.possible.is_possible.Goals as goal

pub returns-in-Some : goal.returns-in-Some
returns-in-Some c = (
  λ t.
      possible_by c.args.h.now c.args.p.now.k c.args.p.now.limit c.args.p.now.blocks
      (subst (λ (x : Hyper). IsParted x c.args.p.now.k c.args.p.now.blocks) c.requires c.blocks-parted.ensures.parted) _ _ c.in-Some.ensures.some,
  λ some. refl,
)
