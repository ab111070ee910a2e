-- The first vertex that may go anywhere, to its lowest block.
use Rattle.std.proofs.Common.{subst, arith}
use Rattle.hg_defs.specs.Hypergraph.{Hyper}
use Rattle.pin_plain.specs.Parted.{IsParted}
use Rattle.fm_search.proofs.PossibleLaws.{first_from, none_possible}
use Rattle.fm_search.proofs.possible.first_possible.Goals as goal

pub returns-in-Some-clause-some : goal.returns-in-Some-clause-some
returns-in-Some-clause-some c =
    first_from c.args.h.now c.args.p.now.k c.args.p.now.limit c.args.p.now.blocks
    (subst (λ (x : Hyper). IsParted x c.args.p.now.k c.args.p.now.blocks) c.requires c.blocks-parted.ensures.parted)
    c.vertices.v c.in-Some.b c.in-Some.ensures.some c.vertices.invariant

pub returns-clause-none : goal.returns-clause-none
returns-clause-none c =
    none_possible c.args.h.now c.args.p.now.k c.args.p.now.limit c.args.p.now.blocks
    (subst (λ (x : Hyper). IsParted x c.args.p.now.k c.args.p.now.blocks) c.requires c.blocks-parted.ensures.parted)
    (λ u b l. let n = c.vertices-v-end.ensures.count in c.vertices.invariant u b (omega (arith, c.vertices-test.false)))
