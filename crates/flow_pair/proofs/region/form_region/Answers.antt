use Rattle.std.proofs.Common.{◌≡◌, ◌++◌, ◌∙◌, ℕ, List, IfOk, sym, ap₂, subst}
use Rattle.std.specs.Ordering.{nat_cmp}
use Rattle.hg_defs.specs.Sorting.{set_of}
use Rattle.flow_pair.proofs.NetLaws.{touching_turned}
use Rattle.hg_defs.specs.Hypergraph.{IsHypergraph}
use Rattle.flow_pair.proofs.EndLaws.{sides-below}
use Rattle.flow_pair.proofs.region.form_region.Goals as goal

pub side_of-requires-2-clause-nets : goal.side_of-requires-2-clause-nets
side_of-requires-2-clause-nets c = c.requires.nets ∙ sym (touching_turned c.args.h.now c.args.p.now.blocks c.args.a c.args.b)

pub returns : goal.returns
returns c =
    subst (λ (xs : List ℕ). IfOk c.joined.result (λ region. region ≡ set_of nat_cmp xs))
    (ap₂ (λ (xs ys : List ℕ). xs ++ ys) c.in_ok-firsts.ensures c.in_ok-seconds.ensures) c.joined.ensures

pub joined-requires : goal.joined-requires
joined-requires c =
    let h = c.args.h.now in
    let p = c.args.p.now in
    let sound = subst IsHypergraph c.requires.belongs c.blocks-blocks.ensures.parted.sound in
    sides-below h p.limit p.blocks c.args.a c.args.b sound _ _ c.in_ok-firsts.ensures c.in_ok-seconds.ensures
