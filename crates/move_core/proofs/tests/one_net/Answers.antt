use Rattle.std.proofs.Common.{rules, ◌≡◌, ◌<◌, All, sym, ap, ◌∙◌, subst}
use Rattle.std.proofs.lemmas.List.{length-replicate}
use Rattle.hg_defs.specs.Hypergraph.{vertex_count}
use Rattle.move_core.proofs.tests.one_net.Goals as goal

pub push_net-requires-clause-vertices : goal.push_net-requires-clause-vertices
push_net-requires-clause-vertices g c =
    let below : All (λ v. v < c.args.vertices) c.loop-v.pins.items = search rules in
    let count : vertex_count c.in_ok-h.h ≡ c.args.vertices = ap vertex_count c.in_ok-h.ensures.value ∙ length-replicate c.args.vertices 1 in
    let same : c.deref-2.result.now ≡ c.loop-v.pins.items = search rules in
    subst (λ pins. All (λ v. v < vertex_count c.in_ok-h.h) pins) (sym same) (subst (λ n. All (λ v. v < n) c.loop-v.pins.items) (sym count) below)
