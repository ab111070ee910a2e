use Rattle.std.proofs.Common.{◌≡◌, ◌∙◌, ◌++◌, ◌<◌, [], All, length, sym, ap, subst, arith}
use Rattle.std.proofs.lemmas.Result.{IfOk-weaker}
use Rattle.std.proofs.lemmas.List.{take_all}
use Rattle.std.proofs.lemmas.List.Elements.{All-weaker}
use Rattle.std.specs.List.{flat_map}
use Rattle.std.specs.Ordering.{nat_cmp}
use Rattle.hg_defs.specs.Hypergraph.{net_count}
use Rattle.hg_defs.specs.Incidence.{nets_of}
use Rattle.hg_defs.specs.Sorting.{set_of}
use Rattle.flow_pair.proofs.MemberLaws.{flat_map_next}
use Rattle.flow_pair.proofs.NetLaws.{inside_each}
use Rattle.flow_pair.proofs.network.nets_of_region.Goals as goal

pub loop-v-preserved : goal.loop-v-preserved
loop-v-preserved c =
    flat_map_next (nets_of c.args.h.now) c.args.region.now c.loop-v.v-index 0 [] c.loop-v.nets.items
    c.extend_from_slice.new.self.items c.loop-v-test.true
    (c.in_ok-extend_from_slice.ensures.items ∙ ap (λ nets. c.loop-v.nets.items ++ nets) c.nets_of.ensures.value) c.loop-v.invariant

pub distinct_of_many-requires : goal.distinct_of_many-requires
distinct_of_many-requires c =
    let all = c.loop-v.invariant ∙ ap (flat_map (nets_of c.args.h.now)) (take_all c.loop-v.v-index c.args.region.now c.loop-v-test.false) in
    All-weaker (λ e. e < net_count c.args.h.now) (λ e. e < length c.args.spots.now) (λ e l. let m = c.requires.spots in omega arith) c.loop-v.nets.items
    (subst (All (λ e. e < net_count c.args.h.now)) (sym all) (inside_each c.args.h.now c.args.region.now))

pub returns-clause-nets : goal.returns-clause-nets
returns-clause-nets c =
    let h = c.args.h.now in
    let region = c.args.region.now in
    let all = c.loop-v.invariant ∙ ap (flat_map (nets_of h)) (take_all c.loop-v.v-index region c.loop-v-test.false) in
    IfOk-weaker c.distinct_of_many.result (λ nets. nets.items ≡ set_of nat_cmp c.loop-v.nets.items)
    (λ nets. nets.items ≡ set_of nat_cmp (flat_map (nets_of h) region)) (λ nets e. e ∙ ap (set_of nat_cmp) all) c.distinct_of_many.ensures.set
