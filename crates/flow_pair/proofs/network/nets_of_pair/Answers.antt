use Rattle.std.proofs.Common.{◌≡◌, ◌∙◌, ◌++◌, ◌<◌, All, length, map, sym, ap, subst, arith}
use Rattle.std.proofs.lemmas.Result.{IfOk-weaker}
use Rattle.std.proofs.lemmas.List.Elements.{All-weaker}
use Rattle.std.specs.List.{flat_map}
use Rattle.std.specs.Ordering.{nat_cmp}
use Rattle.std.proofs.lemmas.List.{take_all}
use Rattle.hg_defs.specs.Hypergraph.{net_count, net_of}
use Rattle.hg_defs.specs.Incidence.{nets_of}
use Rattle.hg_defs.specs.Sorting.{set_of}
use Rattle.flow_pair.specs.PairNetwork.{joined_nets}
use Rattle.flow_pair.proofs.MemberLaws.{flat_map_next}
use Rattle.flow_pair.proofs.NetLaws.{all_of, all_from_set, joined_numbers, joined_below, joined_listed}
use Rattle.flow_pair.proofs.network.nets_of_pair.Goals as goal

pub loop-v-preserved : goal.loop-v-preserved
loop-v-preserved c =
    let s = c.args.pair in
    flat_map_next (nets_of s.h.now) s.region.now c.loop-v.v-index 0 c.args.touching.now c.loop-v.nets.items
    c.extend_from_slice.new.self.items c.loop-v-test.true
    (c.in_ok-extend_from_slice.ensures.items ∙ ap (λ nets. c.loop-v.nets.items ++ nets) c.nets_of.ensures.value) c.loop-v.invariant

pub returns-clause-nets : goal.returns-clause-nets
returns-clause-nets c =
    let s = c.args.pair in
    let h = s.h.now in
    let all = c.loop-v.invariant ∙ ap (λ vs. c.args.touching.now ++ flat_map (nets_of h) vs) (take_all c.loop-v.v-index s.region.now c.loop-v-test.false) in
    let joined = ap (set_of nat_cmp) (all ∙ ap (λ es. es ++ flat_map (nets_of h) s.region.now) c.requires.touching) in
    IfOk-weaker c.distinct_of_many.result (λ nets. nets.items ≡ set_of nat_cmp c.loop-v.nets.items) (λ nets. All (λ e. e < net_count h) nets.items)
    (λ nets is.
    subst (All (λ e. e < net_count h)) (sym (is ∙ joined)) (all_of (λ e. e < net_count h) (joined_numbers h s.blocks.now s.first s.second s.region.now)
    (λ e d. (joined_below h s.blocks.now s.first s.second s.region.now e d).0)))
    c.distinct_of_many.ensures.set

pub returns-clause-joined : goal.returns-clause-joined
returns-clause-joined c =
    let s = c.args.pair in
    let h = s.h.now in
    let all = c.loop-v.invariant ∙ ap (λ vs. c.args.touching.now ++ flat_map (nets_of h) vs) (take_all c.loop-v.v-index s.region.now c.loop-v-test.false) in
    let joined = ap (set_of nat_cmp) (all ∙ ap (λ es. es ++ flat_map (nets_of h) s.region.now) c.requires.touching) in
    IfOk-weaker c.distinct_of_many.result (λ nets. nets.items ≡ set_of nat_cmp c.loop-v.nets.items)
    (λ nets. map (net_of h) nets.items ≡ joined_nets h s.blocks.now s.first s.second s.region.now)
    (λ nets is. ap (map (net_of h)) (is ∙ joined) ∙ joined_listed h s.blocks.now s.first s.second s.region.now) c.distinct_of_many.ensures.set

pub distinct_of_many-requires : goal.distinct_of_many-requires
distinct_of_many-requires c =
    let s = c.args.pair in
    let h = s.h.now in
    let all = c.loop-v.invariant ∙ ap (λ vs. c.args.touching.now ++ flat_map (nets_of h) vs) (take_all c.loop-v.v-index s.region.now c.loop-v-test.false) in
    let nets = all ∙ ap (λ es. es ++ flat_map (nets_of h) s.region.now) c.requires.touching in
    All-weaker (λ e. e < net_count h) (λ e. e < length c.args.spots.now) (λ e l. let m = c.requires.spots in omega arith) c.loop-v.nets.items
    (subst (All (λ e. e < net_count h)) (sym nets) (all_from_set (λ e. e < net_count h) _
    (all_of (λ e. e < net_count h) (joined_numbers h s.blocks.now s.first s.second s.region.now)
    (λ e d. (joined_below h s.blocks.now s.first s.second s.region.now e d).0))))
