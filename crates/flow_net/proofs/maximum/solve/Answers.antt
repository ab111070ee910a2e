use Rattle.std.proofs.Common.{◌≡◌, ◌*◌, ◌<◌, ◌∙◌, length, slice_index, true, false, subst, sym, arith}
use Rattle.std.proofs.lemmas.Bool.{eq-eqb, ne_eqb}
use Rattle.std.proofs.lemmas.List.{length-take-le}
use Rattle.flow_net.specs.Flow.{IsFilledCut, is_in, cut_capacity}
use Rattle.flow_net.proofs.CutLaws.{laid_nodes, laid_bounded, flow_holds, cut_holds, unreached_shut}
use Rattle.flow_net.proofs.maximum.solve.Goals as goal

pub link-requires-clause-nodes : goal.link-requires-clause-nodes
link-requires-clause-nodes c =
    let heads : length c.lay.new.heads ≡ 2 * length c.args.arcs.now =
    c.lay.auto.heads ∙ length-take-le (2 * length c.args.arcs.now) c.as_mut_slice.result.now (omega arith) in
    λ h l. subst (λ n. slice_index c.lay.new.heads h < n) (sym (length-take-le (length c.args.side.now) c.as_mut_slice-3.result.now (omega arith)))
    (laid_nodes (length c.args.side.now) c.args.arcs.now c.lay.new.heads c.lay.new.rests c.requires.joined c.lay.ensures h (omega arith))

pub maximize-requires-clause-bounded : goal.maximize-requires-clause-bounded
maximize-requires-clause-bounded c =
    let rests : length c.lay.new.rests ≡ 2 * length c.args.arcs.now =
    c.lay.auto.rests ∙ length-take-le (2 * length c.args.arcs.now) c.as_mut_slice-4.result.now (omega arith) in
    λ h l. laid_bounded (length c.args.side.now) c.args.arcs.now c.lay.new.heads c.lay.new.rests c.requires.joined c.lay.ensures h (omega arith)

pub flow_from-requires-clause-more : goal.flow_from-requires-clause-more
flow_from-requires-clause-more c =
    let heads : length c.lay.new.heads ≡ 2 * length c.args.arcs.now =
    c.lay.auto.heads ∙ length-take-le (2 * length c.args.arcs.now) c.as_mut_slice.result.now (omega arith) in
    let rests : length c.lay.new.rests ≡ 2 * length c.args.arcs.now =
    c.lay.auto.rests ∙ length-take-le (2 * length c.args.arcs.now) c.as_mut_slice-4.result.now (omega arith) in
    let cut =
    cut_holds (length c.args.side.now) c.args.source c.args.sink c.args.arcs.now c.write_flows.new.flows c.lay.new.heads c.lay.new.rests
    c.maximize.new.rests c.requires.joined c.requires.source c.requires.sink c.requires.apart
    heads rests (c.write_flows.auto.flows ∙ c.requires.flows) c.lay.ensures c.maximize.ensures.raised c.write_flows.ensures
    c.flag_near.new.near (c.flag_near.auto.near ∙ c.requires.near) c.flag_near.ensures.source c.flag_near.ensures.sink c.flag_near.ensures.shut in
    let flow = cut.flow in
    omega arith

pub returns-clause-flow : goal.returns-clause-flow
returns-clause-flow c =
    let heads : length c.lay.new.heads ≡ 2 * length c.args.arcs.now =
    c.lay.auto.heads ∙ length-take-le (2 * length c.args.arcs.now) c.as_mut_slice.result.now (omega arith) in
    let rests : length c.lay.new.rests ≡ 2 * length c.args.arcs.now =
    c.lay.auto.rests ∙ length-take-le (2 * length c.args.arcs.now) c.as_mut_slice-4.result.now (omega arith) in
    flow_holds (length c.args.side.now) c.args.source c.args.sink c.args.arcs.now c.write_flows.new.flows c.lay.new.heads c.lay.new.rests
    c.maximize.new.rests c.requires.joined c.requires.source c.requires.sink c.requires.apart
    heads rests (c.write_flows.auto.flows ∙ c.requires.flows) c.lay.ensures c.maximize.ensures.raised c.write_flows.ensures

pub returns-clause-cut : goal.returns-clause-cut
returns-clause-cut c =
    let heads : length c.lay.new.heads ≡ 2 * length c.args.arcs.now =
    c.lay.auto.heads ∙ length-take-le (2 * length c.args.arcs.now) c.as_mut_slice.result.now (omega arith) in
    let rests : length c.lay.new.rests ≡ 2 * length c.args.arcs.now =
    c.lay.auto.rests ∙ length-take-le (2 * length c.args.arcs.now) c.as_mut_slice-4.result.now (omega arith) in
    let firsts : length c.link.new.firsts ≡ length c.args.side.now =
    c.link.auto.firsts ∙ length-take-le (length c.args.side.now) c.as_mut_slice-3.result.now (omega arith) in
    let long : length c.flag_unreached.new.side ≡ length c.args.side.now = c.flag_unreached.auto.side in
    let holds : is_in c.flag_unreached.new.side c.args.source ≡ true =
    c.flag_unreached.ensures c.args.source (omega (arith, c.requires.source))
    ∙ eq-eqb (slice_index c.maximize.new.levels c.args.source) 0 c.maximize.ensures.source in
    let lacks : is_in c.flag_unreached.new.side c.args.sink ≡ false =
    c.flag_unreached.ensures c.args.sink (omega (arith, c.requires.sink))
    ∙ ne_eqb (slice_index c.maximize.new.levels c.args.sink) 0 (λ e. absurd (omega (arith, c.maximize.ensures.sink))) in
    let shut =
    unreached_shut c.lay.new.heads c.link.new.nexts c.link.new.firsts c.maximize.new.rests c.maximize.new.levels c.flag_unreached.new.side c.link.ensures
    (omega arith) c.maximize.ensures.closed c.flag_unreached.ensures in
    let cut =
    cut_holds (length c.args.side.now) c.args.source c.args.sink c.args.arcs.now c.write_flows.new.flows c.lay.new.heads c.lay.new.rests
    c.maximize.new.rests c.requires.joined c.requires.source c.requires.sink c.requires.apart
    heads rests (c.write_flows.auto.flows ∙ c.requires.flows) c.lay.ensures c.maximize.ensures.raised c.write_flows.ensures
    c.flag_unreached.new.side long holds lacks shut in
    let flow = cut.flow in
    let same : cut_capacity c.args.arcs.now c.flag_unreached.new.side ≡ c.flow_from.result = omega arith in
    subst (λ v. IsFilledCut (record { nodes = length c.args.side.now; arcs = c.args.arcs.now; flows = c.write_flows.new.flows }) c.args.source c.args.sink v
    c.flag_unreached.new.side) same cut

pub returns-clause-near : goal.returns-clause-near
returns-clause-near c =
    let heads : length c.lay.new.heads ≡ 2 * length c.args.arcs.now =
    c.lay.auto.heads ∙ length-take-le (2 * length c.args.arcs.now) c.as_mut_slice.result.now (omega arith) in
    let rests : length c.lay.new.rests ≡ 2 * length c.args.arcs.now =
    c.lay.auto.rests ∙ length-take-le (2 * length c.args.arcs.now) c.as_mut_slice-4.result.now (omega arith) in
    let cut =
    cut_holds (length c.args.side.now) c.args.source c.args.sink c.args.arcs.now c.write_flows.new.flows c.lay.new.heads c.lay.new.rests
    c.maximize.new.rests c.requires.joined c.requires.source c.requires.sink c.requires.apart
    heads rests (c.write_flows.auto.flows ∙ c.requires.flows) c.lay.ensures c.maximize.ensures.raised c.write_flows.ensures
    c.flag_near.new.near (c.flag_near.auto.near ∙ c.requires.near) c.flag_near.ensures.source c.flag_near.ensures.sink c.flag_near.ensures.shut in
    let flow = cut.flow in
    let same : cut_capacity c.args.arcs.now c.flag_near.new.near ≡ c.flow_from.result = omega arith in
    subst (λ v. IsFilledCut (record { nodes = length c.args.side.now; arcs = c.args.arcs.now; flows = c.write_flows.new.flows }) c.args.source c.args.sink v
    c.flag_near.new.near) same cut
