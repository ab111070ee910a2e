use Rattle.std.proofs.Common.{[], ◌&&◌, ◌∙◌, filter, ap}
use Rattle.std.specs.Ordering.{nat_cmp}
use Rattle.hg_defs.specs.Hypergraph.{net_of}
use Rattle.hg_defs.specs.Sorting.{set_of}
use Rattle.round_log.specs.Rounds.{has_pin}
use Rattle.std.proofs.lemmas.List.{take_all}
use Rattle.flow_pair.proofs.MemberLaws.{filter_next}
use Rattle.flow_pair.proofs.CutNetLaws.{between_found}
use Rattle.flow_pair.proofs.cut.nets_between.Goals as goal

pub loop-e-preserved : goal.loop-e-preserved
loop-e-preserved c =
    let h = c.args.h.now in
    let p = c.args.p.now.blocks in
    filter_next (λ e. has_pin p (net_of h e) c.args.a && has_pin p (net_of h e) c.args.b) c.args.nets.now c.loop-e.e-index c.touches.result []
    c.loop-e.found.items c.push_if.new.list.items c.loop-e-test.true c.touches.ensures c.in_ok-push_if.ensures c.loop-e.invariant

pub returns : goal.returns
returns c =
    let h = c.args.h.now in
    let p = c.args.p.now.blocks in
    let found = c.loop-e.invariant ∙ ap (filter (λ e. has_pin p (net_of h e) c.args.a && has_pin p (net_of h e) c.args.b))
    (take_all c.loop-e.e-index c.args.nets.now c.loop-e-test.false) in
    c.distinct.ensures ∙ ap (set_of nat_cmp) found ∙ between_found h p c.args.a c.args.b c.args.nets.now c.requires.nets c.requires.all
