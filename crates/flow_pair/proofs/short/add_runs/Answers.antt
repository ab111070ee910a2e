use Rattle.std.proofs.Common.{◌≡◌, ◌+◌, ◌*◌, ◌/◌, ◌∙◌, length, sym, ap, subst, arith}
use Rattle.std.proofs.Math.Nat.{mul-div_cancel}
use Rattle.hg_defs.specs.Sums.{total}
use Rattle.flow_pair.specs.ShortNetwork.{fixed_price}
use Rattle.flow_pair.proofs.NetLaws.{joined_few}
use Rattle.flow_pair.proofs.NoteLaws.{AreAdded, added-none, added-run, run-nodes, run-arcs, run-paid}
use Rattle.flow_pair.proofs.ShortArcLaws.{short-made, sum-all, inner, inside-small}
use Rattle.flow_pair.proofs.short.add_runs.Goals as goal

pub overflow_cast-nets : goal.overflow_cast-nets
overflow_cast-nets c =
    let s = c.args.pair in
    let few = joined_few s.h.now (inner s.h.now s.blocks.now s.first s.second s.region.now) c.args.nets.now c.requires.inside in
    let most = c.nets-nets.ensures.bounds.nets in
    omega arith

pub loop-i-init : goal.loop-i-init
loop-i-init c =
    let s = c.args.pair in
    subst (λ m. AreAdded s.h.now s.blocks.now s.first s.second s.region.now c.args.nets.now m c.args.network.now 0) (omega arith)
    (added-none s.h.now s.blocks.now s.first s.second s.region.now c.args.nets.now c.args.network.now c.requires.nodes c.requires.arcs c.requires.flows)

pub add_run-requires-clause-few : goal.add_run-requires-clause-few
add_run-requires-clause-few c =
    let s = c.args.pair in
    let h = s.h.now in
    let nets = c.args.nets.now in
    let span = c.span_of-span.ensures in
    let are = subst (λ m. AreAdded h s.blocks.now s.first s.second s.region.now nets m c.loop-i.network c.loop-i.fixed) (sym span.from)
    c.loop-i.invariant in
    let low = run-nodes h s.blocks.now s.first s.second s.region.now nets c.span_of-span.result.from c.span_of-span.result.to span.ordered span.within
    c.loop-i.network c.loop-i.fixed are in
    let few = joined_few h (inner h s.blocks.now s.first s.second s.region.now) nets c.requires.inside in
    let small = s.small in
    let most = c.nets-nets.ensures.bounds.nets in
    omega arith

pub add_run-requires-clause-room : goal.add_run-requires-clause-room
add_run-requires-clause-room c =
    let s = c.args.pair in
    let h = s.h.now in
    let nets = c.args.nets.now in
    let span = c.span_of-span.ensures in
    let are = subst (λ m. AreAdded h s.blocks.now s.first s.second s.region.now nets m c.loop-i.network c.loop-i.fixed) (sym span.from)
    c.loop-i.invariant in
    let low = run-arcs h s.blocks.now s.first s.second s.region.now nets c.span_of-span.result.from c.span_of-span.result.to span.ordered span.within
    c.loop-i.network c.loop-i.fixed are in
    let few = joined_few h (inner h s.blocks.now s.first s.second s.region.now) nets c.requires.inside in
    let bounds = c.nets-nets.ensures.bounds in
    let most = bounds.nets in
    let pins = bounds.pins in
    omega arith

pub add_run-requires-clause-bounded : goal.add_run-requires-clause-bounded
add_run-requires-clause-bounded c =
    let s = c.args.pair in
    let h = s.h.now in
    let nets = c.args.nets.now in
    let span = c.span_of-span.ensures in
    let are = subst (λ m. AreAdded h s.blocks.now s.first s.second s.region.now nets m c.loop-i.network c.loop-i.fixed) (sym span.from)
    c.loop-i.invariant in
    let low = run-paid h s.blocks.now s.first s.second s.region.now nets c.span_of-span.result.from c.span_of-span.result.to span.ordered span.within
    c.loop-i.network c.loop-i.fixed are in
    let small = inside-small h s.blocks.now s.first s.second s.region.now in
    let same = ap (total (fixed_price h s.blocks.now s.first s.second s.region.now)) c.requires.inside in
    let most = s.above in
    let bound = s.bounded in
    omega arith

pub overflow_add-fixed : goal.overflow_add-fixed
overflow_add-fixed c =
    let s = c.args.pair in
    let h = s.h.now in
    let nets = c.args.nets.now in
    let span = c.span_of-span.ensures in
    let are = subst (λ m. AreAdded h s.blocks.now s.first s.second s.region.now nets m c.loop-i.network c.loop-i.fixed) (sym span.from)
    c.loop-i.invariant in
    let low = run-paid h s.blocks.now s.first s.second s.region.now nets c.span_of-span.result.from c.span_of-span.result.to span.ordered span.within
    c.loop-i.network c.loop-i.fixed are in
    let here = c.in_ok-fixed.ensures.fixed in
    let small = inside-small h s.blocks.now s.first s.second s.region.now in
    let same = ap (total (fixed_price h s.blocks.now s.first s.second s.region.now)) c.requires.inside in
    let most = s.above in
    let bound = s.bounded in
    omega arith

pub loop-i-preserved : goal.loop-i-preserved
loop-i-preserved c =
    let s = c.args.pair in
    let h = s.h.now in
    let nets = c.args.nets.now in
    let span = c.span_of-span.ensures in
    let x = c.in_ok-fixed.ensures in
    let are = subst (λ m. AreAdded h s.blocks.now s.first s.second s.region.now nets m c.loop-i.network c.loop-i.fixed) (sym span.from)
    c.loop-i.invariant in
    subst (λ m. AreAdded h s.blocks.now s.first s.second s.region.now nets m c.add_run.new.network (c.loop-i.fixed + c.in_ok-fixed.field-0)) span.to
    (added-run h s.blocks.now s.first s.second s.region.now nets c.span_of-span.result.from c.span_of-span.result.to span.ordered span.within c.loop-i.network
    c.loop-i.fixed are c.add_run.new.network c.in_ok-fixed.field-0 x.extended x.few x.short x.fixed)

pub returns-clause-network : goal.returns-clause-network
returns-clause-network c =
    let s = c.args.pair in
    let n = length c.args.nets.now in
    let i = c.loop-i.invariant in
    let end : c.loop-i.i ≡ length c.args.runs.now = (let a = c.loop-i.auto in let t = c.loop-i-test.false in omega arith) in
    let all : n * c.loop-i.i / length c.args.runs.now ≡ n = ap (λ k. n * k / length c.args.runs.now) end ∙ mul-div_cancel n c.requires.some in
    short-made s.h.now s.blocks.now s.first s.second s.region.now c.loop-i.network c.args.nets.now (n * c.loop-i.i / length c.args.runs.now) (omega arith)
    c.requires.inside i.nodes i.arcs i.idle

pub returns-clause-fixed : goal.returns-clause-fixed
returns-clause-fixed c =
    let s = c.args.pair in
    let n = length c.args.nets.now in
    let end : c.loop-i.i ≡ length c.args.runs.now = (let a = c.loop-i.auto in let t = c.loop-i-test.false in omega arith) in
    let all : n * c.loop-i.i / length c.args.runs.now ≡ n = ap (λ k. n * k / length c.args.runs.now) end ∙ mul-div_cancel n c.requires.some in
    let price = fixed_price s.h.now s.blocks.now s.first s.second s.region.now in
    sum-all s.h.now s.blocks.now s.first s.second s.region.now price c.args.nets.now (n * c.loop-i.i / length c.args.runs.now) c.loop-i.fixed _ (omega arith)
    c.loop-i.invariant.paid ∙ ap (total price) c.requires.inside
