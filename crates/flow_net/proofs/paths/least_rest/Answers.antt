use Rattle.std.proofs.Common.{◌-◌, slice_index, refl, arith}
use Rattle.flow_net.specs.Residual.{head}
use Rattle.flow_net.proofs.ConservationLaws.{way_step, not_sink, carries-cons, carries-none}
use Rattle.flow_net.proofs.paths.least_rest.Goals as goal

pub bounds-ways-node : goal.bounds-ways-node
bounds-ways-node c = let a = c.loop-step.invariant.inside in omega arith

pub bounds-rests-half : goal.bounds-rests-half
bounds-rests-half c =
    let i = c.loop-step.invariant in
    let s = way_step c.args.halves.heads.now c.args.levels.now c.args.ways.now c.args.halves.sink c.loop-step.node c.loop-step._step _ c.requires.tree
    i.inside
    i.height c.loop-step-test.true in
    let half = s.half in
    omega arith

pub bounds-halves-half : goal.bounds-halves-half
bounds-halves-half c =
    let i = c.loop-step.invariant in
    let s = way_step c.args.halves.heads.now c.args.levels.now c.args.ways.now c.args.halves.sink c.loop-step.node c.loop-step._step _ c.requires.tree
    i.inside
    i.height c.loop-step-test.true in
    s.half

pub loop-step-init : goal.loop-step-init
loop-step-init c = record {
  inside = omega (arith, c.args.halves.source_in);
  height = refl;
  carried = λ x l t. t;
  positive = λ o. omega arith;
}

pub loop-step-preserved : goal.loop-step-preserved
loop-step-preserved c =
    let g = c.args.halves in
    let heads = g.heads.now in
    let levels = c.args.levels.now in
    let ways = c.args.ways.now in
    let node = c.loop-step.node in
    let i = c.loop-step.invariant in
    let s = way_step heads levels ways g.sink node c.loop-step._step _ c.requires.tree i.inside i.height c.loop-step-test.true in
    let next = head heads (slice_index ways node) in
    let height = i.height in
    let lower = s.lower in
    let reached = s.reached in
    let more = c.loop-step-test.true in
    let least = c.min-least.ensures in
    let inside = i.inside in
    record {
      inside = let a = g.linked.nodes (slice_index ways node) s.half in omega arith;
      height = omega arith;
      carried = λ x l t. i.carried x (omega arith)
          (carries-cons heads c.args.rests.now ways x (slice_index levels node - 1) (slice_index levels next - 1) node (omega arith) (omega arith) t);
      positive = λ o.
          let a = i.positive o in
          let b = o node inside (not_sink heads levels ways g.sink node c.requires.tree (omega arith)) (omega arith) in
          omega arith;
    }

pub returns-clause-carried : goal.returns-clause-carried
returns-clause-carried c =
    let i = c.loop-step.invariant in
    let height = i.height in
    let done = c.loop-step-test.false in
    i.carried c.loop-step.least (omega arith) (carries-none c.args.halves.heads.now c.args.rests.now c.args.ways.now c.loop-step.least _ c.loop-step.node
    (omega arith))

pub returns-clause-positive : goal.returns-clause-positive
returns-clause-positive c = c.loop-step.invariant.positive
