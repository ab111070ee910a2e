use Rattle.std.proofs.Common.{◌≡◌, suc, ◌-◌, ◌<◌, ◌≤◌, ◌∙◌, length, set, slice_index, refl, sym, ap, subst, arith, get_or-set_other}
use Rattle.flow_net.specs.Residual.{head, mate}
use Rattle.flow_net.proofs.LevelLaws.{mate-within}
use Rattle.flow_net.proofs.ConservationLaws.{way_step, way_takes, pair_room, is_sink, within_set, carries-tail, push_begin, push_step, push_end}
use Rattle.flow_net.proofs.paths.push.Goals as goal
use Rattle.flow_net.proofs.paths.push.Goals.{then-rests-half-eq0+then-full-halves, else-rests-half-eq0}

pub bounds-ways-node : goal.bounds-ways-node
bounds-ways-node c = let a = c.loop-step.invariant.inside in omega arith

pub bounds-ways-node-in-loop-step : goal.bounds-ways-node-in-loop-step
bounds-ways-node-in-loop-step c = let a = c.loop-step.invariant.inside in omega arith

pub mate-back-requires : goal.mate-back-requires
mate-back-requires c =
    let i = c.loop-step.invariant in
    let s = way_step c.args.halves.heads.now c.args.levels.now c.args.ways.now c.args.halves.sink c.loop-step.node c.loop-step._step _ c.requires.tree
    i.inside
    i.height c.loop-step-test.true in
    let half = s.half in
    let small = c.args.halves.linked.small in
    omega arith

pub bounds-rests-half : goal.bounds-rests-half
bounds-rests-half c =
    let i = c.loop-step.invariant in
    let s = way_step c.args.halves.heads.now c.args.levels.now c.args.ways.now c.args.halves.sink c.loop-step.node c.loop-step._step _ c.requires.tree
    i.inside
    i.height c.loop-step-test.true in
    let half = s.half in
    omega arith

pub bounds-rests-half-in-loop-step : goal.bounds-rests-half-in-loop-step
bounds-rests-half-in-loop-step c =
    let i = c.loop-step.invariant in
    let s = way_step c.args.halves.heads.now c.args.levels.now c.args.ways.now c.args.halves.sink c.loop-step.node c.loop-step._step _ c.requires.tree
    i.inside
    i.height c.loop-step-test.true in
    let half = s.half in
    omega arith

pub overflow_sub-rests : goal.overflow_sub-rests
overflow_sub-rests c =
    let g = c.args.halves in
    let levels = c.args.levels.now in
    let node = c.loop-step.node in
    let i = c.loop-step.invariant in
    let s = way_step g.heads.now levels c.args.ways.now g.sink node c.loop-step._step _ c.requires.tree i.inside i.height c.loop-step-test.true in
    let lower = s.lower in
    let reached = s.reached in
    way_takes g.heads.now levels c.args.ways.now c.args.rests.now c.loop-step.rests g.source node c.args.amount (slice_index levels node - 1)
    (slice_index levels (head g.heads.now (slice_index c.args.ways.now node)) - 1)
    i.pushed s (omega arith) i.carried

pub bounds-rests-back : goal.bounds-rests-back
bounds-rests-back c =
    let g = c.args.halves in
    let i = c.loop-step.invariant in
    let h = slice_index c.args.ways.now c.loop-step.node in
    let s = way_step g.heads.now c.args.levels.now c.args.ways.now g.sink c.loop-step.node c.loop-step._step _ c.requires.tree i.inside i.height
    c.loop-step-test.true in
    let back = mate-within (length g.heads.now) h g.linked.pairs s.half in
    let long : length c.loop-step.rests ≡ length g.heads.now = c.loop-step.auto.rests ∙ c.requires.rests in
    let fits : c.mate-back.result < length c.loop-step.rests = subst (λ n. c.mate-back.result < n) (sym long)
    (subst (λ m. m < length g.heads.now) (sym c.mate-back.ensures) back) in
    within_set c.loop-step.rests c.mate-back.result h _ fits

pub bounds-rests-back-in-loop-step : goal.bounds-rests-back-in-loop-step
bounds-rests-back-in-loop-step c =
    let g = c.args.halves in
    let i = c.loop-step.invariant in
    let h = slice_index c.args.ways.now c.loop-step.node in
    let s = way_step g.heads.now c.args.levels.now c.args.ways.now g.sink c.loop-step.node c.loop-step._step _ c.requires.tree i.inside i.height
    c.loop-step-test.true in
    let back = mate-within (length g.heads.now) h g.linked.pairs s.half in
    let long : length c.loop-step.rests ≡ length g.heads.now = c.loop-step.auto.rests ∙ c.requires.rests in
    let fits : c.mate-back.result < length c.loop-step.rests = subst (λ n. c.mate-back.result < n) (sym long)
    (subst (λ m. m < length g.heads.now) (sym c.mate-back.ensures) back) in
    within_set c.loop-step.rests c.mate-back.result h _ fits

pub overflow_add-rests : goal.overflow_add-rests
overflow_add-rests c =
    let g = c.args.halves in
    let levels = c.args.levels.now in
    let node = c.loop-step.node in
    let h = slice_index c.args.ways.now node in
    let i = c.loop-step.invariant in
    let s = way_step g.heads.now levels c.args.ways.now g.sink node c.loop-step._step _ c.requires.tree i.inside i.height c.loop-step-test.true in
    let half = s.half in
    let lower = s.lower in
    let reached = s.reached in
    let enough =
    way_takes g.heads.now levels c.args.ways.now c.args.rests.now c.loop-step.rests g.source node c.args.amount (slice_index levels node - 1)
    (slice_index levels (head g.heads.now h) - 1)
    i.pushed s (omega arith) i.carried in
    let room = pair_room c.args.rests.now c.loop-step.rests h i.pushed.pairs c.requires.bounded (omega arith) in
    let other : slice_index (set c.loop-step.rests h (slice_index c.loop-step.rests h - c.args.amount)) (mate h) ≡ slice_index c.loop-step.rests (mate h) =
    get_or-set_other c.loop-step.rests h (mate h) _ 0 (λ e. absurd (omega arith)) in
    let is : slice_index (set c.loop-step.rests h (slice_index c.loop-step.rests h - c.args.amount)) c.mate-back.result ≡ slice_index c.loop-step.rests
    (mate h) =
    ap (slice_index (set c.loop-step.rests h (slice_index c.loop-step.rests h - c.args.amount))) c.mate-back.ensures ∙ other in
    omega arith

pub bounds-rests-half-in-loop-step-2 : goal.bounds-rests-half-in-loop-step-2
bounds-rests-half-in-loop-step-2 c =
    let g = c.args.halves in
    let i = c.loop-step.invariant in
    let h = slice_index c.args.ways.now c.loop-step.node in
    let s = way_step g.heads.now c.args.levels.now c.args.ways.now g.sink c.loop-step.node c.loop-step._step _ c.requires.tree i.inside i.height
    c.loop-step-test.true in
    let long : length c.loop-step.rests ≡ length g.heads.now = c.loop-step.auto.rests ∙ c.requires.rests in
    within_set _ h c.mate-back.result _ (within_set c.loop-step.rests h h _ (subst (λ n. h < n) (sym long) s.half))

pub bounds-halves-half : goal.bounds-halves-half
bounds-halves-half c =
    let i = c.loop-step.invariant in
    let s = way_step c.args.halves.heads.now c.args.levels.now c.args.ways.now c.args.halves.sink c.loop-step.node c.loop-step._step _ c.requires.tree
    i.inside
    i.height c.loop-step-test.true in
    s.half

pub loop-step-init : goal.loop-step-init
loop-step-init c = record {
  inside = omega (arith, c.args.halves.source_in);
  stop = omega (arith, c.args.halves.sink_in);
  height = refl;
  carried = c.requires.carried;
  pushed = push_begin c.args.halves.heads.now c.args.levels.now c.args.rests.now c.args.halves.source c.args.amount;
}

pub loop-step-preserved : goal.loop-step-preserved
loop-step-preserved c =
    let g = c.args.halves in
    let heads = g.heads.now in
    let levels = c.args.levels.now in
    let ways = c.args.ways.now in
    let node = c.loop-step.node in
    let h = slice_index ways node in
    let i = c.loop-step.invariant in
    let s = way_step heads levels ways g.sink node c.loop-step._step _ c.requires.tree i.inside i.height c.loop-step-test.true in
    let height = i.height in
    let lower = s.lower in
    let reached = s.reached in
    let more = c.loop-step-test.true in
    let inside = i.inside in
    let down : slice_index levels node - 1 ≡ suc (slice_index levels (head heads h) - 1) = omega arith in
    let enough = way_takes heads levels ways c.args.rests.now c.loop-step.rests g.source node c.args.amount (slice_index levels node - 1)
    (slice_index levels (head heads h) - 1) i.pushed s down i.carried in
    record {
      inside = let a = g.linked.nodes h s.half in omega arith;
      stop = elim c.if-rests-half-eq0.branch [
        | then-rests-half-eq0+then-full-halves w ↦ (let a = w.full-is in omega arith)
        | else-rests-half-eq0 w ↦
            (let a = w.full-is in let b = i.stop in omega arith)
      ];
      height = omega arith;
      carried = carries-tail heads c.args.rests.now ways c.args.amount _ _ node down i.carried;
      pushed =
          rw c.mate-back.ensures
          (push_step heads levels ways c.args.rests.now c.loop-step.rests g.source g.sink node c.args.amount g.linked.pairs (sym c.requires.ways)
          c.requires.rests (c.loop-step.auto.rests ∙ c.requires.rests)
          c.requires.tree i.pushed s.half s.leaves s.lower enough);
    }

pub returns-clause-node : goal.returns-clause-node
returns-clause-node c = c.loop-step.invariant.stop

pub returns-clause-raised : goal.returns-clause-raised
returns-clause-raised c =
    let g = c.args.halves in
    let i = c.loop-step.invariant in
    let height = i.height in
    let done = c.loop-step-test.false in
    let reached = c.requires.reached in
    let last = c.loop-step.auto._step-end in
    let top : c.loop-step._step ≤ slice_index c.args.levels.now g.source = last (omega arith) in
    let level : slice_index c.args.levels.now c.loop-step.node ≡ 1 = omega arith in
    push_end g.heads.now c.args.levels.now c.args.rests.now c.loop-step.rests g.source g.sink c.loop-step.node c.args.amount
    (is_sink g.heads.now c.args.levels.now c.args.ways.now g.sink c.loop-step.node c.requires.tree i.inside level) g.apart i.pushed
