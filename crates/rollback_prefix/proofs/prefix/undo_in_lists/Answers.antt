use Rattle.std.proofs.Common.{arith, get_or, length, refl, sym, ap, subst, ◌+◌, set}
use Rattle.hg_defs.specs.Partition.{load}
use Rattle.pin_plain.specs.Parted.{loads_after}
use Rattle.rollback_prefix.proofs.StepLaws.{no_move}
use Rattle.rollback_prefix.proofs.LoadLaws.{IsUndoing, weight_held, load_small, joined_small, undoing_more}
use Rattle.rollback_prefix.proofs.prefix.undo_in_lists.Goals as goal

pub loop-step-init : goal.loop-step-init
loop-step-init c = record {
  rest = refl;
  stands = λ j d l m. (c.requires.moves.each j d m).stands;
  partition = c.requires.partition;
  loaded = c.requires.loaded;
}

pub overflow_sub-loads : goal.overflow_sub-loads
overflow_sub-loads c =
    let m = get_or c.args.moves.now c.loop-step.step-index no_move in
    let e = c.requires.moves.each c.loop-step.step-index no_move c.loop-step-test.true in
    let u = c.loop-step.invariant in
    let at = u.stands c.loop-step.step-index no_move (omega arith) c.loop-step-test.true in
    let held = weight_held c.args.h.now c.loop-step.blocks m.vertex u.partition.vertices e.vertex in
    let is = u.loaded.each m.to e.to in
    let q = ap (λ x. load c.args.h.now c.loop-step.blocks x) at in
    let w = c.vertex_weight-weight.ensures.value in
    omega arith

pub overflow_add-loads : goal.overflow_add-loads
overflow_add-loads c =
    let m = get_or c.args.moves.now c.loop-step.step-index no_move in
    let e = c.requires.moves.each c.loop-step.step-index no_move c.loop-step-test.true in
    let u = c.loop-step.invariant in
    let small = joined_small c.loop-step.loads m.to m.from c.vertex_weight-weight.result (let n = u.loaded.all in let t = e.to in omega arith)
    (load_small c.args.h.now (length c.args.loads.now) c.loop-step.blocks c.loop-step.loads m.to c.vertices-vertices.ensures.bounds u.loaded e.to)
    (load_small c.args.h.now (length c.args.loads.now) c.loop-step.blocks c.loop-step.loads m.from c.vertices-vertices.ensures.bounds u.loaded e.from)
    c.vertex_weight-weight.ensures.bound in
    omega arith

pub loop-step-preserved : goal.loop-step-preserved
loop-step-preserved c =
    let m = get_or c.args.moves.now c.loop-step.step-index no_move in
    let e = c.requires.moves.each c.loop-step.step-index no_move c.loop-step-test.true in
    subst (λ w. IsUndoing c.args.h.now (length c.args.loads.now) c.args.blocks.now c.args.moves.now (c.loop-step.step-index + 1)
    (set c.loop-step.blocks m.vertex m.from) (loads_after c.loop-step.loads m.to m.from w))
    (sym c.vertex_weight-weight.ensures.value)
    (undoing_more c.args.h.now (length c.args.loads.now) c.args.blocks.now c.args.moves.now c.loop-step.step-index no_move c.loop-step.blocks
    c.loop-step.loads
    c.loop-step-test.true c.requires.moves.once e.vertex e.from e.to c.loop-step.invariant)
