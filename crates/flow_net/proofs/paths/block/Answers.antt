use Rattle.std.proofs.Common.{sym, subst, arith}
use Rattle.flow_net.specs.Residual.{IsMarked}
use Rattle.flow_net.proofs.ConservationLaws.{raised_none, raised_then, marked_begin}
use Rattle.flow_net.proofs.paths.block.Goals as goal

pub loop-step-init : goal.loop-step-init
loop-step-init c =
    let g = c.args.halves in
    record {
      inside = omega (arith, g.source_in);
      tree = c.requires.tree;
      marked =
          subst (λ xs. IsMarked g.heads.now xs c.args.entries.now) (sym c.copy_from_slice.ensures.after)
          (marked_begin g.heads.now g.nexts.now g.firsts.now c.args.entries.now g.linked (λ v l. c.requires.entered v (omega arith)));
      raised = raised_none g.heads.now g.source g.sink c.args.rests.now;
    }

pub loop-step-preserved : goal.loop-step-preserved
loop-step-preserved c =
    let g = c.args.halves in
    record {
      inside = c.in-Some.ensures.node;
      tree = c.in-Some.ensures.tree;
      marked = c.in-Some.ensures.marked;
      raised = raised_then g.heads.now g.source g.sink 0 0 c.args.rests.now c.loop-step.rests c.push_at_sink-start.new.rests c.loop-step.auto.rests
          c.loop-step.invariant.raised c.push_at_sink-start.ensures.raised;
    }

pub returns-in-None-clause-raised : goal.returns-in-None-clause-raised
returns-in-None-clause-raised c =
    let g = c.args.halves in
    raised_then g.heads.now g.source g.sink 0 0 c.args.rests.now c.loop-step.rests c.push_at_sink-start.new.rests c.loop-step.auto.rests
    c.loop-step.invariant.raised c.push_at_sink-start.ensures.raised
