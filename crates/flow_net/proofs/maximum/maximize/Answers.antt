use Rattle.std.proofs.Common.{◌+◌, ◌∙◌, arith}
use Rattle.flow_net.proofs.ConservationLaws.{gap_falls, raised_less, raised_then}
use Rattle.flow_net.proofs.maximum.maximize.Goals as goal

pub loop-halves-smaller : goal.loop-halves-smaller
loop-halves-smaller c =
    let g = c.args.halves in
    let both = raised_then g.heads.now g.source g.sink c.least_rest-amount.result 0 c.loop-halves.rests c.push.new.rests c.block.new.rests c.push.auto.rests
    c.push.ensures.raised c.block.ensures.raised in
    let more = c.least_rest-amount.ensures.positive c.loop-halves-test.ensures.open_ways in
    gap_falls g.heads.now g.source g.sink (c.least_rest-amount.result + 0) c.loop-halves.rests c.block.new.rests (c.loop-halves.auto.rests ∙
    c.requires.rests)
    (omega arith) both

pub loop-halves-preserved : goal.loop-halves-preserved
loop-halves-preserved c =
    let g = c.args.halves in
    let both = raised_then g.heads.now g.source g.sink c.least_rest-amount.result 0 c.loop-halves.rests c.push.new.rests c.block.new.rests c.push.auto.rests
    c.push.ensures.raised c.block.ensures.raised in
    record {
      entered = λ v l some. c.block.ensures.entered v l;
      raised =
          raised_less g.heads.now g.source g.sink _ 0 c.args.rests.now c.block.new.rests (omega arith)
          (raised_then g.heads.now g.source g.sink 0 (c.least_rest-amount.result + 0) c.args.rests.now c.loop-halves.rests c.block.new.rests
          c.loop-halves.auto.rests c.loop-halves.invariant.raised both);
    }
