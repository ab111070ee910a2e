use Rattle.std.proofs.Common.{◌-◌, arith}
use Rattle.flow_net.proofs.ConservationLaws.{tree_way}
use Rattle.flow_net.proofs.paths.step.Goals as goal

pub returns-clause-tree : goal.returns-clause-tree
returns-clause-tree c =
    let g = c.args.halves in
    tree_way g.heads.now c.args.levels.now c.args.ways.now g.sink c.args.node (c.seek-at.result - 1) c.requires.tree (omega arith)
    (c.seek-at.ensures.step (omega arith))
