use Rattle.std.proofs.Common.{List, ◌++◌, ◌∙◌, [], ap, ap₂, subst, arith, ◌+◌, ◌-◌}
use Rattle.hg_defs.specs.Hypergraph.{Hyper}
use Rattle.hg_defs.specs.Partition.{IsPartition}
use Rattle.round_log.specs.declared.record.LoggedRound.{LoggedRound}
use Rattle.round_log.specs.Passes.{block_pairs}
use Rattle.flow_pair.specs.Turns.{TakesTurns}
use Rattle.flow_pair.proofs.TurnLaws.{pass_logged}
use Rattle.flow_pair.proofs.pass.flow_pass.Goals as goal

pub returns-clause-pass : goal.returns-clause-pass
returns-clause-pass c =
    let h = c.args.h.now in
    let p = c.args.p in
    let q = c.take_turns.new.self.part in
    let made = c.take_turns.new.self.rounds.items in
    let parted = subst (λ (x : Hyper). IsPartition x p.k p.blocks) c.requires.belongs c.blocks-parted.ensures.parted.partition in
    let turns = subst (λ (xs : List LoggedRound). TakesTurns h c.args.task.now.level (block_pairs p.k) [] p q xs made) c.new.ensures.items
    c.in_ok-take_turns.ensures.turns in
    pass_logged h c.args.task.now p q c.args.tally.now _ c.args.log.now c.add.new.self made parted c.requires.fits turns
    (c.in_ok-add.ensures.ok ∙ ap (λ (xs : List LoggedRound). c.args.log.now ++ xs) c.from_vec.ensures)
    (let len = c.len-count.ensures in omega arith)
    (ap₂ (λ x y. c.args.tally.now.gain + (x - y)) c.cost-before.ensures.value c.in_ok-take_turns.ensures.cost)
