use Rattle.uncoarsen.proofs.TurnLemmas.{turns_begin, turns_more, turns_kinds}
use Rattle.uncoarsen.proofs.passes.refine_level.Goals as goal

pub loop-i-init : goal.loop-i-init
loop-i-init g c = turns_begin _ _ _ _ _ _ _ _ c.requires.may_run c.requires.sound

pub returns-in_err-part-clause-kinds : goal.returns-in_err-part-clause-kinds
returns-in_err-part-clause-kinds g c =
    turns_kinds _ _ _ _ _ _ _ _ _ _ _ _ c.loop-i.invariant c.index-refiners-i.result _ c.refine_one.ensures.kind

pub loop-i-preserved : goal.loop-i-preserved
loop-i-preserved g c =
    turns_more _ _ _ _ _ _ _ _ c.loop-i.i c.loop-i.refiners c.loop-i.log c.loop-i.part c.loop-i.invariant c.requires.kinds c.loop-i-test.true
    c.index-refiners-i.result c.refine_one.new.refiner c.refine_one.ensures.may_run c.refine_one.ensures.kind c.refine_one.new.log
    c.in_ok-part.part c.in_ok-part.ensures.pass
