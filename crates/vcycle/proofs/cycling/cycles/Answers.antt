use Rattle.std.proofs.Common.{◌<◌, subst, arith}
use Rattle.pin_plain.specs.Parted.{Parted, IsParted}
use Rattle.vcycle.proofs.CycleLaws.{cycles_settled}
use Rattle.vcycle.proofs.CyclingLemmas.{cycling_begin, cycling_belongs, cycling_sound, cycling_kinds, cycling_low, cycling_more}
use Rattle.vcycle.proofs.cycling.cycles.Goals as goal

pub loop-i-init : goal.loop-i-init
loop-i-init g c =
    cycling_begin _ _ _ c.args.h c.args.k c.args.limit c.args.workers c.args.refiners.now c.args.p c.requires.may_run c.requires.belongs
    c.requires.sound c.requires.tallied c.new-traces.result c.new-traces.ensures

pub cycle-requires-clause-belongs : goal.cycle-requires-clause-belongs
cycle-requires-clause-belongs g c κs within =
    cycling_belongs _ _ _ c.args.h c.args.k c.args.limit c.args.workers c.args.refiners.now c.args.p.blocks c.loop-i.i c.loop-i.h c.loop-i.p
    c.loop-i.refiners c.loop-i.traces c.loop-i.invariant

pub cycle-requires-clause-sound : goal.cycle-requires-clause-sound
cycle-requires-clause-sound g c κs within =
    cycling_sound _ _ _ c.args.h c.args.k c.args.limit c.args.workers c.args.refiners.now c.args.p.blocks c.loop-i.i c.loop-i.h c.loop-i.p
    c.loop-i.refiners c.loop-i.traces c.loop-i.invariant

pub cycle-requires-clause-kinds : goal.cycle-requires-clause-kinds
cycle-requires-clause-kinds g c κs within =
    cycling_kinds _ _ _ c.args.h c.args.k c.args.limit c.args.workers c.args.refiners.now c.args.p.blocks c.loop-i.i c.loop-i.h c.loop-i.p
    c.loop-i.refiners c.loop-i.traces c.loop-i.invariant c.requires.kinds

pub cycle-requires-clause-tallied : goal.cycle-requires-clause-tallied
cycle-requires-clause-tallied g c κs within =
    let few : c.loop-i.i < 8 = let test = c.loop-i-test.true in let most = c.requires.count in omega arith in
    cycling_low _ _ _ c.args.h c.args.k c.args.limit c.args.workers c.args.refiners.now c.args.p.blocks c.loop-i.i c.loop-i.h c.loop-i.p
    c.loop-i.refiners c.loop-i.traces c.loop-i.invariant few

pub loop-i-preserved : goal.loop-i-preserved
loop-i-preserved g c =
    cycling_more _ _ _ c.args.h c.args.k c.args.limit c.args.workers c.args.refiners.now c.args.p.blocks c.loop-i.i c.loop-i.h c.loop-i.p
    c.loop-i.refiners c.loop-i.traces c.loop-i.invariant c.args.p.blocks
    (subst (λ (x : Parted). IsParted x.hyper x.k c.args.p.blocks) c.requires.belongs c.blocks-blocks.ensures.parted) c.requires.kinds
    c.cycle.new.refiners c.in_ok-same.same c.in_ok-same.better c.in_ok-same.trace c.cycle.ensures.may_run c.cycle.ensures.kinds
    c.in_ok-same.ensures.hypergraph c.in_ok-same.ensures.partition c.in_ok-same.ensures.cycle c.in_ok-same.ensures.settled
    c.in_ok-same.ensures.tallies c.push.new.self c.in_ok-push.ensures.ok

pub returns-clause-settled : goal.returns-clause-settled
returns-clause-settled g c settled =
    let parted = subst (λ (x : Parted). IsParted x.hyper x.k c.args.p.blocks) c.requires.belongs c.blocks-blocks.ensures.parted in
    (cycles_settled _ c.args.h c.args.k c.args.limit c.args.workers c.loop-i.traces c.args.p.blocks c.loop-i.p.blocks parted.sound
    (record { sound = c.requires.sound; settled = settled }) c.loop-i.invariant.cycles).settled
