use Rattle.std.proofs.Common.{◌≡◌, ◌≢◌, ◌∙◌, ℕ, ◌-◌, ◌≤◌, ◌^◌, AllPairs, subst, sym, ap, arith, rules}
use Rattle.hg_defs.specs.Hypergraph.{IsFixedWithin, IsWithinLimits}
use Rattle.hg_defs.specs.Levels.{level}
use Rattle.level_stack.specs.Down.{Down}
use Rattle.round_log.specs.declared.record.Kind.{Kind}
use Rattle.level_stack.proofs.DownLaws.{level_there, went_down, steps_down}
use Rattle.uncoarsen.proofs.DownLemmas.{descending_at, descending_begin, descending_places, descending_to, descending_more, descending_end, tallies_low}
use Rattle.uncoarsen.proofs.descent.refine_down.Goals as goal

pub loop-above-init : goal.loop-above-init
loop-above-init g c =
    let top = c.args.start.level in
    let same : top ≡ top - 0 = omega arith in (
      c.in_ok-levels.ensures ∙ ap (λ (n : ℕ). let d : Down = record { base = c.args.stack.base; maps = c.args.stack.maps; number = n } in d) same,
      descending_at _ _ _ c.args.stack top c.args.start.blocks c.args.k c.args.limit c.args.workers c.args.seed c.args.log.now c.args.refiners.now top
          (top - 0) 0 _ _ _ same
          (descending_begin _ _ _ c.args.stack top c.args.start.blocks c.args.k c.args.limit c.args.workers c.args.seed c.args.log.now
          c.args.refiners.now c.level-h.result.now
          (level_there c.args.stack.base c.args.stack.maps c.in_ok-levels.levels top c.level-h.result.now c.in_ok-levels.ensures c.level-h.ensures)
          c.in_ok-part.part c.in_ok-part.ensures c.requires.start c.requires.may_run),
    )

pub refine_and_leave-requires-clause-kinds : goal.refine_and_leave-requires-clause-kinds
refine_and_leave-requires-clause-kinds g c κs within =
    subst (AllPairs (λ (a b : Kind). a ≢ b)) (sym c.loop-above.invariant.1.kinds) c.requires.kinds

pub refine_and_leave-requires-clause-tallied : goal.refine_and_leave-requires-clause-tallied
refine_and_leave-requires-clause-tallied g c κs within =
    let few : c.loop-above.above ≤ 2 ^ 32 = search rules in
    let same = level_there c.args.stack.base c.args.stack.maps c.in_ok-levels.levels c.args.start.level c.level-h.result.now c.in_ok-levels.ensures
    c.level-h.ensures in
    tallies_low _ _ _ c.args.stack c.args.start.level c.args.start.blocks c.args.k c.args.limit c.args.workers c.args.seed c.args.log.now
    c.args.refiners.now (c.args.start.level - c.loop-above.above) c.loop-above.above c.loop-above.refiners c.loop-above.log c.loop-above.part
    c.loop-above.invariant.1 (subst IsWithinLimits same c.vertices-vertices.ensures.bounds) few c.requires.tallied

pub project_with-requires-clause-places : goal.project_with-requires-clause-places
project_with-requires-clause-places g c κs within =
    descending_places _ _ _ c.args.stack c.args.start.level c.args.start.blocks c.args.k c.args.limit c.args.workers c.args.seed c.args.log.now
    c.args.refiners.now c.requires.few c.requires.kinds c.loop-above.above c.loop-above.refiners c.loop-above.log c.loop-above.part
    c.loop-above.invariant.1 c.refine_and_leave.new.refiners c.refine_and_leave.new.log c.in_ok-below.refined c.loop-above-test.true c.requires.on_level
    c.in_ok-below.ensures.level _ _
    (steps_down c.args.stack.base c.args.stack.maps c.args.start.level c.loop-above.above _ _ c.loop-above-test.true c.loop-above.invariant.0
    c.in_ok-below.ensures.down _ _ c.level-h-in-loop-above.ensures c.map.ensures.value c.map.ensures.full c.map.ensures.apart)

pub project_with-requires-clause-fixed : goal.project_with-requires-clause-fixed
project_with-requires-clause-fixed g c κs within =
    let on_level = c.requires.on_level in
    descending_to _ _ _ c.args.stack c.args.start.level c.args.start.blocks c.args.k c.args.limit c.args.workers c.args.seed c.args.log.now
    c.args.refiners.now c.requires.few c.requires.kinds c.loop-above.above c.loop-above.refiners c.loop-above.log c.loop-above.part
    c.loop-above.invariant.1 c.refine_and_leave.new.refiners c.refine_and_leave.new.log c.in_ok-below.refined c.loop-above-test.true c.requires.on_level
    c.in_ok-below.ensures.level _ _
    (steps_down c.args.stack.base c.args.stack.maps c.args.start.level c.loop-above.above _ _ c.loop-above-test.true c.loop-above.invariant.0
    c.in_ok-below.ensures.down _ _ c.level-h-in-loop-above.ensures c.map.ensures.value c.map.ensures.full c.map.ensures.apart)
    IsFixedWithin (c.requires.levels (c.args.start.level - 1 - c.loop-above.above) (omega arith)).fixed

pub loop-above-preserved : goal.loop-above-preserved
loop-above-preserved g c = (
  went_down c.args.stack.base c.args.stack.maps c.args.start.level c.loop-above.above _ _ c.loop-above-test.true c.loop-above.invariant.0
      c.in_ok-below.ensures.down,
  descending_more _ _ _ c.args.stack c.args.start.level c.args.start.blocks c.args.k c.args.limit c.args.workers c.args.seed c.args.log.now
      c.args.refiners.now c.requires.few c.requires.kinds c.loop-above.above c.loop-above.refiners c.loop-above.log c.loop-above.part
      c.loop-above.invariant.1 c.refine_and_leave.new.refiners c.refine_and_leave.new.log c.in_ok-below.refined c.loop-above-test.true c.requires.on_level
      c.in_ok-below.ensures.level _ _
      (steps_down c.args.stack.base c.args.stack.maps c.args.start.level c.loop-above.above _ _ c.loop-above-test.true c.loop-above.invariant.0
      c.in_ok-below.ensures.down _ _ c.level-h-in-loop-above.ensures c.map.ensures.value c.map.ensures.full c.map.ensures.apart)
      c.vertices-vertices-in-loop-above.ensures.sound c.in_ok-part-2.part c.in_ok-part-2.ensures.value c.refine_and_leave.ensures.may_run
      c.refine_and_leave.ensures.kinds,
)

pub refine_level-requires-clause-kinds : goal.refine_level-requires-clause-kinds
refine_level-requires-clause-kinds g c =
    subst (AllPairs (λ (a b : Kind). a ≢ b)) (sym c.loop-above.invariant.1.kinds) c.requires.kinds

pub refine_level-requires-clause-tallied : goal.refine_level-requires-clause-tallied
refine_level-requires-clause-tallied g c =
    let few : c.loop-above.above ≤ 2 ^ 32 = search rules in
    let same = level_there c.args.stack.base c.args.stack.maps c.in_ok-levels.levels c.args.start.level c.level-h.result.now c.in_ok-levels.ensures
    c.level-h.ensures in
    tallies_low _ _ _ c.args.stack c.args.start.level c.args.start.blocks c.args.k c.args.limit c.args.workers c.args.seed c.args.log.now
    c.args.refiners.now (c.args.start.level - c.loop-above.above) c.loop-above.above c.loop-above.refiners c.loop-above.log c.loop-above.part
    c.loop-above.invariant.1 (subst IsWithinLimits same c.vertices-vertices.ensures.bounds) few c.requires.tallied

pub returns-clause-down : goal.returns-clause-down
returns-clause-down g c =
    let top = c.args.start.level in
    let done = c.loop-above-test.false in
    let file : top - c.loop-above.above ≡ 0 = omega arith in
    descending_end _ _ _ c.args.stack top c.args.start.blocks c.args.k c.args.limit c.args.workers c.args.seed c.args.log.now c.args.refiners.now
    c.requires.few c.requires.kinds c.loop-above.above c.loop-above.refiners c.loop-above.log c.loop-above.part c.loop-above.invariant.1
    c.refine_level.new.refiners c.refine_level.new.log c.in_ok-part-3.part file c.level.result.now
    (level_there c.args.stack.base c.args.stack.maps c.loop-above.levels (top - c.loop-above.above) c.level.result.now c.loop-above.invariant.0
    c.level.ensures ∙ ap (level c.args.stack.base c.args.stack.maps) file)
    c.in_ok-part-3.ensures.level
