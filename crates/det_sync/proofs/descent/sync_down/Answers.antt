use Rattle.std.proofs.Common.{◌≡◌, ◌-◌, ◌+◌, ◌<◌, ℕ, suc, length, sym, ap, subst, ◌∙◌, arith}
use Rattle.hg_defs.specs.Hypergraph.{Hyper}
use Rattle.hg_defs.specs.Contraction.{IsFull}
use Rattle.hg_defs.specs.Clustering.{cluster_count}
use Rattle.hg_defs.specs.Levels.{level}
use Rattle.hg_defs.specs.Partition.{Fits}
use Rattle.hg_defs.specs.Cost.{cost}
use Rattle.pin_plain.specs.Parted.{Parted}
use Rattle.level_stack.specs.Down.{Down}
use Rattle.level_stack.proofs.DownLaws.{level_there, went_down, steps_down, StepsDown}
use Rattle.det_sync.proofs.DescentLaws.{IsComingDown, places_down, fits_down, down_first, down_next, cost_down, comes_down}
use Rattle.det_sync.proofs.descent.sync_down.Goals as goal

pub loop-above-init : goal.loop-above-init
loop-above-init g c =
    let made = c.in_ok-reached.ensures in
    let base = c.args.levels.base in
    let maps = c.args.levels.maps in
    let began : c.args.levels ≡ record { base = base; maps = maps; number = c.args.start } =
    ap (λ (n : ℕ). let d : Down = record { base = base; maps = maps; number = n } in d) (sym c.requires.number) in
    let coarse = level_there base maps c.args.levels c.args.start c.level-coarse.result.now began c.level-coarse.ensures in
    let same : c.args.start ≡ c.args.start - 0 = omega arith in
    record {
      on = began ∙ ap (λ (n : ℕ). let d : Down = record { base = base; maps = maps; number = n } in d) same;
      down = down_first c.args.levels.base c.args.levels.maps c.args.workers c.args.start c.args.p c.args.log.now c.level-coarse.result.now
          c.sync_level.new.p c.sync_level.new.log (c.args.start - 0) (omega arith) c.requires.belongs coarse made.partition made.fits
          made.rounds;
      cost_is =
          made.cost ∙ ap (λ (x : Hyper). cost x c.sync_level.new.p.blocks)
          (coarse ∙ sym (ap (λ (x : Parted). x.hyper) made.partition ∙ c.requires.belongs));
    }

pub project_with-requires-clause-places : goal.project_with-requires-clause-places
project_with-requires-clause-places g c κs within =
    let base = c.args.levels.base in
    let maps = c.args.levels.maps in
    let i = c.args.start - 1 - c.loop-above.above in
    let step : StepsDown base maps i c.level-fine.result.now c.map.result.now =
    steps_down base maps c.args.start c.loop-above.above _ _ c.loop-above-test.true c.loop-above.invariant.on c.in_ok-levels.ensures _ _
    c.level-fine.ensures c.map.ensures.value c.map.ensures.full c.map.ensures.apart in
    let one : c.args.start - c.loop-above.above ≡ suc i = omega (arith, c.loop-above-test.true) in
    let low : i < length maps = omega (arith, c.requires.level, c.loop-above-test.true) in
    places_down base maps c.args.workers c.args.start c.args.p c.args.log.now (c.args.start - c.loop-above.above) i c.loop-above.p c.loop-above.log
    c.loop-above.invariant.down one c.level-fine.result.now step.same c.map.result.now step.is_map
    low step.full.below

pub sync_level-requires-in-loop-above-clause-fits : goal.sync_level-requires-in-loop-above-clause-fits
sync_level-requires-in-loop-above-clause-fits g c κs within =
    let base = c.args.levels.base in
    let maps = c.args.levels.maps in
    let i = c.args.start - 1 - c.loop-above.above in
    let step : StepsDown base maps i c.level-fine.result.now c.map.result.now =
    steps_down base maps c.args.start c.loop-above.above _ _ c.loop-above-test.true c.loop-above.invariant.on c.in_ok-levels.ensures _ _
    c.level-fine.ensures c.map.ensures.value c.map.ensures.full c.map.ensures.apart in
    let one : c.args.start - c.loop-above.above ≡ suc i = omega (arith, c.loop-above-test.true) in
    let low : i < length maps = omega (arith, c.requires.level, c.loop-above-test.true) in
    let fine = c.level-fine.result.now in
    let made = c.in_ok-p.p in
    let full = subst (λ (x : Hyper). IsFull x c.map.result.now (cluster_count c.map.result.now)) (sym step.same) step.full in
    let fits = fits_down base maps c.args.workers c.args.start c.args.p c.args.log.now (c.args.start - c.loop-above.above) i c.loop-above.p c.loop-above.log
    c.loop-above.invariant.down one c.level-fine.result.now step.same c.map.result.now step.is_map
    made.blocks low c.vertices-vertices.ensures.sound full c.in_ok-p.ensures.cost in
    subst (λ m. Fits fine m made.limit made.blocks) (sym (ap (λ (x : Parted). x.k) c.in_ok-p.ensures.value))
    (subst (λ m. Fits fine c.loop-above.p.k m made.blocks) (sym (ap (λ (x : Parted). x.limit) c.in_ok-p.ensures.value)) fits)

pub sync_level-requires-in-loop-above-clause-cost : goal.sync_level-requires-in-loop-above-clause-cost
sync_level-requires-in-loop-above-clause-cost g c κs within =
    let base = c.args.levels.base in
    let maps = c.args.levels.maps in
    let i = c.args.start - 1 - c.loop-above.above in
    let step : StepsDown base maps i c.level-fine.result.now c.map.result.now =
    steps_down base maps c.args.start c.loop-above.above _ _ c.loop-above-test.true c.loop-above.invariant.on c.in_ok-levels.ensures _ _
    c.level-fine.ensures c.map.ensures.value c.map.ensures.full c.map.ensures.apart in
    let one : c.args.start - c.loop-above.above ≡ suc i = omega (arith, c.loop-above-test.true) in
    let low : i < length maps = omega (arith, c.requires.level, c.loop-above-test.true) in
    let full = subst (λ (x : Hyper). IsFull x c.map.result.now (cluster_count c.map.result.now)) (sym step.same) step.full in
    c.loop-above.invariant.cost_is
    ∙ sym
    (cost_down base maps c.args.workers c.args.start c.args.p c.args.log.now (c.args.start - c.loop-above.above) i c.loop-above.p c.loop-above.log
    c.loop-above.invariant.down one c.level-fine.result.now step.same c.map.result.now step.is_map c.in_ok-p.p.blocks low
    c.vertices-vertices.ensures.sound full c.in_ok-p.ensures.cost)

pub loop-above-preserved : goal.loop-above-preserved
loop-above-preserved g c =
    let base = c.args.levels.base in
    let maps = c.args.levels.maps in
    let i = c.args.start - 1 - c.loop-above.above in
    let step : StepsDown base maps i c.level-fine.result.now c.map.result.now =
    steps_down base maps c.args.start c.loop-above.above _ _ c.loop-above-test.true c.loop-above.invariant.on c.in_ok-levels.ensures _ _
    c.level-fine.ensures c.map.ensures.value c.map.ensures.full c.map.ensures.apart in
    let one : c.args.start - c.loop-above.above ≡ suc i = omega (arith, c.loop-above-test.true) in
    let made = c.in_ok-reached-2.ensures in
    let next = c.sync_level-in-loop-above.new.p in
    record {
      on = went_down base maps c.args.start c.loop-above.above _ _ c.loop-above-test.true c.loop-above.invariant.on c.in_ok-levels.ensures;
      down = down_next base maps c.args.workers c.args.start c.args.p c.args.log.now (c.args.start - c.loop-above.above) i c.loop-above.p c.loop-above.log
          c.loop-above.invariant.down one c.level-fine.result.now step.same c.map.result.now step.is_map
          c.in_ok-p.p next c.sync_level-in-loop-above.new.log (c.args.start - (c.loop-above.above + 1))
          (omega (arith, c.loop-above-test.true)) c.in_ok-p.ensures.value made.partition made.fits made.rounds;
      cost_is =
          made.cost ∙ ap (λ (x : Hyper). cost x next.blocks)
          (sym (ap (λ (x : Parted). x.hyper) made.partition ∙ ap (λ (x : Parted). x.hyper) c.in_ok-p.ensures.value));
    }

pub returns-clause-rounds : goal.returns-clause-rounds
returns-clause-rounds g c =
    let p = c.args.p in
    let zero_left : c.args.start - c.loop-above.above ≡ 0 = omega (arith, c.loop-above-test.false) in
    comes_down c.args.levels.base c.args.levels.maps p.k p.limit c.args.workers c.args.start p.blocks c.args.log.now c.loop-above.p.blocks
    c.loop-above.log
    (subst (λ n. IsComingDown c.args.levels.base c.args.levels.maps p.k p.limit c.args.workers c.args.start p.blocks c.args.log.now n
    c.loop-above.p.blocks c.loop-above.log) zero_left c.loop-above.invariant.down.coming)

pub returns-clause-partition : goal.returns-clause-partition
returns-clause-partition g c =
    let zero_left : c.args.start - c.loop-above.above ≡ 0 = omega (arith, c.loop-above-test.false) in
    c.loop-above.invariant.down.shape
    ∙ ap (λ (n : ℕ). record c.args.p { hyper = level c.args.levels.base c.args.levels.maps n; blocks = c.loop-above.p.blocks }) zero_left
