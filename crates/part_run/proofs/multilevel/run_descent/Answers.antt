use Rattle.std.proofs.Common.{◌∙◌, refl, sym, ap, subst, arith}
use Rattle.hg_defs.specs.Hypergraph.{Hyper, IsHypergraph, IsWithinLimits}
use Rattle.round_log.specs.Trace.{AreContracted, IsGoodClustering, limit_of}
use Rattle.round_log.specs.TraceLaws.{IsSound}
use Rattle.pin_plain.specs.Parted.{Parted}
use Rattle.round_log.proofs.DescentLaws.{greedy_sound}
use Rattle.part_run.proofs.LevelLemmas.{partable_over, fits_over, parted_told, parted_from, run_told, tallies_told}
use Rattle.part_run.proofs.GrowthLemmas.{tallies_low}
use Rattle.part_run.proofs.multilevel.run_descent.Goals as goal

pub begin-requires-clause-levels : goal.begin-requires-clause-levels
begin-requires-clause-levels g c κs within =
    let j = c.args.job.now in
    let s = c.in_ok-stack.stack in
    partable_over j.k s c.args.h c.in_ok-stack.ensures.base c.requires.ready.hypergraph c.in_ok-stack.ensures.levels c.requires.suits
    c.requires.ready.fixed

pub uncoarsen-requires-clause-levels : goal.uncoarsen-requires-clause-levels
uncoarsen-requires-clause-levels g c κs within =
    let j = c.args.job.now in
    let s = c.in_ok-stack.stack in
    partable_over j.k s c.args.h c.in_ok-stack.ensures.base c.requires.ready.hypergraph c.in_ok-stack.ensures.levels c.requires.suits
    c.requires.ready.fixed

pub settle_best-requires-clause-greedy_fits : goal.settle_best-requires-clause-greedy_fits
settle_best-requires-clause-greedy_fits g c κs within =
    let h = c.args.h in
    let j = c.args.job.now in
    let last = c.in_ok-h.last in
    fits_over h c.in_ok-h.h j.k last.k (limit_of h j) last.limit c.args.placed (c.in_ok-h.ensures.hypergraph ∙ c.in_ok-stack.ensures.base)
    (ap (λ (x : Parted). x.k) c.in_ok-h.ensures.partition) (ap (λ (x : Parted). x.limit) c.in_ok-h.ensures.partition ∙ c.requires.limit)
    (let placed : IsSound h j.k (limit_of h j) c.args.placed =
    rw c.requires.placed (greedy_sound h j.k (limit_of h j) c.requires.ready) in placed.fits)

pub returns-clause-legal : goal.returns-clause-legal
returns-clause-legal g c =
    let h = c.args.h in
    let j = c.args.job.now in
    let s = c.in_ok-stack.stack in
    let last = c.in_ok-h.last in
    run_told _ s c.in_ok-stack.stop c.in_ok-start.start.level c.in_ok-start.start.blocks j c.in_ok-h.trace c.settle_best.new.trace
    c.in_ok-best.best.blocks h c.in_ok-h.h c.args.limit last.k last.limit c.requires.ready c.requires.limit c.in_ok-stack.ensures.base
    c.in_ok-h.ensures.hypergraph (ap (λ (x : Parted). x.k) c.in_ok-h.ensures.partition) (ap (λ (x : Parted). x.limit) c.in_ok-h.ensures.partition)
    c.in_ok-stack.ensures.levels c.in_ok-stack.ensures.stop c.in_ok-start.ensures c.in_ok-h.ensures.trace c.in_ok-h.ensures.sound
    c.in_ok-best.ensures.trace

pub returns-clause-tallies : goal.returns-clause-tallies
returns-clause-tallies g c =
    let s = c.in_ok-stack.stack in
    let last = c.in_ok-h.last in
    c.in_ok-h.ensures.tallies
    ∙ tallies_told _ s c.in_ok-stack.stop c.in_ok-start.start.level c.in_ok-start.start.blocks c.args.job.now c.in_ok-h.trace c.settle_best.new.trace
    c.in_ok-best.best.blocks c.in_ok-h.h c.args.limit last.k last.limit _ c.in_ok-h.ensures.hypergraph
    (ap (λ (x : Parted). x.k) c.in_ok-h.ensures.partition) (ap (λ (x : Parted). x.limit) c.in_ok-h.ensures.partition)
    c.in_ok-h.ensures.trace c.in_ok-best.ensures.trace

pub returns-clause-tallied : goal.returns-clause-tallied
returns-clause-tallied g c =
    let h = c.args.h in
    let j = c.args.job.now in
    let s = c.in_ok-stack.stack in
    let start = c.in_ok-start.ensures in
    tallies_low _ s.base j.k c.args.limit j.workers s.maps
    (subst IsHypergraph (sym c.in_ok-stack.ensures.base) c.requires.ready.hypergraph)
    (subst (λ (x : Hyper). AreContracted (IsGoodClustering j.k) 0 x j.k s.maps) (sym c.in_ok-stack.ensures.base) c.in_ok-stack.ensures.levels)
    _ c.args.refiners.now c.uncoarsen.new.refiners c.in_ok-start.start.level c.in_ok-start.start.blocks c.in_ok-h.trace.rounds c.in_ok-h.trace.last
    (subst IsWithinLimits (sym c.in_ok-stack.ensures.base) c.vertices-vertices.ensures.bounds)
    (omega arith) c.requires.kinds start.on_level (record { partition = start.partition; obeys = start.obeys; fits = start.fits })
    c.in_ok-h.ensures.trace.descent c.in_ok-h.ensures.tallies c.requires.tallied

pub returns-clause-partition : goal.returns-clause-partition
returns-clause-partition g c =
    let s = c.in_ok-stack.stack in
    let best = c.in_ok-best.best in
    parted_told best c.in_ok-h.h s.base c.args.job.now.k c.args.limit c.args.limit (sym c.in_ok-h.ensures.hypergraph) refl
    (parted_from best c.in_ok-h.last s.base c.args.job.now.k c.args.limit c.in_ok-h.trace.last c.in_ok-best.ensures.partition
    c.in_ok-h.ensures.partition)
