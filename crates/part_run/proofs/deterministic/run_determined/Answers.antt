use Rattle.std.proofs.Common.{◌≡◌, ◌∙◌, ℕ, List, [], sym, ap, subst}
use Rattle.std.specs.Prelude.{None}
use Rattle.hg_defs.specs.Hypergraph.{Hyper, IsHypergraph, IsFixedWithin}
use Rattle.hg_defs.specs.Partition.{Fits}
use Rattle.hg_defs.specs.LeastLoaded.{overfills}
use Rattle.round_log.specs.declared.record.Trace.{Trace}
use Rattle.round_log.specs.Trace.{limit_of}
use Rattle.round_log.specs.TraceLaws.{IsSound}
use Rattle.round_log.proofs.DescentLaws.{greedy_sound}
use Rattle.pin_plain.specs.Parted.{Parted}
use Rattle.det_sync.specs.Descent.{AreDetLevels}
use Rattle.part_run.specs.Answers.{IsDeterminedRun}
use Rattle.part_run.proofs.LevelLemmas.{fits_over, pairings_suit, parted_told, parted_from}
use Rattle.part_run.proofs.ModeLemmas.{determined, determined_good}
use Rattle.part_run.proofs.deterministic.run_determined.Goals as goal

pub synchronize-requires-clause-sound : goal.synchronize-requires-clause-sound
synchronize-requires-clause-sound g c κs within = subst IsHypergraph (sym c.in_ok-stack.ensures.base) c.requires.ready.hypergraph

pub synchronize-requires-clause-levels : goal.synchronize-requires-clause-levels
synchronize-requires-clause-levels g c κs within =
    subst (λ (x : Hyper). AreDetLevels x c.args.job.now.k c.in_ok-stack.stack.maps c.in_ok-stack.stop) (sym c.in_ok-stack.ensures.base)
    c.in_ok-stack.ensures.levels

pub synchronize-requires-clause-suits : goal.synchronize-requires-clause-suits
synchronize-requires-clause-suits g c κs within =
    pairings_suit c.args.job.now.k c.in_ok-stack.stack c.args.h c.in_ok-stack.ensures.base c.requires.ready.hypergraph
    c.in_ok-stack.ensures.levels.contracted c.requires.suits c.requires.ready.fixed

pub synchronize-requires-clause-fixed : goal.synchronize-requires-clause-fixed
synchronize-requires-clause-fixed g c κs within =
    subst (λ (x : Hyper). IsFixedWithin x c.args.job.now.k) (sym c.in_ok-stack.ensures.base) c.requires.ready.fixed

pub synchronize-requires-clause-placed : goal.synchronize-requires-clause-placed
synchronize-requires-clause-placed g c κs within =
    let j = c.args.job.now in
    subst (λ (x : Hyper). overfills x j.k c.args.limit ≡ None) (sym c.in_ok-stack.ensures.base)
    (subst (λ (x : ℕ). overfills c.args.h j.k x ≡ None) (sym c.requires.limit) c.requires.ready.placed)

pub settle_best-requires-clause-fits : goal.settle_best-requires-clause-fits
settle_best-requires-clause-fits g c κs within =
    let s = c.in_ok-stack.stack in
    let j = c.args.job.now in
    let last = c.in_ok-h.last in
    let sound = c.in_ok-h.ensures.sound in
    fits_over s.base c.in_ok-h.h j.k last.k c.args.limit last.limit last.blocks c.in_ok-h.ensures.hypergraph
    (ap (λ (x : Parted). x.k) c.in_ok-h.ensures.partition) (ap (λ (x : Parted). x.limit) c.in_ok-h.ensures.partition)
    (subst (λ (bs : List ℕ). Fits s.base j.k c.args.limit bs) (sym (ap (λ (x : Parted). x.blocks) c.in_ok-h.ensures.partition)) sound.fits)

pub settle_best-requires-clause-greedy_fits : goal.settle_best-requires-clause-greedy_fits
settle_best-requires-clause-greedy_fits g c κs within =
    let h = c.args.h in
    let j = c.args.job.now in
    let last = c.in_ok-h.last in
    fits_over h c.in_ok-h.h j.k last.k (limit_of h j) last.limit c.args.placed (c.in_ok-h.ensures.hypergraph ∙ c.in_ok-stack.ensures.base)
    (ap (λ (x : Parted). x.k) c.in_ok-h.ensures.partition) (ap (λ (x : Parted). x.limit) c.in_ok-h.ensures.partition ∙ c.requires.limit)
    (let placed : IsSound h j.k (limit_of h j) c.args.placed =
    rw c.requires.placed (greedy_sound h j.k (limit_of h j) c.requires.ready) in placed.fits)

pub returns : goal.returns
returns g c =
    let h = c.args.h in
    let j = c.args.job.now in
    let s = c.in_ok-stack.stack in
    let last = c.in_ok-h.last in
    let best = c.in_ok-best.best in
    let base = c.in_ok-stack.ensures.base in
    let trace = c.settle_best.new.trace in
    let alone : IsDeterminedRun j h trace [] best.blocks =
    determined j h c.requires.ready s c.in_ok-stack.stop c.in_ok-h.h c.args.limit last.k last.limit c.in_ok-h.trace trace best.blocks
    c.requires.job.working c.requires.limit base c.in_ok-h.ensures.hypergraph (ap (λ (x : Parted). x.k) c.in_ok-h.ensures.partition)
    (ap (λ (x : Parted). x.limit) c.in_ok-h.ensures.partition) c.in_ok-stack.ensures.levels c.in_ok-h.ensures.trace c.in_ok-best.ensures.trace in
    let led = subst (λ (cs : List Trace). IsDeterminedRun j h trace cs best.blocks) (sym c.new.ensures) alone in
    record {
      hypergraph = c.in_ok-h.ensures.hypergraph ∙ base;
      partition =
          parted_told best h s.base j.k c.args.limit (limit_of h j) base c.requires.limit
          (parted_from best last s.base j.k c.args.limit c.in_ok-h.trace.last c.in_ok-best.ensures.partition c.in_ok-h.ensures.partition);
      good = determined_good j h c.requires.ready trace _ best.blocks led;
      led = led;
    }
