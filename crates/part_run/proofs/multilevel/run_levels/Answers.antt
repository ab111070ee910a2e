use Rattle.std.proofs.Common.{◌≢◌, ◌∙◌, ℕ, AllPairs, sym, subst}
use Rattle.hg_defs.specs.Hypergraph.{Hyper}
use Rattle.round_log.specs.declared.record.Kind.{Kind}
use Rattle.round_log.specs.Trace.{limit_of}
use Rattle.round_log.specs.TraceLaws.{IsSound}
use Rattle.uncoarsen.proofs.LegalLaws.{kinds-settled}
use Rattle.vcycle.specs.Cycles.{rounds_of_cycles}
use Rattle.part_run.proofs.LevelLemmas.{parted_told}
use Rattle.part_run.proofs.ModeLemmas.{raced_good, raced_told, tallies_joined}
use Rattle.part_run.proofs.multilevel.run_levels.Goals as goal

pub cycles-requires-clause-kinds : goal.cycles-requires-clause-kinds
cycles-requires-clause-kinds g c κs within = subst (AllPairs (λ (a b : Kind). a ≢ b)) (sym c.run_descent.ensures.kinds) c.requires.kinds

pub cycles-requires-clause-sound : goal.cycles-requires-clause-sound
cycles-requires-clause-sound g c κs within =
    let h = c.args.h in
    let j = c.args.job.now in
    let blocks = c.in_ok-base.reached.blocks in
    let end = kinds-settled _ h j c.in_ok-base.trace blocks c.requires.ready c.in_ok-base.ensures.legal in
    subst (λ (x : Hyper). IsSound x j.k c.args.limit blocks) (sym c.in_ok-base.ensures.hypergraph)
    (subst (λ (x : ℕ). IsSound h j.k x blocks) (sym c.requires.limit) end.sound)

pub returns-clause-reached : goal.returns-clause-reached
returns-clause-reached g c =
    let h = c.args.h in
    let j = c.args.job.now in
    let best = c.in_ok-h.best in
    let raced = raced_told _ _ c.args.count j h c.in_ok-base.base c.args.limit c.in_ok-base.trace c.in_ok-h.cycles c.in_ok-base.reached.blocks
    best.blocks c.run_descent.ensures.kinds c.in_ok-base.ensures.hypergraph c.requires.limit c.in_ok-base.ensures.legal c.in_ok-h.ensures.cycles
    c.in_ok-h.ensures.count in
    record {
      hypergraph = c.in_ok-h.ensures.hypergraph ∙ c.in_ok-base.ensures.hypergraph;
      partition =
          parted_told best h c.in_ok-base.base j.k c.args.limit (limit_of h j) c.in_ok-base.ensures.hypergraph c.requires.limit
          c.in_ok-h.ensures.partition;
      good = raced_good _ c.args.count j h c.in_ok-base.trace c.in_ok-h.cycles best.blocks c.requires.ready raced;
      led = raced;
    }

pub returns-clause-tallies : goal.returns-clause-tallies
returns-clause-tallies g c =
    c.in_ok-h.ensures.tallies
    ∙ tallies_joined c.in_ok-base.trace.rounds (rounds_of_cycles c.in_ok-h.cycles) _ _ _ _ c.run_descent.ensures.kinds c.in_ok-base.ensures.tallies
