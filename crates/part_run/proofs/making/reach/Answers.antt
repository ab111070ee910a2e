use Rattle.std.proofs.Common.{List, Result, Ok, Err, refl}
use Rattle.std.specs.Prelude.{IfOk}
use Rattle.hg_defs.specs.Hypergraph.{Hyper}
use Rattle.round_log.specs.declared.record.Kind.{Kind}
use Rattle.round_log.specs.declared.record.Job.{Job}
use Rattle.part_run.specs.declared.reached.Reached.{Reached}
use Rattle.part_run.specs.declared.words.Mode.TheVariants.{Deterministic}
use Rattle.part_run.specs.Made.{IsReached}
use Rattle.part_run.proofs.making.reach.Goals as goal

any_ok : {A E : Type 0} (P : A → Type 0) (r : Result A E) → ((a : A) → P a) → IfOk r P
any_ok P (Ok a) all = all a
any_ok P (Err e) all = tt

ok_also : {A E : Type 0} (P Q : A → Type 0) (r : Result A E) → ((a : A) → P a → Q a) → IfOk r P → IfOk r Q
ok_also P Q (Ok a) turn ok = turn a ok
ok_also P Q (Err e) turn ok = tt

-- the kinds of refiners that aren't called say nothing
whatever_kinds : (kinds others : List Kind) (job : Job) (h : Hyper) (r : Reached) → IsReached Deterministic kinds job h r
    → IsReached Deterministic others job h r
whatever_kinds kinds others job h r by = record { hypergraph = by.hypergraph; partition = by.partition; good = by.good; led = by.led }

pub run_levels-requires-clause-count : goal.run_levels-requires-clause-count
run_levels-requires-clause-count g c κs within = rw c.in-Raced.is at c.requires.cycles

pub returns-in-Raced-clause-reached : goal.returns-in-Raced-clause-reached
returns-in-Raced-clause-reached g c = rw c.in-Raced.is c.run_levels.ensures.reached

pub returns-in-Raced-clause-tallies : goal.returns-in-Raced-clause-tallies
returns-in-Raced-clause-tallies g c = rw c.in-Raced.is c.run_levels.ensures.tallies

pub returns-in-Raced-clause-spared : goal.returns-in-Raced-clause-spared
returns-in-Raced-clause-spared g c = rw c.in-Raced.is tt

pub returns-in-Deterministic-clause-reached : goal.returns-in-Deterministic-clause-reached
returns-in-Deterministic-clause-reached g c =
    rw c.in-Deterministic.is (ok_also _ _ c.run_determined.result (λ r. whatever_kinds _ _ c.args.job.now c.args.h r) c.run_determined.ensures)

pub returns-in-Deterministic-clause-tallies : goal.returns-in-Deterministic-clause-tallies
returns-in-Deterministic-clause-tallies g c = rw c.in-Deterministic.is (any_ok _ c.run_determined.result (λ r. refl))

pub returns-in-Deterministic-clause-spared : goal.returns-in-Deterministic-clause-spared
returns-in-Deterministic-clause-spared g c = rw c.in-Deterministic.is refl
