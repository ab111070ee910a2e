-- What a run made can be reported.
use Rattle.std.proofs.Common.{◌≡◌, ℕ, List, All, sym, ap, subst, ◌∙◌}
use Rattle.hg_defs.specs.Hypergraph.{Hyper}
use Rattle.hg_defs.specs.Partition.{IsPartition}
use Rattle.hg_defs.specs.Cost.{cost}
use Rattle.hg_defs.specs.LeastLoaded.{greedy}
use Rattle.round_log.specs.declared.record.Kind.{Kind}
use Rattle.round_log.specs.declared.record.Job.{Job}
use Rattle.trace_text.specs.Report.{IsPrintable}
use Rattle.part_run.specs.declared.making.Made.{Made}
use Rattle.part_run.specs.declared.reached.Reached.{Reached}
use Rattle.part_run.specs.declared.ended.Outcome.{Outcome}
use Rattle.part_run.specs.declared.words.Mode.{Mode}
use Rattle.part_run.specs.Answers.{IsGoodPartition, IsReachedIn, IsOutcomeIn}
use Rattle.part_run.specs.Made.{IsJob, IsReached, IsMade, IsReportable}
use Rattle.part_run.proofs.ModeLemmas.{reached_printable, reached_cycles_printable}

pub reportable : (mode : Mode) (kinds : List Kind) (job : Job) (h : Hyper) (made : Made) → IsJob job → IsMade mode kinds job h made
    → IsReportable job made
reportable mode kinds job h made ok m = record {
  bounds = ok.bounds;
  partition = subst (λ (g : Hyper). IsPartition g job.k made.outcome.blocks) (sym m.hypergraph) m.outcome.good.partition;
  greedy = m.greedy ∙ ap (λ (g : Hyper). cost g (greedy g job.k)) (sym m.hypergraph);
  trace = subst (λ (g : Hyper). IsPrintable g job.k made.outcome.trace) (sym m.hypergraph)
      (reached_printable job h m.ready mode kinds made.outcome.trace made.outcome.cycles made.outcome.blocks m.outcome.reached);
  cycles = subst (λ (g : Hyper). All (IsPrintable g job.k) made.outcome.cycles) (sym m.hypergraph)
      (reached_cycles_printable job h m.ready mode kinds made.outcome.trace made.outcome.cycles made.outcome.blocks m.outcome.reached);
}

-- the same outcome, told in other words
pub outcome_over : {mode : Mode} {kinds : List Kind} {job job' : Job} {h h' : Hyper} {outcome : Outcome} → job ≡ job' → h ≡ h'
    → IsOutcomeIn mode kinds job h outcome → IsOutcomeIn mode kinds job' h' outcome
outcome_over {mode = mode} {kinds = kinds} {job' = job'} {h = h} {outcome = outcome} same_job same_h reached =
    subst (λ (x : Hyper). IsOutcomeIn mode kinds job' x outcome) same_h (subst (λ (x : Job). IsOutcomeIn mode kinds x h outcome) same_job reached)

-- what was reached, as the outcome
pub outcome_of : (mode : Mode) (kinds : List Kind) (job : Job) (h : Hyper) (reached : Reached) (blocks : List ℕ) (amount : ℕ)
    → IsReached mode kinds job h reached → blocks ≡ reached.best.blocks → amount ≡ cost reached.h reached.best.blocks
    → IsOutcomeIn mode kinds job h (record { blocks = blocks; cost = amount; trace = reached.trace; cycles = reached.cycles })
outcome_of mode kinds job h reached blocks amount r same is = record {
  good = subst (IsGoodPartition job h) (sym same) r.good;
  cost = is ∙ ap (λ (g : Hyper). cost g reached.best.blocks) r.hypergraph ∙ ap (cost h) (sym same);
  reached = subst (IsReachedIn mode kinds job h reached.trace reached.cycles) (sym same) r.led;
}
