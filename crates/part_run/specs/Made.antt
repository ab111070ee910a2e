-- What a run over a hypergraph made, before it is written.
use Rattle.std.specs.Prelude.{◌≡◌, ◌≤◌, List, All}
use Rattle.hg_defs.specs.Hypergraph.{Hyper}
use Rattle.hg_defs.specs.Partition.{IsPartition}
use Rattle.hg_defs.specs.Cost.{cost}
use Rattle.hg_defs.specs.LeastLoaded.{greedy}
use Rattle.round_log.specs.declared.record.Kind.{Kind}
use Rattle.round_log.specs.declared.record.Job.{Job}
use Rattle.round_log.specs.Trace.{limit_of}
use Rattle.round_log.specs.TraceLaws.{IsPlaceableFor}
use Rattle.trace_text.specs.Report as report
use Rattle.part_run.specs.declared.making.Made.{Made}
use Rattle.part_run.specs.declared.reached.Reached.{Reached}
use Rattle.part_run.specs.declared.words.Mode.{Mode}
use Rattle.part_run.specs.Answers.{IsGoodPartition, IsReachedIn, IsOutcomeIn}

-- the numbers of a run are within their bounds
pub record IsJob (job : Job) : Type 0 where
  pub bounds : report.IsJob job
  pub working : 1 ≤ job.workers
  pub few_workers : job.workers ≤ 64

-- the hypergraph, and the partition of it that a run in a mode came to
pub record IsReached (mode : Mode) (kinds : List Kind) (job : Job) (h : Hyper) (reached : Reached) : Type 0 where
  pub hypergraph : reached.h ≡ h
  pub partition : reached.best ≡ record { hyper = h; k = job.k; limit = limit_of h job; blocks = reached.best.blocks }
  pub good : IsGoodPartition job h reached.best.blocks
  pub led : IsReachedIn mode kinds job h reached.trace reached.cycles reached.best.blocks

-- the hypergraph, the cost of greedy placement, and what a run in a mode with refiners of these kinds made
pub record IsMade (mode : Mode) (kinds : List Kind) (job : Job) (h : Hyper) (made : Made) : Type 0 where
  pub hypergraph : made.h ≡ h
  pub ready : IsPlaceableFor h job
  pub greedy : made.greedy ≡ cost h (greedy h job.k)
  pub outcome : IsOutcomeIn mode kinds job h made.outcome

-- what is needed to report it
pub record IsReportable (job : Job) (made : Made) : Type 0 where
  pub bounds : report.IsJob job
  pub partition : IsPartition made.h job.k made.outcome.blocks
  pub greedy : made.greedy ≡ cost made.h (greedy made.h job.k)
  pub trace : report.IsPrintable made.h job.k made.outcome.trace
  pub cycles : All (report.IsPrintable made.h job.k) made.outcome.cycles
