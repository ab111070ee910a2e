-- What a run needs to come to its end: words that spell a command, bytes that are spelt, and no fault.
use Rattle.std.specs.Prelude.{◌≡◌, ℕ, ◌≤◌, List, length, Option, Some, None, Ok, ◌⊎◌}
use Rattle.hg_defs.specs.Hypergraph.{Hyper, vertex_count, Suits}
use Rattle.hg_defs.specs.LeastLoaded.{overfills}
use Rattle.hg_io.specs.Faults.{Rose}
use Rattle.round_log.specs.declared.record.Kind.{Kind}
use Rattle.round_log.specs.Trace.{limit_of}
use Rattle.hg_make.specs.Made.{made}
use Rattle.hmetis_read.specs.Graph.{graph}
use Rattle.part_text.specs.Entries.{spelled_part, spelled_fixes}
use Rattle.part_run.specs.declared.status.Status.TheVariants.{Done, NoMemory}
use Rattle.part_run.specs.declared.ended.Ended.{Ended}
use Rattle.part_run.specs.Wanted.{Command, Partition, Evaluate, Generate, SelfRun, Partitioning, Evaluation}
use Rattle.part_run.specs.Reads.{Feed, most_bytes, with_objective}
use Rattle.part_run.specs.Answers.{Inputs, Outputs, IsEnd, limit_for, trial_job}

-- no count of faults rose
pub record AreFaultless (inputs inputs' : Inputs) (outputs outputs' : Outputs) : Type 0 where
  pub graph : Rose inputs.graph.faults inputs'.graph.faults → ⊥
  pub extra : Rose inputs.extra.faults inputs'.extra.faults → ⊥
  pub out : Rose outputs.out.faults outputs'.out.faults → ⊥
  pub report : Rose outputs.report.faults outputs'.report.faults → ⊥

-- a source tells its bytes, which aren't too many, and spell what `spells` says of them
pub record Gives (feed : Feed) (spells : List ℕ → Type 0) : Type 0 where
  pub bytes : List ℕ
  pub told : feed.bytes ≡ Some bytes
  pub within : length bytes ≤ most_bytes
  pub spelled : spells bytes

-- the fixes of a fix file, where one is named, in place of none
abbrev pub GivesFixes : Option (List ℕ) → ℕ → Feed → Hyper → Hyper → Type 0
GivesFixes None k extra h fixed = fixed ≡ h
GivesFixes (Some name) k extra h fixed =
    Gives extra (λ bytes. spelled_fixes bytes (vertex_count h) k ≡ Ok fixed.fixes) × (fixed ≡ record h { fixes = fixed.fixes })

-- the sources give a hypergraph that greedy placement partitions within the limit
pub record IsPartitionable (p : Partitioning) (inputs : Inputs) : Type 0 where
  pub spelled : Hyper
  pub fixed : Hyper
  pub graph : Gives inputs.graph (λ bytes. graph bytes ≡ Ok spelled)
  pub suits : Suits spelled p.k
  pub fixes : GivesFixes p.fix p.k inputs.extra (with_objective p.objective spelled) fixed
  pub placed : overfills fixed p.k (limit_for p fixed) ≡ None

-- they give a hypergraph and a partition of it
pub record IsEvaluable (e : Evaluation) (inputs : Inputs) : Type 0 where
  pub hypergraph : Hyper
  pub blocks : List ℕ
  pub graph : Gives inputs.graph (λ bytes. graph bytes ≡ Ok hypergraph)
  pub suits : Suits hypergraph e.k
  pub part : Gives inputs.extra (λ bytes. spelled_part bytes (vertex_count hypergraph) e.k ≡ Ok blocks)

-- what each command asks of its sources
abbrev pub IsServed : Command → Inputs → Type 0
IsServed (Partition p) inputs = IsPartitionable p inputs
IsServed (Evaluate e) inputs = IsEvaluable e inputs
IsServed (Generate n) inputs = Unit {0}
IsServed (SelfRun n k) inputs = Suits (made n) k × (overfills (made n) k (limit_of (made n) (trial_job k)) ≡ None)

-- a run whose sources give what its command asks of them, and which meets no fault, is done, or there was no memory
abbrev pub RunsComeToTheirEnd : Type 0
RunsComeToTheirEnd =
    (kinds : List Kind) (command : Command) (inputs inputs' : Inputs) (outputs outputs' : Outputs) (ended : Ended)
    → IsEnd kinds (Some command) inputs inputs' outputs outputs' ended → IsServed command inputs → AreFaultless inputs inputs' outputs outputs'
    → (ended.status ≡ Done) ⊎ (ended.status ≡ NoMemory)
