-- What a run may answer: for each way to end its cause, what was read, and what was written.
use Rattle.std.specs.Prelude.{◌≡◌, ◌≢◌, ℕ, ◌+◌, ◌*◌, ◌^◌, ◌<◌, ◌≤◌, List, [], ◌++◌, length, Bool, false, Option, Some, None, Ok, ◌⊎◌}
use Rattle.std.specs.Io.KnownBytes.{Appends}
use Rattle.hg_defs.specs.Hypergraph.{Hyper, vertex_count, net_count, total_weight, Suits}
use Rattle.hg_defs.specs.Partition.{IsPartition, Obeys, Fits, limit}
use Rattle.hg_defs.specs.Cost.{cost}
use Rattle.hg_defs.specs.LeastLoaded.{greedy, overfills}
use Rattle.hg_defs.specs.Moves.{IsSettled}
use Rattle.hg_io.specs.Faults.{Rose}
use Rattle.hg_io.specs.Transfers.{AppendsPrefix}
use Rattle.round_log.specs.declared.record.Kind.{Kind}
use Rattle.round_log.specs.declared.record.Job.{Job}
use Rattle.round_log.specs.declared.record.LoggedRound.{LoggedRound}
use Rattle.round_log.specs.declared.record.Trace.{Trace}
use Rattle.round_log.specs.Trace.{limit_of}
use Rattle.round_log.specs.Deterministic.{det, IsDetTrace, IsLegalDet}
use Rattle.refiner.specs.declared.pass.Tally.{Tally}
use Rattle.uncoarsen.specs.Refined.{IsLegalBy, tallies_with}
use Rattle.vcycle.specs.Cycles.{AreCyclesBy, rounds_of_cycles}
use Rattle.part_text.specs.Part.{part_text}
use Rattle.part_text.specs.Entries.{spelled_part}
use Rattle.hg_make.specs.Made.{made}
use Rattle.hg_make.specs.Text.{hypergraph_text}
use Rattle.trace_text.specs.Evaluation.{evaluation_text}
use Rattle.trace_text.specs.Report.{report_text}
use Rattle.trace_text.specs.Summary.{summary_text}
use Rattle.hmetis_read.specs.declared.fault.What.TheVariants.{Words}
use Rattle.part_run.specs.declared.status.Status.{Status}
use Rattle.part_run.specs.declared.status.Status.TheVariants.{Done, Usage, TooLarge, Unplaced, WriteFault, NoMemory}
use Rattle.part_run.specs.declared.ended.Outcome.{Outcome}
use Rattle.part_run.specs.declared.ended.Ended.{Ended}
use Rattle.part_run.specs.declared.words.Mode.{Mode}
use Rattle.part_run.specs.declared.words.Mode.TheVariants.{Raced, Deterministic}
use Rattle.part_run.specs.Wanted.{Command, Partition, Evaluate, Generate, SelfRun, Partitioning, Evaluation}
use Rattle.part_run.specs.Reads.{Feed, IsSuited, Spells, with_objective, IsFixed, IsGraphRefusal, IsFixRefusal, IsPartRefusal}

-- the sources of a run at one moment
pub record Inputs : Type 0 where
  pub graph : Feed
  pub extra : Feed

abbrev pub inputs_of : Feed → Feed → Inputs
inputs_of graph extra = record { graph = graph; extra = extra }

-- a sink at one moment: the bytes that it got, where they are known, its count of faults, and whether it may hold some back
pub record Port : Type 0 where
  pub bytes : Option (List ℕ)
  pub faults : ℕ
  pub held : Bool

abbrev pub port_of : Option (List ℕ) → ℕ → Bool → Port
port_of bytes faults held = record { bytes = bytes; faults = faults; held = held }

-- the sinks of a run at one moment
pub record Outputs : Type 0 where
  pub out : Port
  pub report : Port

abbrev pub outputs_of : Port → Port → Outputs
outputs_of out report = record { out = out; report = report }

-- a sink got its whole text without a fault, and holds nothing of it back; where the text is empty it isn't called
pub record IsSent (old new : Port) (text : List ℕ) : Type 0 where
  pub bytes : Appends old.bytes new.bytes text
  pub faultless : new.faults ≡ old.faults
  pub sent : text ≢ [] → new.held ≡ false
  pub uncalled : text ≡ [] → new ≡ old

-- both sinks got their whole texts
pub record IsWritten (old new : Outputs) (out_text report_text : List ℕ) : Type 0 where
  pub out : IsSent old.out new.out out_text
  pub report : IsSent old.report new.report report_text

-- a sink met a fault and got a prefix of its text, which isn't empty
pub record IsCutOff (old new : Port) (text : List ℕ) : Type 0 where
  pub some : text ≢ []
  pub fault : Rose old.faults new.faults
  pub bytes : AppendsPrefix old.bytes new.bytes text

-- out met a fault, and the report wasn't called
pub record IsOutFault (old new : Outputs) (out_text : List ℕ) : Type 0 where
  pub out : IsCutOff old.out new.out out_text
  pub report : new.report ≡ old.report

-- out got its whole text, and then the report met a fault
pub record IsReportFault (old new : Outputs) (out_text report_text : List ℕ) : Type 0 where
  pub out : IsSent old.out new.out out_text
  pub report : IsCutOff old.report new.report report_text

-- why two texts weren't written: a sink met a fault
abbrev pub IsWriteRefusal : Outputs → Outputs → List ℕ → List ℕ → Status → Type 0
IsWriteRefusal old new out_text report_text WriteFault =
    IsOutFault old new out_text ⊎ IsReportFault old new out_text report_text
IsWriteRefusal old new out_text report_text _ = ⊥

-- the hypergraph that `partition` works on: as the graph spells it and suited to k, with the objective and the fixes that the words ask for
pub record IsAccepted (p : Partitioning) (old new : Inputs) (h : Hyper) : Type 0 where
  pub spelled : Hyper
  pub graph : IsSuited p.k old.graph new.graph spelled
  pub fixed : IsFixed p.fix p.k old.extra new.extra (with_objective p.objective spelled) h

-- the graph is taken, and the fix file that is named isn't
pub record IsFixRefused (p : Partitioning) (old new : Inputs) (status : Status) : Type 0 where
  pub hypergraph : Hyper
  pub graph : IsSuited p.k old.graph new.graph hypergraph
  pub named : (name : List ℕ) × (p.fix ≡ Some name)
  pub cause : IsFixRefusal (vertex_count hypergraph) p.k old.extra new.extra status

-- the graph for k blocks isn't taken, and the extra source isn't called
pub record IsGraphRefused (k : ℕ) (old new : Inputs) (status : Status) : Type 0 where
  pub cause : IsGraphRefusal k old.graph new.graph status
  pub extra : new.extra ≡ old.extra

-- why `partition` refuses what it reads
abbrev pub IsInputRefusal : Partitioning → Inputs → Inputs → Status → Type 0
IsInputRefusal p old new status = IsGraphRefused p.k old new status ⊎ IsFixRefused p old new status

-- what a run of `partition` is asked
abbrev pub job_for : Partitioning → Job
job_for p = record { k = p.k; eps = p.eps; seed = p.seed; workers = p.workers }

abbrev pub limit_for : Partitioning → Hyper → ℕ
limit_for p h = limit (total_weight h) p.k p.eps

-- greedy placement, which passes the limit nowhere
pub record IsPlaced (job : Job) (h : Hyper) (blocks : List ℕ) : Type 0 where
  pub greedy : blocks ≡ greedy h job.k
  pub placed : overfills h job.k (limit_of h job) ≡ None
  pub partition : IsPartition h job.k blocks
  pub obeys : Obeys h blocks
  pub fits : Fits h job.k (limit_of h job) blocks

-- the partition that is written, in whatever mode: one block for each vertex, where it is fixed and within the limit, which no single allowed move
-- makes cheaper, and which is no dearer than greedy placement
pub record IsGoodPartition (job : Job) (h : Hyper) (blocks : List ℕ) : Type 0 where
  pub placed : overfills h job.k (limit_of h job) ≡ None
  pub partition : IsPartition h job.k blocks
  pub obeys : Obeys h blocks
  pub fits : Fits h job.k (limit_of h job) blocks
  pub settled : IsSettled h job.k (limit_of h job) blocks
  pub no_dearer : cost h blocks ≤ cost h (greedy h job.k)

-- how it is reached where refiners of these kinds race: the trace leads to a partition, legally, and so many cycles lead from there on
pub record IsRacedRun (kinds : List Kind) (count : ℕ) (job : Job) (h : Hyper) (trace : Trace) (cycles : List Trace) (blocks : List ℕ) : Type 0 where
  pub reached : List ℕ
  pub legal : IsLegalBy kinds h job trace reached
  pub led : AreCyclesBy kinds h job.k (limit_of h job) job.workers cycles reached blocks
  pub counted : length cycles ≡ count

-- how it is reached in the deterministic mode: it is that of the function, which names no workers; the trace is the mode's, and legal; no cycle follows
pub record IsDeterminedRun (job : Job) (h : Hyper) (trace : Trace) (cycles : List Trace) (blocks : List ℕ) : Type 0 where
  pub function : det h job.k (limit_of h job) job.seed ≡ Some blocks
  pub recorded : IsDetTrace h job.k (limit_of h job) job.seed job.workers trace blocks
  pub legal : IsLegalDet h job trace blocks
  pub uncycled : cycles ≡ []

abbrev pub IsReachedIn : Mode → List Kind → Job → Hyper → Trace → List Trace → List ℕ → Type 0
IsReachedIn (Raced count) kinds job h trace cycles blocks = IsRacedRun kinds count job h trace cycles blocks
IsReachedIn Deterministic kinds job h trace cycles blocks = IsDeterminedRun job h trace cycles blocks

-- what a run in a mode made: such a partition, its exact cost, and the trace and the cycles by which it was reached
pub record IsOutcomeIn (mode : Mode) (kinds : List Kind) (job : Job) (h : Hyper) (outcome : Outcome) : Type 0 where
  pub good : IsGoodPartition job h outcome.blocks
  pub cost : outcome.cost ≡ cost h outcome.blocks
  pub reached : IsReachedIn mode kinds job h outcome.trace outcome.cycles outcome.blocks

-- the rounds of the trace and of all cycles
abbrev pub rounds_in : Outcome → List LoggedRound
rounds_in outcome = outcome.trace.rounds ++ rounds_of_cycles outcome.cycles

-- what refiners of these kinds tally of the rounds of a run: those that race their own ones; in the deterministic mode they aren't called
abbrev pub TalliesIn : Mode → List Kind → List LoggedRound → List Tally → List Tally → Type 0
TalliesIn (Raced count) kinds rounds old new = new ≡ tallies_with rounds kinds old
TalliesIn Deterministic kinds rounds old new = new ≡ old

-- the deterministic mode leaves the tallies alone, however it ends
abbrev pub SparesIn : Mode → List Tally → List Tally → Type 0
SparesIn (Raced count) old new = Unit {0}
SparesIn Deterministic old new = new ≡ old

-- why a hypergraph gets no partition: greedy placement passes the limit at a vertex, numbered from 1, or there was no memory
abbrev pub IsPlaceRefusal : Job → Hyper → Status → Type 0
IsPlaceRefusal job h (Unplaced vertex) = (v : ℕ) × (overfills h job.k (limit_of h job) ≡ Some v) × (vertex ≡ v + 1)
IsPlaceRefusal job h NoMemory = Unit {0}
IsPlaceRefusal job h _ = ⊥

abbrev pub report_for : Job → Hyper → Outcome → List ℕ
report_for job h outcome = report_text h job outcome.trace outcome.cycles outcome.blocks

-- `partition` is done: the partition and the report were written
pub record IsPartitioned (kinds : List Kind) (p : Partitioning) (inputs inputs' : Inputs) (outputs outputs' : Outputs) (outcome : Outcome) : Type 0 where
  pub hypergraph : Hyper
  pub accepted : IsAccepted p inputs inputs' hypergraph
  pub made : IsOutcomeIn p.mode kinds (job_for p) hypergraph outcome
  pub written : IsWritten outputs outputs' (part_text outcome.blocks) (report_for (job_for p) hypergraph outcome)

-- `partition` refuses what it reads, and writes nothing
pub record IsInputRefused (p : Partitioning) (inputs inputs' : Inputs) (outputs outputs' : Outputs) (status : Status) : Type 0 where
  pub cause : IsInputRefusal p inputs inputs' status
  pub unwritten : outputs' ≡ outputs

-- it takes what it reads, finds no partition, and writes nothing
pub record IsPlaceRefused (p : Partitioning) (inputs inputs' : Inputs) (outputs outputs' : Outputs) (status : Status) : Type 0 where
  pub hypergraph : Hyper
  pub accepted : IsAccepted p inputs inputs' hypergraph
  pub cause : IsPlaceRefusal (job_for p) hypergraph status
  pub unwritten : outputs' ≡ outputs

-- it met a fault while it wrote the texts of what it made
pub record IsWriteRefused (kinds : List Kind) (p : Partitioning) (inputs inputs' : Inputs) (outputs outputs' : Outputs) (status : Status) : Type 0 where
  pub hypergraph : Hyper
  pub outcome : Outcome
  pub accepted : IsAccepted p inputs inputs' hypergraph
  pub made : IsOutcomeIn p.mode kinds (job_for p) hypergraph outcome
  pub cause : IsWriteRefusal outputs outputs' (part_text outcome.blocks) (report_for (job_for p) hypergraph outcome) status

-- the stages of `partition`, and at each of them its refusals
abbrev pub IsPartitionRefused : List Kind → Partitioning → Inputs → Inputs → Outputs → Outputs → Status → Type 0
IsPartitionRefused kinds p inputs inputs' outputs outputs' status =
    IsInputRefused p inputs inputs' outputs outputs' status
    ⊎ (IsPlaceRefused p inputs inputs' outputs outputs' status ⊎ IsWriteRefused kinds p inputs inputs' outputs outputs' status)

-- `evaluate` takes the graph and the partition file, and the report got the whole evaluation
pub record IsEvaluated (e : Evaluation) (inputs inputs' : Inputs) (outputs outputs' : Outputs) : Type 0 where
  pub hypergraph : Hyper
  pub blocks : List ℕ
  pub graph : IsSuited e.k inputs.graph inputs'.graph hypergraph
  pub part : Spells inputs.extra inputs'.extra (λ bytes. spelled_part bytes (vertex_count hypergraph) e.k ≡ Ok blocks)
  pub written : IsWritten outputs outputs' [] (evaluation_text (with_objective e.objective hypergraph) e.k e.eps blocks)

-- the graph is taken, and the partition file isn't
pub record IsPartRefused (e : Evaluation) (inputs inputs' : Inputs) (status : Status) : Type 0 where
  pub hypergraph : Hyper
  pub graph : IsSuited e.k inputs.graph inputs'.graph hypergraph
  pub cause : IsPartRefusal (vertex_count hypergraph) e.k inputs.extra inputs'.extra status

-- `evaluate` refuses what it reads, and writes nothing
pub record IsUnread (e : Evaluation) (inputs inputs' : Inputs) (outputs outputs' : Outputs) (status : Status) : Type 0 where
  pub cause : IsGraphRefused e.k inputs inputs' status ⊎ IsPartRefused e inputs inputs' status
  pub unwritten : outputs' ≡ outputs

-- it met a fault while it wrote the evaluation
pub record IsUnreported (e : Evaluation) (inputs inputs' : Inputs) (outputs outputs' : Outputs) (status : Status) : Type 0 where
  pub hypergraph : Hyper
  pub blocks : List ℕ
  pub graph : IsSuited e.k inputs.graph inputs'.graph hypergraph
  pub part : Spells inputs.extra inputs'.extra (λ bytes. spelled_part bytes (vertex_count hypergraph) e.k ≡ Ok blocks)
  pub write_fault : status ≡ WriteFault
  pub cause : IsReportFault outputs outputs' [] (evaluation_text (with_objective e.objective hypergraph) e.k e.eps blocks)

abbrev pub IsEvaluationRefused : Evaluation → Inputs → Inputs → Outputs → Outputs → Status → Type 0
IsEvaluationRefused e inputs inputs' outputs outputs' status =
    IsUnread e inputs inputs' outputs outputs' status ⊎ IsUnreported e inputs inputs' outputs outputs' status

-- `generate` reads nothing, and out got the whole text of the hypergraph
pub record IsGenerated (n : ℕ) (inputs inputs' : Inputs) (outputs outputs' : Outputs) : Type 0 where
  pub unread : inputs' ≡ inputs
  pub written : IsWritten outputs outputs' (hypergraph_text (made n)) []

-- why `generate` wrote no whole text: there was no memory, or out met a fault
abbrev pub IsGenerationRefusal : ℕ → Outputs → Outputs → Status → Type 0
IsGenerationRefusal n outputs outputs' NoMemory = outputs' ≡ outputs
IsGenerationRefusal n outputs outputs' WriteFault = IsOutFault outputs outputs' (hypergraph_text (made n))
IsGenerationRefusal n outputs outputs' _ = ⊥

pub record IsGenerationRefused (n : ℕ) (inputs inputs' : Inputs) (outputs outputs' : Outputs) (status : Status) : Type 0 where
  pub unread : inputs' ≡ inputs
  pub cause : IsGenerationRefusal n outputs outputs' status

-- what `selfrun` asks of its run into k blocks
abbrev pub trial_job : ℕ → Job
trial_job k = record { k = k; eps = 30; seed = 1; workers = 4 }

abbrev pub summary_for : ℕ → ℕ → List ℕ
summary_for n k = summary_text (made n) k (limit_of (made n) (trial_job k))

-- what a run on the made hypergraph reached; the report got the whole summary
pub record IsSummedUp (kinds : List Kind) (n k : ℕ) (outputs outputs' : Outputs) (outcome : Outcome) : Type 0 where
  pub suits : Suits (made n) k
  pub reached : IsOutcomeIn (Raced 0) kinds (trial_job k) (made n) outcome
  pub written : IsWritten outputs outputs' [] (summary_for n k)

-- `selfrun` reads nothing, and comes to that
pub record IsTried (kinds : List Kind) (n k : ℕ) (inputs inputs' : Inputs) (outputs outputs' : Outputs) (outcome : Outcome) : Type 0 where
  pub unread : inputs' ≡ inputs
  pub trial : IsSummedUp kinds n k outputs outputs' outcome

-- why `selfrun` wrote no whole summary: too many counts, no partition, or the report met a fault
abbrev pub IsTrialRefusal : ℕ → ℕ → Outputs → Outputs → Status → Type 0
IsTrialRefusal n k outputs outputs' (TooLarge line Words) =
    (line ≡ 0) × (2 ^ 26 < (vertex_count (made n) + net_count (made n)) * k) × (outputs' ≡ outputs)
IsTrialRefusal n k outputs outputs' (Unplaced vertex) = IsPlaceRefusal (trial_job k) (made n) (Unplaced vertex) × (outputs' ≡ outputs)
IsTrialRefusal n k outputs outputs' NoMemory = outputs' ≡ outputs
IsTrialRefusal n k outputs outputs' WriteFault = IsReportFault outputs outputs' [] (summary_for n k)
IsTrialRefusal n k outputs outputs' _ = ⊥

pub record IsTrialRefused (n k : ℕ) (inputs inputs' : Inputs) (outputs outputs' : Outputs) (status : Status) : Type 0 where
  pub unread : inputs' ≡ inputs
  pub cause : IsTrialRefusal n k outputs outputs' status

-- how each command ends: done, with an outcome where it partitions, or refused
abbrev pub IsPartitionEnd : List Kind → Partitioning → Inputs → Inputs → Outputs → Outputs → Status → Option Outcome → Type 0
IsPartitionEnd kinds p inputs inputs' outputs outputs' Done (Some outcome) = IsPartitioned kinds p inputs inputs' outputs outputs' outcome
IsPartitionEnd kinds p inputs inputs' outputs outputs' status None = IsPartitionRefused kinds p inputs inputs' outputs outputs' status
IsPartitionEnd kinds p inputs inputs' outputs outputs' status (Some outcome) = ⊥

abbrev pub IsEvaluationEnd : Evaluation → Inputs → Inputs → Outputs → Outputs → Status → Option Outcome → Type 0
IsEvaluationEnd e inputs inputs' outputs outputs' Done None = IsEvaluated e inputs inputs' outputs outputs'
IsEvaluationEnd e inputs inputs' outputs outputs' status None = IsEvaluationRefused e inputs inputs' outputs outputs' status
IsEvaluationEnd e inputs inputs' outputs outputs' status (Some outcome) = ⊥

abbrev pub IsGenerationEnd : ℕ → Inputs → Inputs → Outputs → Outputs → Status → Option Outcome → Type 0
IsGenerationEnd n inputs inputs' outputs outputs' Done None = IsGenerated n inputs inputs' outputs outputs'
IsGenerationEnd n inputs inputs' outputs outputs' status None = IsGenerationRefused n inputs inputs' outputs outputs' status
IsGenerationEnd n inputs inputs' outputs outputs' status (Some outcome) = ⊥

abbrev pub IsTrialEnd : List Kind → ℕ → ℕ → Inputs → Inputs → Outputs → Outputs → Status → Option Outcome → Type 0
IsTrialEnd kinds n k inputs inputs' outputs outputs' Done (Some outcome) = IsTried kinds n k inputs inputs' outputs outputs' outcome
IsTrialEnd kinds n k inputs inputs' outputs outputs' status None = IsTrialRefused n k inputs inputs' outputs outputs' status
IsTrialEnd kinds n k inputs inputs' outputs outputs' status (Some outcome) = ⊥

-- words that spell no command are refused, and nothing is read or written
pub record IsUsage (inputs inputs' : Inputs) (outputs outputs' : Outputs) (ended : Ended) : Type 0 where
  pub status : ended.status ≡ Usage
  pub outcome : ended.outcome ≡ None
  pub unread : inputs' ≡ inputs
  pub unwritten : outputs' ≡ outputs

-- how a run of the wanted command, with refiners of these kinds, ends
abbrev pub IsEnd : List Kind → Option Command → Inputs → Inputs → Outputs → Outputs → Ended → Type 0
IsEnd kinds None inputs inputs' outputs outputs' ended = IsUsage inputs inputs' outputs outputs' ended
IsEnd kinds (Some (Partition p)) inputs inputs' outputs outputs' ended =
    IsPartitionEnd kinds p inputs inputs' outputs outputs' ended.status ended.outcome
IsEnd kinds (Some (Evaluate e)) inputs inputs' outputs outputs' ended = IsEvaluationEnd e inputs inputs' outputs outputs' ended.status ended.outcome
IsEnd kinds (Some (Generate n)) inputs inputs' outputs outputs' ended = IsGenerationEnd n inputs inputs' outputs outputs' ended.status ended.outcome
IsEnd kinds (Some (SelfRun n k)) inputs inputs' outputs outputs' ended =
    IsTrialEnd kinds n k inputs inputs' outputs outputs' ended.status ended.outcome

-- the mode of a command: only `partition` is asked for one
abbrev pub mode_of : Option Command → Mode
mode_of (Some (Partition p)) = p.mode
mode_of _ = Raced 0

-- a command that partitions nothing leaves the tallies of the refiners alone, and so does the deterministic mode
abbrev pub Spares : Option Command → List Tally → List Tally → Type 0
Spares (Some (Partition p)) old new = SparesIn p.mode old new
Spares (Some (SelfRun n k)) old new = Unit {0}
Spares _ old new = new ≡ old
