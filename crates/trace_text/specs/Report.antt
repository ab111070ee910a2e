-- The report of a run: what it was asked, its levels, every round, and what was written.
use Rattle.std.specs.Prelude.{◌≡◌, ℕ, suc, ◌-◌, ◌≤◌, List, [], ◌∷◌, ◌++◌, length, slice_get, take, drop, codes, Option, Some, None}
use Rattle.std.specs.List.{flat_map, enumerate_from}
use Rattle.hg_defs.specs.Hypergraph.{Hyper, vertex_count}
use Rattle.hg_defs.specs.Partition.{IsPartition}
use Rattle.hg_defs.specs.Cost.{cost}
use Rattle.hg_defs.specs.LeastLoaded.{greedy}
use Rattle.hg_defs.specs.Levels.{level}
use Rattle.hg_defs.specs.LevelLaws.{AreContractible}
use Rattle.round_log.specs.declared.record.Chosen.{Chosen}
use Rattle.round_log.specs.declared.record.Chosen.TheVariants.{Levels, Greedy}
use Rattle.round_log.specs.declared.record.Job.{Job}
use Rattle.round_log.specs.declared.record.LoggedRound.{LoggedRound}
use Rattle.round_log.specs.declared.record.Trace.{Trace}
use Rattle.round_log.specs.Trace.{limit_of}
use Rattle.trace_text.specs.Carrying.{AreCarried}
use Rattle.trace_text.specs.Fields.{fields_text}
use Rattle.trace_text.specs.Lines.{number_line, sizes_text, objective_text, loads_text, loads_of}
use Rattle.trace_text.specs.Rounds.{refined_text, swept_text}

-- the numbers of a run are within their bounds
pub record IsJob (job : Job) : Type 0 where
  pub some : 2 ≤ job.k
  pub few : job.k ≤ 256
  pub near : job.eps ≤ 100000

-- the clusterings below the first partition lead from the file to the level of that partition
pub record IsPrintable (h : Hyper) (k : ℕ) (trace : Trace) : Type 0 where
  pub start : trace.start ≤ length trace.maps
  pub levels : AreContractible h trace.maps trace.start
  pub first : IsPartition (level h trace.maps trace.start) k trace.first

-- they are the blocks on a level between the file and that of the first partition, which is carried down to it
pub record AreOnLevel (h : Hyper) (trace : Trace) (i : ℕ) (blocks : List ℕ) : Type 0 where
  pub within : i ≤ trace.start
  pub all : length blocks ≡ vertex_count (level h trace.maps i)
  pub each : AreCarried (drop i (take trace.start trace.maps)) trace.first blocks

-- the cost of the first partition, on its level
abbrev pub first_cost : Hyper → Trace → ℕ
first_cost h trace = cost (level h trace.maps trace.start) trace.first

abbrev pub chosen_text : Chosen → List ℕ
chosen_text Levels = codes "chosen levels\n"
chosen_text Greedy = codes "chosen greedy\n"

-- the descent from the start level to the file
abbrev pub descent_text : Hyper → Trace → List ℕ
descent_text h trace =
    number_line (codes "levels ") (suc (length trace.maps))
    ++ number_line (codes "start ") trace.start
    ++ number_line (codes "first ") (first_cost h trace)
    ++ refined_text trace.rounds
    ++ chosen_text trace.chosen
    ++ swept_text trace.rounds

-- the cost after the last round, or where there is none the first cost
abbrev pub cost_after : ℕ → Option LoggedRound → ℕ
cost_after first None = first
cost_after first (Some r) = r.after

abbrev pub last_cost : ℕ → List LoggedRound → ℕ
last_cost first rounds = cost_after first (slice_get rounds (length rounds - 1))

-- a cycle and its number, from 1
abbrev pub cycle_text : Hyper → ℕ × Trace → List ℕ
cycle_text h cycle =
    fields_text (
    (codes "cycle ", cycle.0)
    ∷ (codes " levels ", suc (length cycle.1.maps))
    ∷ (codes " before ", first_cost h cycle.1)
    ∷ (codes " after ", last_cost (first_cost h cycle.1) cycle.1.rounds)
    ∷ []
    )
    ++ codes "\n"
    ++ refined_text cycle.1.rounds
    ++ swept_text cycle.1.rounds

abbrev pub cycles_text : Hyper → List Trace → List ℕ
cycles_text h cycles = flat_map (cycle_text h) (enumerate_from 1 cycles)

-- what the run was asked, and the cost of greedy placement
abbrev pub asked_text : Hyper → Job → List ℕ
asked_text h job =
    sizes_text h job.k (limit_of h job)
    ++ number_line (codes "seed ") job.seed
    ++ number_line (codes "workers ") job.workers
    ++ objective_text h.objective
    ++ number_line (codes "greedy ") (cost h (greedy h job.k))

-- a run that wrote the partition p
abbrev pub report_text : Hyper → Job → Trace → List Trace → List ℕ → List ℕ
report_text h job trace cycles p =
    asked_text h job
    ++ descent_text h trace
    ++ cycles_text h cycles
    ++ number_line (codes "cost ") (cost h p)
    ++ loads_text (loads_of h job.k p)
