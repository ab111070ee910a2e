-- What the parsed words stand for, behind their references.
use Rattle.std.specs.Prelude.{◌^◌, ◌≤◌, option_copied}
use Rattle.part_run.specs.declared.words.Settings as settings
use Rattle.part_run.specs.declared.words.Partitioning as partitioning
use Rattle.part_run.specs.declared.words.Evaluation as evaluation
use Rattle.part_run.specs.declared.words.Command as command
use Rattle.part_run.specs.declared.words.Command.TheVariants as variants
use Rattle.part_run.specs.declared.words.Mode.{Mode}
use Rattle.part_run.specs.declared.words.Mode.TheVariants.{Raced, Deterministic}
use Rattle.part_run.specs.Wanted.{Settings, Partitioning, Evaluation, Command}
use Rattle.part_run.specs.Wanted as wanted

abbrev pub settings_of : settings.Settings → Settings
settings_of s = record {
  seed = s.seed;
  workers = s.workers;
  out = option_copied s.out;
  cost = s.cost;
  fix = option_copied s.fix;
  mode = s.mode;
}

abbrev pub partitioning_of : partitioning.Partitioning → Partitioning
partitioning_of p = record {
  graph = p.graph.now;
  k = p.balance.k;
  eps = p.balance.eps;
  seed = p.seed;
  workers = p.workers.count;
  out = option_copied p.out;
  objective = p.objective;
  fix = option_copied p.fix;
  mode = p.mode;
}

abbrev pub evaluation_of : evaluation.Evaluation → Evaluation
evaluation_of e = record { graph = e.graph.now; part = e.part.now; k = e.balance.k; eps = e.balance.eps; objective = e.objective }

abbrev pub command_of : command.Command → Command
command_of (variants.Partition p) = wanted.Partition (partitioning_of p)
command_of (variants.Evaluate e) = wanted.Evaluate (evaluation_of e)
command_of (variants.Generate n) = wanted.Generate n
command_of (variants.SelfRun t) = wanted.SelfRun t.vertices t.k

-- eight cycles at most
abbrev pub HasFewCycles : Mode → Type 0
HasFewCycles (Raced cycles) = cycles ≤ 8
HasFewCycles Deterministic = Unit {0}

-- the number of cycles and the size of a hypergraph that are asked for are in their ranges
abbrev pub IsWithinBounds : command.Command → Type 0
IsWithinBounds (variants.Partition p) = HasFewCycles p.mode
IsWithinBounds (variants.Evaluate e) = Unit {0}
IsWithinBounds (variants.Generate n) = (1 ≤ n) × (n ≤ 2 ^ 22)
IsWithinBounds (variants.SelfRun t) = Unit {0}
