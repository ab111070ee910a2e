-- Where a command reads and writes.
use Rattle.std.specs.Prelude.{ℕ, List, ◌++◌, Option, Some, None, codes, bytes_eq, decimal, if◌then◌else◌}
use Rattle.hg_io.specs.declared.place.Place.{Place}
use Rattle.hg_io.specs.declared.place.Place.TheVariants.{Nothing, Input, Output, Errors, File}
use Rattle.part_run.specs.declared.places.Names.{Names}
use Rattle.part_run.specs.Wanted.{Command, Partition, Evaluate, Generate, SelfRun, Partitioning, Evaluation}

-- a name stands for a file, and a dash for a standard stream
abbrev pub place_of : List ℕ → Place → Place
place_of name stream = if bytes_eq name (codes "-") then stream else File name

-- the file of a name, where there is one
abbrev pub file_of : Option (List ℕ) → Place
file_of None = Nothing
file_of (Some name) = File name

-- the name of the partition's file where none is given
abbrev pub part_name : List ℕ → ℕ → List ℕ
part_name graph k = graph ++ codes ".part." ++ decimal k

-- the partition goes to the place that is named, and else to standard output where the graph comes from standard input, or to a file named after the graph
abbrev pub out_of : Partitioning → Place
out_of p = out p.out where
  out : Option (List ℕ) → Place
  out (Some name) = place_of name Output
  out None = if bytes_eq p.graph (codes "-") then Output else File (part_name p.graph p.k)

-- the report goes to standard output, unless the partition does
abbrev pub report_beside : Place → Place
report_beside Output = Errors
report_beside _ = Output

abbrev pub partition_names : Partitioning → Names
partition_names p = record {
  graph = place_of p.graph Input;
  extra = file_of p.fix;
  out = out_of p;
  report = report_beside (out_of p);
}

abbrev pub evaluation_names : Evaluation → Names
evaluation_names e = record { graph = place_of e.graph Input; extra = File e.part; out = Nothing; report = Output }

abbrev pub names_of : Option Command → Names
names_of None = record { graph = Nothing; extra = Nothing; out = Nothing; report = Nothing }
names_of (Some (Partition p)) = partition_names p
names_of (Some (Evaluate e)) = evaluation_names e
names_of (Some (Generate n)) = record { graph = Nothing; extra = Nothing; out = Output; report = Nothing }
names_of (Some (SelfRun n k)) = record { graph = Nothing; extra = Nothing; out = Nothing; report = Output }
