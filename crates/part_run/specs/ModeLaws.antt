-- What runs of the deterministic mode write.
use Rattle.std.specs.Prelude.{◌≡◌, ℕ, List, Some}
use Rattle.std.specs.Io.KnownBytes.{Appends}
use Rattle.hg_defs.specs.Hypergraph.{Hyper}
use Rattle.round_log.specs.declared.record.Kind.{Kind}
use Rattle.round_log.specs.Deterministic.{det}
use Rattle.part_text.specs.Part.{part_text}
use Rattle.part_run.specs.declared.ended.Outcome.{Outcome}
use Rattle.part_run.specs.declared.words.Mode.TheVariants.{Deterministic}
use Rattle.part_run.specs.Wanted.{Partitioning}
use Rattle.part_run.specs.Answers.{Inputs, Outputs, IsPartitioned, limit_for}

-- out got the text of the mode's function
pub record WritesFunction (p : Partitioning) (h : Hyper) (outputs outputs' : Outputs) : Type 0 where
  pub blocks : List ℕ
  pub function : det h p.k (limit_for p h) p.seed ≡ Some blocks
  pub written : Appends outputs.out.bytes outputs'.out.bytes (part_text blocks)

-- ---- the laws

-- a run of the mode that is done wrote it
abbrev pub DeterministicRunsWriteFunction : Type 0
DeterministicRunsWriteFunction =
    (kinds : List Kind) (p : Partitioning) (inputs inputs' : Inputs) (outputs outputs' : Outputs) (outcome : Outcome) → p.mode ≡ Deterministic
    → (done : IsPartitioned kinds p inputs inputs' outputs outputs' outcome) → WritesFunction p done.hypergraph outputs outputs'

-- two such runs over the same bytes, whose words differ in the number of workers alone, write the same text to out, whatever their refiners
abbrev pub WorkersChangeNoByte : Type 0
WorkersChangeNoByte =
    (kinds others : List Kind) (p : Partitioning) (workers : ℕ) (inputs inputs' inputs'' : Inputs) (outputs outputs' outputs'' : Outputs)
    (one other : Outcome) (graph extra : List ℕ) → p.mode ≡ Deterministic → inputs.graph.bytes ≡ Some graph → inputs.extra.bytes ≡ Some extra
    → IsPartitioned kinds p inputs inputs' outputs outputs' one
    → IsPartitioned others (record p { workers = workers }) inputs inputs'' outputs outputs'' other
    → part_text one.blocks ≡ part_text other.blocks
