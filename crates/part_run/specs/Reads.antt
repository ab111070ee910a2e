-- What was read: the bytes that a source gave, what they spell, and why a source gives nothing that can be used.
use Rattle.std.specs.Prelude.{◌≡◌, ℕ, ◌+◌, ◌*◌, ◌^◌, ◌<◌, ◌≤◌, List, length, Option, Some, None, Ok, Err, ◌⊎◌}
use Rattle.std.specs.Io.KnownBytes.{Consumes, IsAtEnd}
use Rattle.hg_defs.specs.declared.objective.Objective.{Objective}
use Rattle.hg_defs.specs.Hypergraph.{Hyper, vertex_count, net_count, Suits}
use Rattle.hg_io.specs.Faults.{Rose}
use Rattle.hg_io.specs.Transfers.{ConsumesMoreThan, ConsumesAtMost}
use Rattle.hmetis_read.specs.declared.fault.GraphFault.TheVariants as graph_fault
use Rattle.hmetis_read.specs.declared.fault.What.{What}
use Rattle.hmetis_read.specs.declared.fault.What.TheVariants as what
use Rattle.hmetis_read.specs.Graph.{graph}
use Rattle.part_text.specs.Entries.{spelled_part, spelled_fixes}
use Rattle.part_run.specs.declared.status.Status.{Status}
use Rattle.part_run.specs.declared.status.Status.TheVariants.{Malformed, TooLarge, ReadFault, NoMemory, BadPartition, BadFix}

-- a source at one moment: the bytes that it has left, where they are known, and its count of faults
pub record Feed : Type 0 where
  pub bytes : Option (List ℕ)
  pub faults : ℕ

abbrev pub feed_of : Option (List ℕ) → ℕ → Feed
feed_of bytes faults = record { bytes = bytes; faults = faults }

-- the most bytes that a source may give
abbrev pub most_bytes : ℕ
most_bytes = 2 ^ 29

-- the source was read to its end without a fault, and gave these bytes
pub record WasRead (old new : Feed) (bytes : List ℕ) : Type 0 where
  pub consumed : Consumes old.bytes new.bytes bytes
  pub end : IsAtEnd new.bytes
  pub within : length bytes ≤ most_bytes
  pub faultless : new.faults ≡ old.faults

-- the source was read so, and spells what `spells` says of its bytes
pub record Spells (old new : Feed) (spells : List ℕ → Type 0) : Type 0 where
  pub bytes : List ℕ
  pub read : WasRead old new bytes
  pub spelled : spells bytes

-- it gave too many bytes, without a fault
pub record GivesTooMuch (old new : Feed) : Type 0 where
  pub bytes : ConsumesMoreThan old.bytes new.bytes most_bytes
  pub faultless : new.faults ≡ old.faults

-- it met a fault before its end, and before too many bytes
pub record IsBroken (old new : Feed) : Type 0 where
  pub fault : Rose old.faults new.faults
  pub bytes : ConsumesAtMost old.bytes new.bytes most_bytes

-- why a source isn't read to its end; `what` is what it gave too much of
abbrev pub IsReadRefusal : What → Feed → Feed → Status → Type 0
IsReadRefusal what old new (TooLarge line other) = (line ≡ 0) × (other ≡ what) × GivesTooMuch old new
IsReadRefusal what old new ReadFault = IsBroken old new
IsReadRefusal what old new NoMemory = Unit {0}
IsReadRefusal what old new _ = ⊥

-- the graph's source spells the hypergraph, and its pin counts of k blocks are not too many
pub record IsSuited (k : ℕ) (old new : Feed) (h : Hyper) : Type 0 where
  pub graph : Spells old new (λ bytes. graph bytes ≡ Ok h)
  pub suits : Suits h k

-- it spells a hypergraph whose pin counts of k blocks are too many
pub record IsTooMany (k : ℕ) (old new : Feed) : Type 0 where
  pub hypergraph : Hyper
  pub graph : Spells old new (λ bytes. graph bytes ≡ Ok hypergraph)
  pub many : 2 ^ 26 < (vertex_count hypergraph + net_count hypergraph) * k

-- the source gave too many bytes, or a hypergraph with too many counts; these stand in no line
abbrev pub PassesLimit : ℕ → Feed → Feed → ℕ → What → Type 0
PassesLimit k old new line what.Bytes = (line ≡ 0) × GivesTooMuch old new
PassesLimit k old new line what.Words = (line ≡ 0) × IsTooMany k old new
PassesLimit k old new line _ = ⊥

-- why a graph for k blocks is refused
abbrev pub IsGraphRefusal : ℕ → Feed → Feed → Status → Type 0
IsGraphRefusal k old new (Malformed line kind) = Spells old new (λ bytes. graph bytes ≡ Err (graph_fault.Bad line kind))
IsGraphRefusal k old new (TooLarge line what) =
    PassesLimit k old new line what ⊎ Spells old new (λ bytes. graph bytes ≡ Err (graph_fault.TooLarge line what))
IsGraphRefusal k old new ReadFault = IsBroken old new
IsGraphRefusal k old new NoMemory = Unit {0}
IsGraphRefusal k old new _ = ⊥

-- an extra source gave too many bytes
abbrev pub IsExtraTooLarge : Feed → Feed → ℕ → What → Type 0
IsExtraTooLarge old new line what.ExtraBytes = (line ≡ 0) × GivesTooMuch old new
IsExtraTooLarge old new line _ = ⊥

-- why a fix file for n vertices and k blocks is refused
abbrev pub IsFixRefusal : ℕ → ℕ → Feed → Feed → Status → Type 0
IsFixRefusal n k old new (BadFix line kind) =
    Spells old new (λ bytes. spelled_fixes bytes n k ≡ Err (record { line = line; kind = kind }))
IsFixRefusal n k old new (TooLarge line what) = IsExtraTooLarge old new line what
IsFixRefusal n k old new ReadFault = IsBroken old new
IsFixRefusal n k old new NoMemory = Unit {0}
IsFixRefusal n k old new _ = ⊥

-- why a partition file of n vertices into k blocks is refused
abbrev pub IsPartRefusal : ℕ → ℕ → Feed → Feed → Status → Type 0
IsPartRefusal n k old new (BadPartition line kind) =
    Spells old new (λ bytes. spelled_part bytes n k ≡ Err (record { line = line; kind = kind }))
IsPartRefusal n k old new (TooLarge line what) = IsExtraTooLarge old new line what
IsPartRefusal n k old new ReadFault = IsBroken old new
IsPartRefusal n k old new NoMemory = Unit {0}
IsPartRefusal n k old new _ = ⊥

abbrev pub with_objective : Objective → Hyper → Hyper
with_objective o h = record h { objective = o }

-- the hypergraph with the fixes that the extra source spells
pub record IsFixedBy (k : ℕ) (old new : Feed) (h fixed : Hyper) : Type 0 where
  pub fixes : Spells old new (λ bytes. spelled_fixes bytes (vertex_count h) k ≡ Ok fixed.fixes)
  pub others : fixed ≡ record h { fixes = fixed.fixes }

-- the same where a fix file is named; else nothing is fixed, and the extra source isn't called
abbrev pub IsFixed : Option (List ℕ) → ℕ → Feed → Feed → Hyper → Hyper → Type 0
IsFixed None k old new h fixed = (fixed ≡ h) × (new ≡ old)
IsFixed (Some name) k old new h fixed = IsFixedBy k old new h fixed
