-- What a call that reads may answer and leave, where memory may run out.
use Rattle.std.specs.Prelude.{◌≡◌, ◌⊎◌, Result, Ok, Err}
use Rattle.hmetis_read.specs.Graph.{Read}
use Rattle.hmetis_read.specs.declared.fault.GraphFault.{GraphFault}
use Rattle.hmetis_read.specs.declared.fault.GraphFault.TheVariants.{NoMemory}

-- the value on Ok is what was to be read; so is the fault, but for want of memory
abbrev pub Reads : {T A : Type 0} → Result T GraphFault → A → Read A → Type 0
Reads (Ok x) value read = read ≡ Ok value
Reads (Err fault) value read = (fault ≡ NoMemory) ⊎ (read ≡ Err fault)

-- the answer is what was to be read, but for want of memory
abbrev pub Answers : {A : Type 0} → Result A GraphFault → Read A → Type 0
Answers (Ok value) read = read ≡ Ok value
Answers (Err fault) read = (fault ≡ NoMemory) ⊎ (read ≡ Err fault)
