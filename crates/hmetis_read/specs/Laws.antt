-- Laws of what a text spells.
use Rattle.std.specs.Prelude.{◌≡◌, ◌⊎◌, ℕ, ◌+◌, ◌<◌, List, [], ◌∷◌, length, take, slice_index_or, Ok, Err}
use Rattle.hg_defs.specs.Hypergraph.{Hyper, net_count, vertex_count}
use Rattle.hg_text.specs.Kept.{Line, Reading}
use Rattle.hmetis_read.specs.Graph.{Read, graph_in}
use Rattle.hmetis_read.specs.declared.fault.GraphFault.{GraphFault}
use Rattle.hmetis_read.specs.declared.fault.GraphFault.TheVariants.{Bad, TooLarge, NoMemory}
use Rattle.hmetis_read.specs.declared.fault.LineKind.TheVariants.{NoHeader, MissingLine}

-- one of the lines has this number
abbrev pub IsNumbered : ℕ → List Line → Type 0
IsNumbered number [] = ⊥
IsNumbered number (line ∷ lines) = (number ≡ line.number) ⊎ IsNumbered number lines

-- a fault of a text stands at a kept line, or behind the last line; want of memory is none
abbrev pub IsFaultOf : Reading → GraphFault → Type 0
IsFaultOf text (Bad line kind) = (line ≡ text.count + 1) ⊎ IsNumbered line text.kept
IsFaultOf text (TooLarge line what) = IsNumbered line text.kept
IsFaultOf text NoMemory = ⊥

-- a value, or a fault of the text
abbrev pub IsAtPlace : {A : Type 0} → Reading → Read A → Type 0
IsAtPlace text (Ok value) = Unit {0}
IsAtPlace text (Err fault) = IsFaultOf text fault

-- the kept lines are the header, one for each net, and one for each vertex or none
abbrev pub HasLines : Reading → Hyper → Type 0
HasLines text h =
    (length text.kept ≡ 1 + net_count h) ⊎ (length text.kept ≡ 1 + net_count h + vertex_count h)

-- what stands where no line is
abbrev pub no_line : Line
no_line = record { number = 0; fields = [] }

-- a text that is cut off before the kept line at a place; its lines are counted as before
abbrev pub cut_off : ℕ → Reading → Reading
cut_off n text = record text { kept = take n text.kept }

-- a fault of the kept line at a place; behind them all, of a line that isn't there
abbrev pub IsFaultAt : Reading → ℕ → GraphFault → Type 0
IsFaultAt text n (Bad line kind) = ((n < length text.kept) × (line ≡ (slice_index_or text.kept n no_line).number)) ⊎
    ((n ≡ length text.kept) × (line ≡ text.count + 1))
IsFaultAt text n (TooLarge line what) = (n < length text.kept) × (line ≡ (slice_index_or text.kept n no_line).number)
IsFaultAt text n NoMemory = ⊥

-- no line of the text has a fault, though lines may be missing at its end
abbrev pub HasNoFault : {A : Type 0} → Reading → Read A → Type 0
HasNoFault text (Ok value) = Unit {0}
HasNoFault text (Err (Bad line kind)) = (line ≡ text.count + 1) × ((kind ≡ NoHeader) ⊎ (kind ≡ MissingLine))
HasNoFault text (Err (TooLarge line what)) = ⊥
HasNoFault text (Err NoMemory) = ⊥

-- the fault is the first one: it is that of a line before which no line has a fault
pub record IsFirstFault (text : Reading) (fault : GraphFault) : Type 0 where
  pub place : ℕ
  pub at : IsFaultAt text place fault
  pub first : HasNoFault text (graph_in (cut_off place text))
