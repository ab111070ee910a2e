-- What a hypergraph file spells: a hypergraph, or the first fault.
use Rattle.std.specs.Prelude.{ℕ, ◌+◌, ◌-◌, ◌^◌, Bool, ◌==◌, ◌&&◌, ◌||◌, nat_lt, nat_le, if◌then◌else◌, List, [], ◌∷◌, length}
use Rattle.std.specs.Prelude.{slice_index, slice_index_or, take, drop, map, replicate, Result, Ok, Err}
use Rattle.std.specs.List.{enumerate_from}
use Rattle.std.specs.Ordering.{nat_cmp}
use Rattle.hg_defs.specs.declared.objective.TheConstants.{FREE}
use Rattle.hg_defs.specs.declared.objective.Objective.TheVariants.{Connectivity}
use Rattle.hg_defs.specs.Hypergraph.{Net, Hyper}
use Rattle.hg_defs.specs.Sorting.{set_of}
use Rattle.hg_text.specs.Kept.{Line, Reading, reading, number_of}
use Rattle.hg_text.specs.declared.numeral.BadNumber.{BadNumber}
use Rattle.hg_text.specs.declared.numeral.BadNumber.TheVariants.{NotDigits, TooBig}
use Rattle.hmetis_read.specs.declared.fault.GraphFault.{GraphFault}
use Rattle.hmetis_read.specs.declared.fault.GraphFault.TheVariants.{Bad, TooLarge}
use Rattle.hmetis_read.specs.declared.fault.LineKind.TheVariants.{NoHeader, HeaderCount, NotNumber, BadFormat, MissingLine}
use Rattle.hmetis_read.specs.declared.fault.LineKind.TheVariants.{ExtraLine, PinRange, WeightRange, FieldCount}
use Rattle.hmetis_read.specs.declared.header.Shape.{Shape}
use Rattle.hmetis_read.specs.declared.fault.What.TheVariants.{Nets, Vertices, Pins}

-- a value, or the first fault before it
abbrev pub Read : Type 0 → Type 0
Read A = Result A GraphFault

infixl 10 ◌>>=◌
abbrev pub ◌>>=◌ : {A B : Type 0} → Read A → (A → Read B) → Read B
(Ok x) >>= f = f x
(Err e) >>= f = Err e

-- all of a list is read from the left
abbrev pub each : {A B : Type 0} → (A → Read B) → List A → Read (List B)
each f [] = Ok []
each f (x ∷ xs) = do
  y ← f x
  ys ← each f xs
  Ok (y ∷ ys)

-- the value, where it passes; else the fault
abbrev pub guarded : {A : Type 0} → Bool → GraphFault → A → Read A
guarded test fault value = if test then Ok value else Err fault

-- a number in a line. One of 2^64 or more lies outside each range, as 2^64 - 1 does
abbrev pub value_in : ℕ → Result ℕ BadNumber → Read ℕ
value_in line (Ok value) = Ok value
value_in line (Err TooBig) = Ok (2 ^ 64 - 1)
value_in line (Err NotDigits) = Err (Bad line NotNumber)

-- a weight is below 2^32
abbrev pub weight_in : ℕ → Result ℕ BadNumber → Read ℕ
weight_in line number = do
  weight ← value_in line number
  guarded (nat_lt weight (2 ^ 32)) (Bad line WeightRange) weight

-- a pin is a vertex, of which the first is spelt 1. It comes with the count of pins before it
abbrev pub pin_in : ℕ → ℕ → ℕ × Result ℕ BadNumber → Read ℕ
pin_in vertices line pin = do
  before ← guarded (nat_lt pin.0 (2 ^ 25)) (TooLarge line Pins) pin.0
  value ← value_in line pin.1
  guarded (nat_le 1 value && nat_le value vertices) (Bad line PinRange) (value - 1)

-- a header has a number of nets, a number of vertices, and a format, which is 0 where it is absent
abbrev pub shape_in : ℕ → ℕ → ℕ → ℕ → Read Shape
shape_in line nets vertices format = do
  known ← guarded (format == 0 || format == 1 || format == 10 || format == 11) (Bad line BadFormat) format
  few ← guarded (nat_le nets (2 ^ 22)) (TooLarge line Nets) nets
  guarded (nat_le vertices (2 ^ 22)) (TooLarge line Vertices) (record {
    nets = nets;
    vertices = vertices;
    net_weights = format == 1 || format == 11;
    vertex_weights = format == 10 || format == 11;
  })

abbrev pub header_in : Line → Read Shape
header_in line = do
  fields ← guarded (length line.fields == 2 || length line.fields == 3) (Bad line.number HeaderCount) line.fields
  values ← each (value_in line.number) (map number_of fields)
  shape_in line.number (slice_index values 0) (slice_index values 1) (slice_index values 2)

-- the first field of a line, as a number
abbrev pub first_number : Line → Result ℕ BadNumber
first_number line = number_of (slice_index_or line.fields 0 [])

-- a net's line has its weight, where nets are weighted, and its pins
abbrev pub net_weight_in : Shape → Line → Read ℕ
net_weight_in shape line = if shape.net_weights then weight_in line.number (first_number line) else Ok 1

abbrev pub pin_numbers : Shape → Line → List (Result ℕ BadNumber)
pin_numbers shape line = map number_of (if shape.net_weights then drop 1 line.fields else line.fields)

-- a net that comes with the count of pins before it. A pin that is repeated counts once in the net
abbrev pub net_in : Shape → ℕ × Line → Read Net
net_in shape net = do
  weight ← net_weight_in shape net.1
  pins ← each (pin_in shape.vertices net.1.number) (enumerate_from net.0 (pin_numbers shape net.1))
  Ok (record { weight = weight; pins = set_of nat_cmp pins })

-- lines of nets, each with the count of pins before it
abbrev pub with_pins_before : Shape → ℕ → List Line → List (ℕ × Line)
with_pins_before shape before [] = []
with_pins_before shape before (line ∷ lines) =
    (before, line) ∷ with_pins_before shape (before + length (pin_numbers shape line)) lines

abbrev pub nets_in : Shape → List Line → Read (List Net)
nets_in shape lines = each (net_in shape) (with_pins_before shape 0 lines)

-- a vertex's line has its weight alone
abbrev pub vertex_in : Line → Read ℕ
vertex_in line = do
  fields ← guarded (length line.fields == 1) (Bad line.number FieldCount) line.fields
  weight_in line.number (first_number line)

-- the first lines of a text, which are so many
abbrev pub first_in : {A : Type 0} → ℕ → (List Line → Read A) → Reading → Read A
first_in count read text = do
  values ← read (take count text.kept)
  guarded (nat_le count (length text.kept)) (Bad (text.count + 1) MissingLine) values

-- the text behind its first lines
abbrev pub read_on : ℕ → Reading → Reading
read_on count text = record text { kept = drop count text.kept }

-- how many lines have vertices' weights; where they aren't given, all are 1
abbrev pub vertex_lines : Shape → ℕ
vertex_lines shape = if shape.vertex_weights then shape.vertices else 0

abbrev pub weights_in : Shape → Reading → Read (List ℕ)
weights_in shape text =
    if shape.vertex_weights then first_in shape.vertices (each vertex_in) text else Ok (replicate shape.vertices 1)

-- nothing follows
abbrev pub ended : {A : Type 0} → List Line → A → Read A
ended [] value = Ok value
ended (line ∷ lines) value = Err (Bad line.number ExtraLine)

-- the nets, the vertices' weights, and nothing more
abbrev pub body_in : Shape → Reading → Read Hyper
body_in shape text = do
  nets ← first_in shape.nets (nets_in shape) text
  weights ← weights_in shape (read_on shape.nets text)
  ended (read_on (vertex_lines shape) (read_on shape.nets text)).kept (record {
    weights = weights;
    nets = nets;
    objective = Connectivity;
    fixes = replicate shape.vertices FREE;
  })

-- the first line, which is the header
abbrev pub first_line : ℕ → List Line → Read Line
first_line count [] = Err (Bad (count + 1) NoHeader)
first_line count (line ∷ lines) = Ok line

abbrev pub shape_of : Reading → Read Shape
shape_of text = first_line text.count text.kept >>= header_in

-- what a text spells, and what the bytes of a file spell
abbrev pub graph_in : Reading → Read Hyper
graph_in text = do
  shape ← shape_of text
  body_in shape (read_on 1 text)

abbrev pub graph : List ℕ → Read Hyper
graph bytes = graph_in (reading bytes)
