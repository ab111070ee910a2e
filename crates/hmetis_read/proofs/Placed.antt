-- A fault of a text stands at one of its kept lines, or behind its last line.
use Rattle.std.proofs.Common.{if◌then◌else◌, ℕ, zero, suc, ◌+◌, ◌-◌, ◌^◌, Bool, true, false, ◌==◌, ◌||◌, nat_lt, nat_le, List, []}
use Rattle.std.proofs.Common.{◌∷◌, length, take, drop, map, replicate, Result, Ok, Err, refl, inl, inr}
use Rattle.std.specs.List.{enumerate_from, slice_index}
use Rattle.hg_text.specs.Kept.{Line, Reading, reading, number_of}
use Rattle.hg_text.specs.declared.numeral.BadNumber.{BadNumber}
use Rattle.hg_text.specs.declared.numeral.BadNumber.TheVariants.{NotDigits, TooBig}
use Rattle.hmetis_read.specs.Graph.{Read, ◌>>=◌, each, guarded, value_in, weight_in, pin_in, shape_in, header_in, first_number}
use Rattle.hmetis_read.specs.Graph.{net_weight_in, pin_numbers, net_in, nets_in, with_pins_before, vertex_in, first_in, read_on}
use Rattle.hmetis_read.specs.Graph.{vertex_lines, weights_in, ended, body_in, first_line, shape_of, graph}
use Rattle.hmetis_read.specs.Laws.{IsNumbered, IsFaultOf, IsAtPlace}
use Rattle.hmetis_read.specs.declared.fault.GraphFault.{GraphFault}
use Rattle.hmetis_read.specs.declared.fault.GraphFault.TheVariants.{Bad, TooLarge}
use Rattle.hmetis_read.specs.declared.fault.LineKind.{LineKind}
use Rattle.hmetis_read.specs.declared.fault.LineKind.TheVariants.{NoHeader, HeaderCount, NotNumber, BadFormat, MissingLine}
use Rattle.hmetis_read.specs.declared.fault.LineKind.TheVariants.{ExtraLine, PinRange, WeightRange, FieldCount}
use Rattle.hmetis_read.specs.declared.fault.What.{What}
use Rattle.hmetis_read.specs.declared.fault.What.TheVariants.{Nets, Vertices, Pins}
use Rattle.hmetis_read.specs.declared.header.Shape.{Shape}

-- P holds of each fault at a line of this number
pub record FaultsAt (P : GraphFault → Type 0) (line : ℕ) : Type 0 where
  pub bad : (kind : LineKind) → P (Bad line kind)
  pub large : (what : What) → P (TooLarge line what)

abbrev FaultsAtEach : (GraphFault → Type 0) → List Line → Type 0
FaultsAtEach P [] = Unit {0}
FaultsAtEach P (line ∷ lines) = FaultsAt P line.number × FaultsAtEach P lines

-- a value, or a fault of which P holds
abbrev pub Holds : {A : Type 0} → (GraphFault → Type 0) → Read A → Type 0
Holds P (Ok value) = Unit {0}
Holds P (Err fault) = P fault

module _ (P : GraphFault → Type 0) where
  bind_holds : {A B : Type 0} (r : Read A) (f : A → Read B) → Holds P r → ((x : A) → Holds P (f x)) → Holds P (r >>= f)
  bind_holds (Ok x) f h k = k x
  bind_holds (Err fault) f h k = h

  guarded_holds : {A : Type 0} (test : Bool) (fault : GraphFault) (value : A) → P fault → Holds P (guarded test fault value)
  guarded_holds true fault value h = tt
  guarded_holds false fault value h = h

  choice_holds : {A : Type 0} (b : Bool) (x y : Read A) → Holds P x → Holds P y → Holds P (if b then x else y)
  choice_holds true x y h k = h
  choice_holds false x y h k = k

  each_holds : {A B : Type 0} (f : A → Read B) → ((x : A) → Holds P (f x)) → (xs : List A) → Holds P (each f xs)
  each_holds f h [] = tt
  each_holds f h (x ∷ xs) =
      bind_holds (f x) (λ y. each f xs >>= λ ys. Ok (y ∷ ys)) (h x)
      (λ y. bind_holds (each f xs) (λ ys. Ok (y ∷ ys)) (each_holds f h xs) (λ ys. tt))

  value_holds : (line : ℕ) (number : Result ℕ BadNumber) → FaultsAt P line → Holds P (value_in line number)
  value_holds line (Ok value) at = tt
  value_holds line (Err TooBig) at = tt
  value_holds line (Err NotDigits) at = at.bad NotNumber

  weight_holds : (line : ℕ) (number : Result ℕ BadNumber) → FaultsAt P line → Holds P (weight_in line number)
  weight_holds line number at =
      bind_holds (value_in line number) _ (value_holds line number at) (λ w. guarded_holds _ (Bad line WeightRange) w (at.bad WeightRange))

  pin_holds : (vertices line : ℕ) (pin : ℕ × Result ℕ BadNumber) → FaultsAt P line → Holds P (pin_in vertices line pin)
  pin_holds vertices line pin at =
      bind_holds (guarded (nat_lt pin.0 (2 ^ 25)) (TooLarge line Pins) pin.0) _ (guarded_holds _ (TooLarge line Pins) pin.0 (at.large Pins))
      (λ before. bind_holds (value_in line pin.1) _ (value_holds line pin.1 at) (λ v. guarded_holds _ (Bad line PinRange) (v - 1) (at.bad PinRange)))

  shape_holds : (line nets vertices format : ℕ) → FaultsAt P line → Holds P (shape_in line nets vertices format)
  shape_holds line nets vertices format at =
      bind_holds (guarded (format == 0 || format == 1 || format == 10 || format == 11) (Bad line BadFormat) format) _
      (guarded_holds _ (Bad line BadFormat) format (at.bad BadFormat))
      (λ known. bind_holds (guarded (nat_le nets (2 ^ 22)) (TooLarge line Nets) nets) _ (guarded_holds _ (TooLarge line Nets) nets (at.large Nets))
      (λ few. guarded_holds _ (TooLarge line Vertices) _ (at.large Vertices)))

  pub header_holds : (line : Line) → FaultsAt P line.number → Holds P (header_in line)
  header_holds line at =
      bind_holds (guarded (length line.fields == 2 || length line.fields == 3) (Bad line.number HeaderCount) line.fields) _
      (guarded_holds _ (Bad line.number HeaderCount) line.fields (at.bad HeaderCount))
      (λ fields. bind_holds (each (value_in line.number) (map number_of fields)) _
      (each_holds (value_in line.number) (λ number. value_holds line.number number at) (map number_of fields))
      (λ values. shape_holds line.number (slice_index values 0) (slice_index values 1) (slice_index values 2) at))

  pub net_holds : (shape : Shape) (net : ℕ × Line) → FaultsAt P net.1.number → Holds P (net_in shape net)
  net_holds shape net at =
      bind_holds (net_weight_in shape net.1) _ (choice_holds shape.net_weights (weight_in net.1.number (first_number net.1)) (Ok 1)
      (weight_holds net.1.number (first_number net.1) at) tt)
      (λ weight. bind_holds (each (pin_in shape.vertices net.1.number) (enumerate_from net.0 (pin_numbers shape net.1))) _
      (each_holds (pin_in shape.vertices net.1.number) (λ pin. pin_holds shape.vertices net.1.number pin at)
      (enumerate_from net.0 (pin_numbers shape net.1)))
      (λ pins. tt))

  nets_hold : (shape : Shape) (before : ℕ) (lines : List Line) → FaultsAtEach P lines → Holds P (each (net_in shape) (with_pins_before shape before lines))
  nets_hold shape before [] at = tt
  nets_hold shape before (line ∷ lines) at =
      let rest = with_pins_before shape (before + length (pin_numbers shape line)) lines in
      bind_holds (net_in shape (before, line)) (λ y. each (net_in shape) rest >>= λ ys. Ok (y ∷ ys)) (net_holds shape (before, line) at.0)
      (λ y. bind_holds (each (net_in shape) rest) (λ ys. Ok (y ∷ ys)) (nets_hold shape (before + length (pin_numbers shape line)) lines at.1) (λ ys. tt))

  pub vertex_holds : (line : Line) → FaultsAt P line.number → Holds P (vertex_in line)
  vertex_holds line at =
      bind_holds (guarded (length line.fields == 1) (Bad line.number FieldCount) line.fields) _ (guarded_holds _ (Bad line.number FieldCount) line.fields
      (at.bad FieldCount))
      (λ fields. weight_holds line.number (first_number line) at)

  vertices_hold : (lines : List Line) → FaultsAtEach P lines → Holds P (each vertex_in lines)
  vertices_hold [] at = tt
  vertices_hold (line ∷ lines) at =
      bind_holds (vertex_in line) (λ y. each vertex_in lines >>= λ ys. Ok (y ∷ ys)) (vertex_holds line at.0)
      (λ y. bind_holds (each vertex_in lines) (λ ys. Ok (y ∷ ys)) (vertices_hold lines at.1) (λ ys. tt))

  first_holds : {A : Type 0} (count : ℕ) (read : List Line → Read A) (text : Reading) → P (Bad (text.count + 1) MissingLine) →
      Holds P (read (take count text.kept)) → Holds P (first_in count read text)
  first_holds count read text end h =
      bind_holds (read (take count text.kept)) _ h (λ values. guarded_holds _ (Bad (text.count + 1) MissingLine) values end)

  ended_holds : {A : Type 0} (lines : List Line) (value : A) → FaultsAtEach P lines → Holds P (ended lines value)
  ended_holds [] value at = tt
  ended_holds (line ∷ lines) value at = at.0.bad ExtraLine

  at_take : (n : ℕ) (lines : List Line) → FaultsAtEach P lines → FaultsAtEach P (take n lines)
  at_take zero lines at = tt
  at_take (suc n) [] at = tt
  at_take (suc n) (line ∷ lines) at = (at.0, at_take n lines at.1)

  at_drop : (n : ℕ) (lines : List Line) → FaultsAtEach P lines → FaultsAtEach P (drop n lines)
  at_drop zero lines at = at
  at_drop (suc n) [] at = tt
  at_drop (suc n) (line ∷ lines) at = at_drop n lines at.1

  body_holds : (shape : Shape) (text : Reading) → P (Bad (text.count + 1) MissingLine) → FaultsAtEach P text.kept → Holds P (body_in shape text)
  body_holds shape text end at =
      let later : FaultsAtEach P (read_on shape.nets text).kept = at_drop shape.nets text.kept at in
      bind_holds (first_in shape.nets (nets_in shape) text) _
      (first_holds shape.nets (nets_in shape) text end (nets_hold shape 0 (take shape.nets text.kept) (at_take shape.nets text.kept at)))
      (λ nets. bind_holds (weights_in shape (read_on shape.nets text)) _
      (choice_holds shape.vertex_weights (first_in shape.vertices (each vertex_in) (read_on shape.nets text)) (Ok (replicate shape.vertices 1))
      (first_holds shape.vertices (each vertex_in) (read_on shape.nets text) end (vertices_hold (take shape.vertices (read_on shape.nets text).kept)
      (at_take shape.vertices (read_on shape.nets text).kept later))) tt)
      (λ weights. ended_holds (read_on (vertex_lines shape) (read_on shape.nets text)).kept _ (at_drop (vertex_lines shape) (read_on shape.nets text).kept
      later)))

  opening_holds : (count : ℕ) (lines : List Line) → P (Bad (count + 1) NoHeader) → FaultsAtEach P lines → Holds P (first_line count lines >>= header_in)
  opening_holds count [] none at = none
  opening_holds count (line ∷ lines) none at = header_holds line at.0

  text_holds : (text : Reading) → ((kind : LineKind) → P (Bad (text.count + 1) kind)) → FaultsAtEach P text.kept →
      Holds P (shape_of text >>= λ shape. body_in shape (read_on 1 text))
  text_holds text end at =
      bind_holds (shape_of text) (λ shape. body_in shape (read_on 1 text)) (opening_holds text.count text.kept (end NoHeader) at)
      (λ shape. body_holds shape (read_on 1 text) (end MissingLine) (at_drop 1 text.kept at))

-- each kept line may have faults
at_each : (text : Reading) (lines : List Line) → ((line : ℕ) → IsNumbered line lines → IsNumbered line text.kept) → FaultsAtEach (IsFaultOf text) lines
at_each text [] among = tt
at_each text (line ∷ lines) among =
    (record { bad = λ kind. inr (among line.number (inl refl)); large = λ what. among line.number (inl refl) }, at_each text lines (λ n h. among n (inr h)))

placed : {A : Type 0} (text : Reading) (r : Read A) → Holds (IsFaultOf text) r → IsAtPlace text r
placed text (Ok value) h = tt
placed text (Err fault) h = h

pub faults_placed : (bytes : List ℕ) → IsAtPlace (reading bytes) (graph bytes)
faults_placed bytes =
    placed (reading bytes) (graph bytes)
    (text_holds (IsFaultOf (reading bytes)) (reading bytes) (λ kind. inl refl) (at_each (reading bytes) (reading bytes).kept (λ n h. h)))
