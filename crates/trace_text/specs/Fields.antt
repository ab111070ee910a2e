-- Fields of lines: a label and a number in decimal digits.
use Rattle.std.specs.Prelude.{ℕ, List, ◌++◌, map}
use Rattle.std.specs.List.{flat_map}
use Rattle.std.specs.Fmt.{decimal}
use Rattle.trace_text.specs.declared.fields.Field.{Field}

-- a label, which says what stands before the number, blanks included
abbrev pub field_text : List ℕ × ℕ → List ℕ
field_text field = field.0 ++ decimal field.1

abbrev pub fields_text : List (List ℕ × ℕ) → List ℕ
fields_text fields = flat_map field_text fields

-- the fields, behind their references
abbrev pub fields_of : List Field → List (List ℕ × ℕ)
fields_of fields = map (λ f. (f.label.now, f.value)) fields
