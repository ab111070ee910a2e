-- The exit status and the text of each way in which a run may end.
use Rattle.std.specs.Prelude.{ℕ, List, [], ◌∷◌, ◌++◌, codes, decimal}
use Rattle.hmetis_read.specs.declared.fault.LineKind.{LineKind}
use Rattle.hmetis_read.specs.declared.fault.LineKind.TheVariants as line_kind
use Rattle.hmetis_read.specs.declared.fault.What.{What}
use Rattle.hmetis_read.specs.declared.fault.What.TheVariants as what
use Rattle.part_text.specs.declared.fault.PartKind.{PartKind}
use Rattle.part_text.specs.declared.fault.PartKind.TheVariants as part_kind
use Rattle.part_run.specs.declared.status.Status.{Status}
use Rattle.part_run.specs.declared.status.Status.TheVariants.{Done, Usage, Malformed, TooLarge, Unplaced, ReadFault}
use Rattle.part_run.specs.declared.status.Status.TheVariants.{WriteFault, NoMemory, BadPartition, BadFix}

abbrev pub code_of : Status → ℕ
code_of Done = 0
code_of Usage = 2
code_of (Malformed line kind) = 3
code_of (TooLarge line what) = 4
code_of (Unplaced vertex) = 5
code_of ReadFault = 6
code_of WriteFault = 7
code_of NoMemory = 8
code_of (BadPartition line kind) = 9
code_of (BadFix line kind) = 10

abbrev pub line_kind_text : LineKind → List ℕ
line_kind_text line_kind.NoHeader = codes "NoHeader"
line_kind_text line_kind.HeaderCount = codes "HeaderCount"
line_kind_text line_kind.NotNumber = codes "NotNumber"
line_kind_text line_kind.BadFormat = codes "BadFormat"
line_kind_text line_kind.MissingLine = codes "MissingLine"
line_kind_text line_kind.ExtraLine = codes "ExtraLine"
line_kind_text line_kind.PinRange = codes "PinRange"
line_kind_text line_kind.WeightRange = codes "WeightRange"
line_kind_text line_kind.FieldCount = codes "FieldCount"

abbrev pub what_text : What → List ℕ
what_text what.Bytes = codes "Bytes"
what_text what.Nets = codes "Nets"
what_text what.Vertices = codes "Vertices"
what_text what.Pins = codes "Pins"
what_text what.Words = codes "Words"
what_text what.ExtraBytes = codes "ExtraBytes"

abbrev pub part_kind_text : PartKind → List ℕ
part_kind_text part_kind.FieldCount = codes "FieldCount"
part_kind_text part_kind.NotNumber = codes "NotNumber"
part_kind_text part_kind.BlockRange = codes "BlockRange"
part_kind_text part_kind.MissingLine = codes "MissingLine"
part_kind_text part_kind.ExtraLine = codes "ExtraLine"

-- a label, a line's number, what is said of the line, and a line feed
abbrev pub line_text : List ℕ → ℕ → List ℕ → List ℕ
line_text label line said = label ++ decimal line ++ codes ": " ++ said ++ 10 ∷ []

-- the forms of the commands that are served
abbrev pub usage_text : List ℕ
usage_text =
    codes "usage: hgpart partition GRAPH K EPS [seed=N] [workers=N] [out=NAME] [cost=km1|cut|soed] [fix=NAME] [mode=det] [cycles=N]\n"
    ++ codes "usage: hgpart evaluate GRAPH PART K EPS [cost=km1|cut|soed]\n"
    ++ codes "usage: hgpart generate N\n"
    ++ codes "usage: hgpart selfrun N K\n"

-- one line that says why a run failed, and nothing where it didn't
abbrev pub status_text : Status → List ℕ
status_text Done = []
status_text Usage = usage_text
status_text (Malformed line kind) = line_text (codes "malformed: line ") line (line_kind_text kind)
status_text (TooLarge line what) = line_text (codes "too large: line ") line (what_text what)
status_text (Unplaced vertex) = codes "unplaced: vertex " ++ decimal vertex ++ 10 ∷ []
status_text ReadFault = codes "read fault\n"
status_text WriteFault = codes "write fault\n"
status_text NoMemory = codes "no memory\n"
status_text (BadPartition line kind) = line_text (codes "bad partition: line ") line (part_kind_text kind)
status_text (BadFix line kind) = line_text (codes "bad fix: line ") line (part_kind_text kind)
