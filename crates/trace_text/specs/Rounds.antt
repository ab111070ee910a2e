-- The lines of rounds: where each was made, its moves and its costs.
use Rattle.std.specs.Prelude.{ℕ, ℤ, List, [], ◌∷◌, ◌++◌, length, codes}
use Rattle.std.specs.List.{flat_map}
use Rattle.std.specs.Fmt.{signed_decimal}
use Rattle.round_log.specs.declared.record.Kind.{Kind}
use Rattle.round_log.specs.declared.record.Kind.TheVariants.{Label, Search, Flow, Sweep}
use Rattle.round_log.specs.declared.record.LoggedRound.{LoggedRound}
use Rattle.trace_text.specs.Fields.{fields_text}

-- what stands between the level and the number of moves
abbrev pub moves_label : Kind → List ℕ
moves_label Label = codes " label moves "
moves_label Search = codes " search moves "
moves_label Flow = codes " flow moves "
moves_label Sweep = codes " sweep moves "

-- a gain, behind a blank
abbrev pub gain_text : ℤ → List ℕ
gain_text gain = codes " " ++ signed_decimal gain

-- a round of label propagation, of searches, or a sweep
abbrev pub moves_line : LoggedRound → List ℕ
moves_line r =
    fields_text (
    (codes "round ", r.level)
    ∷ (moves_label r.kind, length r.moves)
    ∷ (codes " kept ", r.kept)
    ∷ (codes " before ", r.before)
    ∷ (codes " made ", r.made)
    ∷ (codes " after ", r.after)
    ∷ []
    )
    ++ codes " gains"
    ++ flat_map gain_text r.gains
    ++ codes "\n"

-- a round of flow between two blocks
abbrev pub flow_line : LoggedRound → List ℕ
flow_line r =
    fields_text (
    (codes "round ", r.level)
    ∷ (codes " flow ", r.first)
    ∷ (codes " ", r.second)
    ∷ (codes " region ", length r.region)
    ∷ (codes " value ", r.value)
    ∷ (codes " before ", r.before)
    ∷ (codes " after ", r.after)
    ∷ []
    )
    ++ codes "\n"

-- the line of a round that a refiner made, and that of a sweep
abbrev pub refined_line_of : Kind → LoggedRound → List ℕ
refined_line_of Label r = moves_line r
refined_line_of Search r = moves_line r
refined_line_of Flow r = flow_line r
refined_line_of Sweep r = []

abbrev pub swept_line_of : Kind → LoggedRound → List ℕ
swept_line_of Sweep r = moves_line r
swept_line_of _ r = []

abbrev pub refined_line : LoggedRound → List ℕ
refined_line r = refined_line_of r.kind r

abbrev pub swept_line : LoggedRound → List ℕ
swept_line r = swept_line_of r.kind r

-- the rounds of the refiners, and the sweeps
abbrev pub refined_text : List LoggedRound → List ℕ
refined_text rounds = flat_map refined_line rounds

abbrev pub swept_text : List LoggedRound → List ℕ
swept_text rounds = flat_map swept_line rounds
