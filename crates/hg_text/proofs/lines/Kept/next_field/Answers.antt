use Rattle.std.proofs.Common.{◌≡◌, ℕ, List, ◌∷◌, take, drop, length, ◌+◌, ◌-◌, sym, subst, ap, ◌∙◌, arith}
use Rattle.std.proofs.lemmas.List.{drop-drop, length-take-le}
use Rattle.hg_text.specs.Kept.{Line, fields}
use Rattle.hg_text.specs.Cut.{IsTrimmed}
use Rattle.hg_text.proofs.Cuts.{rest_of, rest_of_line}
use Rattle.hg_text.proofs.lines.Kept.next_field.Goals as goal

pub split_field-requires-clause-trimmed : goal.split_field-requires-clause-trimmed
split_field-requires-clause-trimmed c =
    let text : List ℕ = c.self.inside.text.now in
    let len : ℕ = c.self.inside.len in
    let start : ℕ = c.blanks-start.result in
    let size : length (take len text) ≡ len = length-take-le len text c.self.invariant.0 in
    let same : drop start (take len text) ≡ take (len - start) (drop start text) = sym (rest_of text len start (omega (arith, c.blanks-start.ensures.part))) in
    subst IsTrimmed same c.blanks-start.ensures.trimmed

pub returns-clause-field : goal.returns-clause-field
returns-clause-field c =
    let text : List ℕ = c.self.inside.text.now in
    let len : ℕ = c.self.inside.len in
    let start : ℕ = c.blanks-start.result in
    let field : List ℕ = c.split_field.result.0.now in
    let passed : ℕ = start + length field in
    let line : List ℕ = take len text in
    let same : take (len - start) (drop start text) ≡ drop start line = rest_of text len start (omega arith) in
    let first : fields line ≡ field ∷ fields c.split_field.result.1.now =
    sym c.blanks-start.ensures.fields ∙ sym (ap fields same) ∙ c.split_field.ensures.fields in
    let behind : c.split_field.result.1.now ≡ drop passed line =
    c.split_field.ensures.rest ∙ ap (drop (length field)) same ∙ drop-drop (length field) start line in
    let left : take (len - passed) (take (length text - passed) (drop passed text)) ≡ drop passed line = rest_of_line text len passed (omega arith) in
    let old : fields line ≡ c.args.self.now.fields = ap (λ (l : Line). l.fields) c.self.view_is in
    sym old ∙ first ∙ ap (λ (xs : List ℕ). field ∷ fields xs) (behind ∙ sym left)
