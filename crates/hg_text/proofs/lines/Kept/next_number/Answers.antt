use Rattle.std.proofs.Common.{◌≡◌, ℕ, List, take, drop, length, ◌-◌, sym, subst, ap}
use Rattle.hg_text.specs.Kept.{Line, fields}
use Rattle.hg_text.specs.Cut.{TakesNumber}
use Rattle.hg_text.proofs.Cuts.{rest_of_line}
use Rattle.hg_text.proofs.lines.Kept.next_number.Goals as goal

pub returns-clause-spelt : goal.returns-clause-spelt
returns-clause-spelt c =
    let text : List ℕ = c.self.inside.text.now in
    let len : ℕ = c.self.inside.len in
    let passed : ℕ = c.take_number-number.result.1 in
    let now : fields (drop passed (take len text)) ≡ fields (take (len - passed) (take (length text - passed) (drop passed text))) =
    sym (ap fields (rest_of_line text len passed c.take_number-number.ensures.part)) in
    let taken = subst (λ (later : List (List ℕ)). TakesNumber (fields (take len text)) later c.take_number-number.result.0) now
    c.take_number-number.ensures.spelt in
    let old : fields (take len text) ≡ c.args.self.now.fields = ap (λ (line : Line). line.fields) c.self.view_is in
    subst (λ (earlier : List (List ℕ)). TakesNumber earlier (fields (take (len - passed) (take (length text - passed) (drop passed text))))
    c.take_number-number.result.0) old taken
