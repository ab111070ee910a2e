use Rattle.std.proofs.Common.{◌+◌, sym, ap, map, ◌∙◌}
use Rattle.hg_text.specs.Kept.{Line, Reading}
use Rattle.hg_text.proofs.Parts.{lists_same}
use Rattle.hg_text.proofs.lines.Lines.rest.Goals as goal

pub returns-clause-kept : goal.returns-clause-kept
returns-clause-kept c =
    sym (ap (λ (r : Reading). map (λ (line : Line). line.fields) r.kept) c.self.view_is) ∙ lists_same (c.self.inside.passed + 1) c.self.inside.rest.now
