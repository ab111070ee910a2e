use Rattle.std.proofs.Common.{◌≡◌, ◌+◌, ◌≤◌, length}
use Rattle.hg_text.specs.Kept.{fields}
use Rattle.hg_text.specs.Cut.{IsTrimmed}
use Rattle.hg_text.proofs.lines.fields_of.Given as goal

abbrev pub invariant-loop-rest : goal.invariant-loop-rest
invariant-loop-rest l =
    IsTrimmed l.rest × (l.count + length l.rest ≤ length l.line) × (l.count + length (fields l.rest) ≡ length (fields l.line))

abbrev pub decreases-loop-rest : goal.decreases-loop-rest
decreases-loop-rest l = length l.rest
