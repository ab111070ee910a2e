use Rattle.std.proofs.Common.{◌≡◌, ◌≤◌, ◌-◌, length, drop}
use Rattle.hg_text.specs.Kept.{fields}
use Rattle.hg_text.proofs.cut.blanks.Given as goal

abbrev pub invariant-loop-count : goal.invariant-loop-count
invariant-loop-count l = (fields (drop l.count l.line) ≡ fields l.line) × (l.count ≤ length l.line)

abbrev pub decreases-loop-count : goal.decreases-loop-count
decreases-loop-count l = length l.line - l.count
