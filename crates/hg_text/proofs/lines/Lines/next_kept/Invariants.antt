use Rattle.std.proofs.Common.{◌≡◌, ◌+◌, ◌^◌, ◌≤◌, length}
use Rattle.hg_text.specs.Kept.{lines, kept_from}
use Rattle.hg_text.proofs.lines.Lines.next_kept.Given as goal

abbrev pub invariant-loop-self : goal.invariant-loop-self
invariant-loop-self l =
    (l.self-inside.passed + length l.self-inside.rest.now ≤ 2 ^ 29)
    × (kept_from (l.self-inside.passed + 1) l.self-inside.rest.now ≡ l.fn.self.kept)
    × (l.self-inside.passed + length (lines l.self-inside.rest.now) ≡ l.fn.self.count)

abbrev pub decreases-loop-self : goal.decreases-loop-self
decreases-loop-self l = length l.self-inside.rest.now
