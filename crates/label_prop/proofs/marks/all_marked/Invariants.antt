use Rattle.std.proofs.Common.{◌≡◌, length}
use Rattle.label_prop.proofs.marks.all_marked.Given as goal

-- so many marks were made
abbrev pub invariant-loop-v : goal.invariant-loop-v
invariant-loop-v l = record {
  marked : length l.marks.items ≡ l._v;
}
