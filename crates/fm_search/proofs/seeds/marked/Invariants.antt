use Rattle.std.proofs.Common.{◌<◌, ◌≤◌, All, length, vec_len}
use Rattle.fm_search.proofs.seeds.marked.Given as goal

abbrev pub invariant-vertices : goal.invariant-vertices
invariant-vertices l = (All (λ v. v < length l.cut) l.seeds.items) × (vec_len l.seeds ≤ l.v)
