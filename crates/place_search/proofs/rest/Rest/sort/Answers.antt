-- Sorted, the vertices stay below the bound.
use Rattle.std.proofs.Common.{ℕ, ◌<◌}
use Rattle.std.specs.declared.cmp.Reverse.{Reverse}
use Rattle.std.proofs.lemmas.List.Sorted.{All-permutation}
use Rattle.place_search.proofs.rest.Rest.sort.Goals as goal

pub invariant_of-self : goal.invariant_of-self
invariant_of-self c =
    let low : Reverse ℕ × ℕ → Type 0 = λ rank. rank.1 < c.self.inside.vertices in
    All-permutation low c.self.inside.ranks.items c.sort_unstable.new.self.items c.sort_unstable.ensures.permutation c.self.invariant
