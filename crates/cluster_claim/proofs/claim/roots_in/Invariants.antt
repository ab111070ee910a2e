use Rattle.std.proofs.Common.{◌≡◌, map, slice_index}
use Rattle.std.specs.List.{range_with_len}
use Rattle.std.specs.Slots.{slots_items}
use Rattle.cluster_core.specs.Roots.{root_in}
use Rattle.cluster_claim.proofs.claim.roots_in.Given as goal

abbrev pub invariant-vertices : goal.invariant-vertices
invariant-vertices l = l.roots.items ≡ map (λ v. root_in (slice_index (slots_items l.closed.words) v) v) (range_with_len 0 l.v)
