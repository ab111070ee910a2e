-- The vertices of the sorted pairs are the order.
use Rattle.std.proofs.Common.{◌≡◌, ℕ, List, map, IfOk, IsPermutation, ap, ◌∙◌, subst}
use Rattle.initial_place.proofs.DrawLaws.{order_of_draws, written_back}
use Rattle.initial_place.proofs.orders.drawn_order.Goals as goal

pub returns : goal.returns
returns g c =
    let ds = c.sort_draws.new.draws in
    let drew = c.as_mut_slice.ensures.value ∙ c.in_ok-draws.ensures in
    let moved = subst (λ (xs : List (ℕ × ℕ)). IsPermutation xs ds) drew c.sort_draws.ensures.permutation in
    let sorted_is = c.deref.ensures.value ∙ written_back c.in_ok-draws.draws.len ds c.in_ok-draws.draws.items (c.sort_draws.ensures.len ∙
    c.as_mut_slice.ensures.len) in
    let order = ap (λ (xs : List (ℕ × ℕ)). map (λ (a : ℕ × ℕ). a.1) xs) sorted_is ∙ order_of_draws c.args.h.now c.args.seed c.args.stream ds moved
    c.sort_draws.ensures.sorted in
    record { order = subst (λ (vs : List ℕ). IfOk c.vertices_of.result (λ order. order.items ≡ vs)) order c.vertices_of.ensures }
