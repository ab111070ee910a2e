use Rattle.std.proofs.Common.{◌≡◌, ◌∙◌, ℕ, List, true, length, take, slice_index, nat_eq, ap, subst, arith}
use Rattle.std.specs.Set.{is_member}
use Rattle.pin_plain.proofs.TallyLaws.{tracked_count, tracked_none, clear_after}
use Rattle.pin_plain.proofs.sums.Sums.clear.Goals as goal

pub offset_bounds-self-inside-i : goal.offset_bounds-self-inside-i
offset_bounds-self-inside-i c = let s = c.self.inside in let few = tracked_count s.sums s.touched s.count c.self.invariant in omega arith

pub bounds-self-inside-i : goal.bounds-self-inside-i
bounds-self-inside-i c = let s = c.self.inside in let few = tracked_count s.sums s.touched s.count c.self.invariant in omega arith

pub invariant_of-self : goal.invariant_of-self
invariant_of-self c =
    let s = c.self.inside in
    tracked_none c.loop-i.self-inside.sums c.loop-i.self-inside.touched c.loop-i.invariant.size
    (ap (λ (xs : List ℕ). length xs) c.loop-i.invariant.touched ∙
    c.self.invariant.places)
    (clear_after s.sums c.loop-i.self-inside.sums s.touched s.count c.self.invariant c.loop-i.invariant.less
    (subst (λ (n : ℕ). (b : ℕ) → is_member nat_eq (take n s.touched) b ≡ true → slice_index c.loop-i.self-inside.sums b ≡ 0)
    (let end = c.loop-i.auto.i-end in
    let stop = c.loop-i-test.false in omega arith) c.loop-i.invariant.cleared))
