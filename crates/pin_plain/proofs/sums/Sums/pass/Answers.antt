use Rattle.std.proofs.Common.{ℕ, ◌≤◌, List, slice_index, subst, arith}
use Rattle.pin_plain.proofs.TallyLaws.{tracked_count, none_pass}
use Rattle.pin_plain.proofs.sums.Sums.pass.Goals as goal

pub offset_bounds-self-inside-i : goal.offset_bounds-self-inside-i
offset_bounds-self-inside-i c = let s = c.self.inside in let few = tracked_count s.sums s.touched s.count c.self.invariant in omega arith

pub bounds-self-inside-i : goal.bounds-self-inside-i
bounds-self-inside-i c = let s = c.self.inside in let few = tracked_count s.sums s.touched s.count c.self.invariant in omega arith

pub returns : goal.returns
returns c none b =
    let s = c.self.inside in
    subst (λ (xs : List ℕ). slice_index xs b ≤ c.args.loss) c.self.view_is
    (none_pass s.sums s.touched s.count c.args.loss c.self.invariant
    (λ i l. c.loop-i.invariant i (let end = c.loop-i.auto.i-end in let stop = c.loop-i-test.false in omega arith)) b)
