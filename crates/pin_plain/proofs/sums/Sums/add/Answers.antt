use Rattle.std.proofs.Common.{◌+◌, ◌<◌, slice_index, slice_set, sym, subst, arith}
use Rattle.pin_plain.specs.Scores.{IsTracked}
use Rattle.pin_plain.proofs.TallyLaws.{tracked_room, tracked_new, tracked_old}
use Rattle.pin_plain.proofs.sums.Sums.add.Goals as goal
use Rattle.pin_plain.proofs.sums.Sums.add.Goals.{then-sum-eq0, else-sum-eq0}

pub offset_bounds-self-inside-self-inside : goal.offset_bounds-self-inside-self-inside
offset_bounds-self-inside-self-inside c =
    let s = c.self.inside in
    let some : 0 < c.args.amount = let q = c.if-amount-eq0.false in omega arith in
    let room = tracked_room s.sums s.touched s.count c.args.block c.args.amount c.self.invariant c.requires.block some c.if-sum-eq0.true in
    omega arith

pub bounds-self-inside-self-inside : goal.bounds-self-inside-self-inside
bounds-self-inside-self-inside c =
    let s = c.self.inside in
    let some : 0 < c.args.amount = let q = c.if-amount-eq0.false in omega arith in
    tracked_room s.sums s.touched s.count c.args.block c.args.amount c.self.invariant c.requires.block some c.if-sum-eq0.true

pub overflow_add-self : goal.overflow_add-self
overflow_add-self c =
    let s = c.self.inside in
    let some : 0 < c.args.amount = let q = c.if-amount-eq0.false in omega arith in
    let room = tracked_room s.sums s.touched s.count c.args.block c.args.amount c.self.invariant c.requires.block some c.if-sum-eq0.true in
    omega arith

pub invariant_of-self : goal.invariant_of-self
invariant_of-self c =
    let s = c.self.inside in
    let some : 0 < c.args.amount = let q = c.if-amount-eq0.false in omega arith in
    elim c.if-sum-eq0.branch [
      | then-sum-eq0 w ↦
          subst (λ t. IsTracked (slice_set t.sums c.args.block (slice_index s.sums c.args.block + c.args.amount)) t.touched t.count) (sym w.self-inside-is)
          (tracked_new s.sums s.touched s.count c.args.block c.args.amount c.self.invariant c.requires.block some w.if-sum-eq0.true)
      | else-sum-eq0 w ↦
          subst (λ t. IsTracked (slice_set t.sums c.args.block (slice_index s.sums c.args.block + c.args.amount)) t.touched t.count) (sym w.self-inside-is)
          (tracked_old s.sums s.touched s.count c.args.block c.args.amount c.self.invariant c.requires.block some (let q = w.if-sum-eq0.false in
          omega arith))
    ]
