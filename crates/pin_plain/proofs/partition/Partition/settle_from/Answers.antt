use Rattle.std.proofs.Common.{◌-◌, ◌^◌, All, pos, ◌≤ℤ◌, ◌<ℤ◌, ◌++◌, ◌∙◌, ℕ, List, length, refl, sym, ap, subst, arith, true≢false}
use Rattle.hg_defs.specs.declared.moves.Move.{Move}
use Rattle.hg_defs.specs.Sums.{total_z}
use Rattle.hg_defs.specs.Moves.{sweep}
use Rattle.pin_plain.specs.Parted.{Parted}
use Rattle.pin_plain.specs.Quiet.{AreQuiet}
use Rattle.pin_plain.proofs.QuietLaws.{quiet_written}
use Rattle.pin_plain.proofs.SettleLaws.{added_none, sweep_gains, sweep_bound, sweep_after, settle_after, sweep_few, settle_less, settle_end, settle_more}
use Rattle.pin_plain.proofs.SweepLaws.{same_step}
use Rattle.pin_plain.proofs.partition.Partition.settle_from.Goals as goal

pub saved_by-requires-clause-gains : goal.saved_by-requires-clause-gains
saved_by-requires-clause-gains c =
    let p = c.loop-moves.self in
    let moves = c.slice.ensures ∙ c.in_ok-sweep_marked.ensures.log ∙ ap (λ (xs : List Move). xs ++ sweep c.args.h.now p.k p.limit p.blocks) c.new-moves.ensures in
    subst (λ (xs : List Move). All (λ m. pos 0 ≤ℤ m.booked) xs) (sym moves) (sweep_gains c.args.h.now p.k p.limit p.blocks)

pub saved_by-requires-clause-bound : goal.saved_by-requires-clause-bound
saved_by-requires-clause-bound c =
    let p = c.loop-moves.self in
    let moves = c.slice.ensures ∙ c.in_ok-sweep_marked.ensures.log ∙ ap (λ (xs : List Move). xs ++ sweep c.args.h.now p.k p.limit p.blocks) c.new-moves.ensures in
    let before = c.loop-moves.invariant.before in
    let small = c.loop-moves.invariant.small in
    subst (λ (xs : List Move). total_z (λ (m : Move). m.booked) xs <ℤ pos (2 ^ 57)) (sym moves)
    (sweep_bound c.args.h.now p.k p.limit p.blocks (omega arith))

pub overflow_sub-after : goal.overflow_sub-after
overflow_sub-after c =
    let p = c.loop-moves.self in
    let moves = c.slice.ensures ∙ c.in_ok-sweep_marked.ensures.log ∙ ap (λ (xs : List Move). xs ++ sweep c.args.h.now p.k p.limit p.blocks) c.new-moves.ensures in
    let sum = sweep_after c.args.h.now p.k p.limit p.blocks c.slice.result.now c.saved_by.result moves c.saved_by.ensures in
    let before = c.loop-moves.invariant.before in
    omega arith

pub returns-then-not-branch-clause-ok : goal.returns-then-not-branch-clause-ok
returns-then-not-branch-clause-ok c =
    settle_end c.args.h.now c.args.self.now c.loop-moves.self c.sweep_marked.new.self c.loop-moves.invariant.same c.in_ok-sweep_marked.ensures.after c.args.log.now
    c.loop-moves.log c.loop-moves.rounds
    (c.in_ok-sweep_marked.ensures.settled.0 c.if-not-branch.true) c.loop-moves.invariant.added

pub swept-requires-clause-few : goal.swept-requires-clause-few
swept-requires-clause-few c =
    let p = c.loop-moves.self in
    let moves = c.in_ok-made.ensures ∙ c.in_ok-sweep_marked.ensures.log ∙ ap (λ (xs : List Move). xs ++ sweep c.args.h.now p.k p.limit p.blocks)
    c.new-moves.ensures in
    let few = sweep_few c.args.h.now p.k p.limit p.blocks c.requires.bounds in
    let len = ap length moves in
    omega arith

pub loop-moves-smaller : goal.loop-moves-smaller
loop-moves-smaller c =
    let less =
    settle_less c.args.h.now c.args.self.now c.loop-moves.self c.sweep_marked.new.self c.loop-moves.invariant.same c.in_ok-sweep_marked.ensures.after
    (λ settled. true≢false (sym c.if-not-branch.false ∙ c.in_ok-sweep_marked.ensures.settled.1 settled)) in
    let before = c.loop-moves.invariant.before in
    let moves = c.slice.ensures ∙ c.in_ok-sweep_marked.ensures.log ∙ ap (λ (xs : List Move). xs ++ sweep c.args.h.now c.loop-moves.self.k c.loop-moves.self.limit
    c.loop-moves.self.blocks) c.new-moves.ensures in
    let sum = settle_after c.args.h.now c.args.self.now c.loop-moves.self c.sweep_marked.new.self c.loop-moves.invariant.same c.in_ok-sweep_marked.ensures.after
    c.slice.result.now c.saved_by.result moves c.saved_by.ensures in
    omega arith

pub loop-moves-preserved : goal.loop-moves-preserved
loop-moves-preserved c =
    let less =
    settle_less c.args.h.now c.args.self.now c.loop-moves.self c.sweep_marked.new.self c.loop-moves.invariant.same c.in_ok-sweep_marked.ensures.after
    (λ settled. true≢false (sym c.if-not-branch.false ∙ c.in_ok-sweep_marked.ensures.settled.1 settled)) in
    let before = c.loop-moves.invariant.before in
    let moves = c.slice.ensures ∙ c.in_ok-sweep_marked.ensures.log ∙ ap (λ (xs : List Move). xs ++ sweep c.args.h.now c.loop-moves.self.k c.loop-moves.self.limit
    c.loop-moves.self.blocks) c.new-moves.ensures in
    let sum = settle_after c.args.h.now c.args.self.now c.loop-moves.self c.sweep_marked.new.self c.loop-moves.invariant.same c.in_ok-sweep_marked.ensures.after
    c.slice.result.now c.saved_by.result moves c.saved_by.ensures in
    record {
      quiet =
          quiet_written c.args.h.now c.args.self.now.k c.sweep_marked.new.self.blocks c.loop-moves.marks.len c.sweep_marked.new.marks
          c.loop-moves.marks.items
          (let before = c.loop-moves.invariant.quiet.all in
          let after = c.in_ok-sweep_marked.ensures.quiet.all in
          let size = c.loop-moves.marks.ok in
          omega arith)
          (subst (λ (n : ℕ). AreQuiet c.args.h.now n c.sweep_marked.new.self.blocks c.sweep_marked.new.marks)
          (ap (λ (x : Parted). x.k) c.loop-moves.invariant.same)
          c.in_ok-sweep_marked.ensures.quiet);
      same = same_step c.args.self.now c.loop-moves.self c.sweep_marked.new.self _ c.loop-moves.invariant.same c.in_ok-sweep_marked.ensures.after;
      before = let before = c.loop-moves.invariant.before in omega arith;
      small = let small = c.loop-moves.invariant.small in omega arith;
      number = let was = c.loop-moves.invariant.number in omega arith;
      added =
          settle_more c.args.h.now c.args.self.now c.loop-moves.self c.sweep_marked.new.self c.loop-moves.invariant.same c.in_ok-sweep_marked.ensures.after c.args.log.now
          c.loop-moves.log c.push.new.self c.loop-moves.rounds
          c.in_ok-made.made c.loop-moves.before (c.loop-moves.before - c.saved_by.result) c.in_ok-swept.field-0
          (λ settled. true≢false (sym c.if-not-branch.false ∙ c.in_ok-sweep_marked.ensures.settled.1 settled))
          (c.in_ok-made.ensures ∙ c.in_ok-sweep_marked.ensures.log ∙ ap (λ (xs : List Move). xs ++ sweep c.args.h.now c.loop-moves.self.k c.loop-moves.self.limit
          c.loop-moves.self.blocks) c.new-moves.ensures) before (let was = c.loop-moves.invariant.before in omega arith) c.in_ok-swept.ensures
          c.in_ok-push.ensures.ok c.loop-moves.invariant.added;
    }

pub loop-moves-init : goal.loop-moves-init
loop-moves-init c =
    let p = c.args.self.now in
    record {
      same = refl;
      quiet = c.requires.quiet;
      before = c.cost-before.ensures.value;
      small = c.cost-before.ensures.bound;
      number = omega arith;
      added = added_none c.args.h.now p.k p.limit p.blocks c.args.log.now;
    }
