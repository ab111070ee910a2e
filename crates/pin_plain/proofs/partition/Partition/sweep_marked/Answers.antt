use Rattle.std.proofs.Common.{◌++◌, ◌∙◌, ℕ, option_to_list, sym, ap, subst, arith}
use Rattle.std.proofs.lemmas.List.{append-nil}
use Rattle.std.proofs.lemmas.Bool.{ltb-false}
use Rattle.hg_defs.specs.Replay.{replay}
use Rattle.pin_plain.specs.Parted.{Parted}
use Rattle.pin_plain.specs.Quiet.{AreQuiet}
use Rattle.pin_plain.proofs.SweepLaws.{same_step, visit_more, swept_log, unmoved_settled, settled_unmoved, ltb_no}
use Rattle.pin_plain.proofs.partition.Partition.sweep_marked.Goals as goal

pub loop-v-preserved-in_default : goal.loop-v-preserved-in_default
loop-v-preserved-in_default c =
    let now = c.loop-v.self in
    let inside = c.loop-v-test.true in
    let count = c.vertices-count.ensures.count in
    record {
      same = same_step c.args.self.now now c.visit.new.self (replay now.blocks (option_to_list c.visit.result)) c.loop-v.invariant.same
          c.visit.ensures.after;
      sweeping =
          visit_more c.args.h.now c.args.self.now now c.visit.new.self c.loop-v.v c.reserve.new.self.items c.loop-v.moves.items c.loop-v.moves.items
          c.visit.result c.loop-v.invariant.same (omega arith) c.visit.ensures.made
          c.visit.ensures.after (sym (append-nil c.loop-v.moves.items) ∙ ap (λ o. c.loop-v.moves.items ++ option_to_list o) (sym c.in_default.is))
          c.loop-v.invariant.sweeping;
      clear = c.visit.ensures.clear;
      quiet = subst (λ (n : ℕ). AreQuiet c.args.h.now n c.visit.new.self.blocks c.visit.new.marks) (ap (λ (x : Parted). x.k) c.loop-v.invariant.same)
          c.visit.ensures.quiet;
      room = let was = c.loop-v.invariant.room in omega arith;
    }

pub loop-v-preserved : goal.loop-v-preserved
loop-v-preserved c =
    let now = c.loop-v.self in
    let inside = c.loop-v-test.true in
    let count = c.vertices-count.ensures.count in
    record {
      same = same_step c.args.self.now now c.visit.new.self (replay now.blocks (option_to_list c.visit.result)) c.loop-v.invariant.same
          c.visit.ensures.after;
      sweeping =
          visit_more c.args.h.now c.args.self.now now c.visit.new.self c.loop-v.v c.reserve.new.self.items c.loop-v.moves.items c.push.new.self.items
          c.visit.result c.loop-v.invariant.same (omega arith) c.visit.ensures.made
          c.visit.ensures.after (c.in_ok-push.ensures.items ∙ ap (λ o. c.loop-v.moves.items ++ option_to_list o) (sym c.in-Some.is))
          c.loop-v.invariant.sweeping;
      clear = c.visit.ensures.clear;
      quiet = subst (λ (n : ℕ). AreQuiet c.args.h.now n c.visit.new.self.blocks c.visit.new.marks) (ap (λ (x : Parted). x.k) c.loop-v.invariant.same)
          c.visit.ensures.quiet;
      room = let was = c.loop-v.invariant.room in let len = c.in_ok-push.ensures.len in let capacity = c.in_ok-push.ensures.capacity in omega arith;
    }

pub returns-clause-settled : goal.returns-clause-settled
returns-clause-settled c =
    let p = c.args.self.now in
    let count = c.vertices-count.ensures.count in
    let log = swept_log c.args.h.now p.k p.limit p.blocks c.loop-v.self.blocks c.loop-v.v c.reserve.new.self.items c.loop-v.moves.items
    (let stop = c.loop-v-test.false in omega arith) c.loop-v.invariant.sweeping in (
      λ e. unmoved_settled c.args.h.now p.k p.limit p.blocks c.reserve.new.self.items c.loop-v.moves.items log
          (let less = ltb-false c.len-before.result c.len.result e in omega arith),
      λ settled. ltb_no c.len-before.result c.len.result (let less = settled_unmoved c.args.h.now p.k p.limit p.blocks c.reserve.new.self.items
          c.loop-v.moves.items log settled in omega arith),
    )
