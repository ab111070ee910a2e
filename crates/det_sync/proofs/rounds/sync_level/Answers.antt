use Rattle.std.proofs.Common.{◌≡◌, ◌∙◌, inl, inr, [], length, sym, ap, subst, arith}
use Rattle.std.proofs.lemmas.Bool.{eqb-true, eqb-false}
use Rattle.hg_defs.specs.Partition.{Fits}
use Rattle.hg_defs.specs.Synchronous.{sync}
use Rattle.hg_defs.proofs.SynchronousLaws.{sync-fits}
use Rattle.pin_plain.specs.Parted.{Parted}
use Rattle.pin_plain.proofs.SweepLaws.{same_step}
use Rattle.det_sync.specs.Wishes.{AreWishes}
use Rattle.det_sync.specs.Rounds.{LogsSync}
use Rattle.det_sync.proofs.LevelLaws.{settled_without, unsettled_with, logs_more, logs_whole, empty_list, by_first, by_first_too}
use Rattle.det_sync.proofs.rounds.sync_level.Goals as goal

pub returns-then-is_empty-clause-rounds : goal.returns-then-is_empty-clause-rounds
returns-then-is_empty-clause-rounds g c =
    let same = c.rounds.invariant.same in
    let are = by_first c.args.p.now c.rounds.p (λ k l. AreWishes c.args.h.now k l c.rounds.p.blocks c.in_ok-wishes.wishes.items) same
    c.in_ok-wishes.ensures in
    let none = sym c.as_slice-listed.ensures.value ∙ empty_list c.as_slice-listed.result.now
    (eqb-true (length c.as_slice-listed.result.now) 0 (sym c.is_empty.ensures ∙ c.if-is_empty.true)) in
    logs_whole c.args.h.now c.args.p.now.k c.args.p.now.limit c.args.workers c.args.level c.args.p.now.blocks c.rounds.p.blocks c.args.log.now c.rounds.log
    c.rounds._made c.rounds.invariant.logged
    (inl (settled_without c.args.h.now c.args.p.now.k c.args.p.now.limit c.rounds.p.blocks c.in_ok-wishes.wishes.items are none))

pub rounds-preserved : goal.rounds-preserved
rounds-preserved g c =
    let h = c.args.h.now in
    let same = c.rounds.invariant.same in
    let are = by_first c.args.p.now c.rounds.p (λ k l. AreWishes h k l c.rounds.p.blocks c.in_ok-wishes.wishes.items) same c.in_ok-wishes.ensures in
    let some = λ (e : c.in_ok-wishes.wishes.items ≡ []).
    eqb-false (length c.as_slice-listed.result.now) 0 (sym c.is_empty.ensures ∙ c.if-is_empty.false) (ap length (c.as_slice-listed.ensures.value ∙ e)) in
    let unsettled = unsettled_with h c.args.p.now.k c.args.p.now.limit c.rounds.p.blocks c.in_ok-wishes.wishes.items are some in
    let blocks = ap (λ (x : Parted). x.blocks) c.in_ok-reached.ensures.partition
    ∙ by_first_too c.args.p.now c.rounds.p (λ k l. sync h k l c.rounds.p.blocks) same in
    record {
      same = same_step c.args.p.now c.rounds.p c.grant_best.new.p _ same c.in_ok-reached.ensures.partition;
      cost_is = c.in_ok-reached.ensures.cost;
      fits = subst (Fits h c.args.p.now.k c.args.p.now.limit) (sym blocks)
          (sync-fits h c.args.p.now.k c.args.p.now.limit c.rounds.p.blocks c.rounds.invariant.fits);
      logged =
          logs_more h c.args.p.now.k c.args.p.now.limit c.args.workers c.args.level c.args.p.now.blocks c.rounds.p.blocks c.grant_best.new.p.blocks
          c.args.log.now c.rounds.log c.grant_best.new.log c.rounds._made c.rounds.invariant.logged unsettled (omega (arith, c.rounds-test.true))
          (by_first c.args.p.now c.rounds.p (λ k l. LogsSync h k l c.args.workers c.args.level c.rounds.p.blocks c.rounds.log c.grant_best.new.log) same
          c.in_ok-reached.ensures.round) blocks;
    }

pub returns-clause-rounds : goal.returns-clause-rounds
returns-clause-rounds g c =
    logs_whole c.args.h.now c.args.p.now.k c.args.p.now.limit c.args.workers c.args.level c.args.p.now.blocks c.rounds.p.blocks c.args.log.now c.rounds.log
    c.rounds._made c.rounds.invariant.logged (inr (omega (arith, c.rounds-test.false, c.rounds.auto)))
