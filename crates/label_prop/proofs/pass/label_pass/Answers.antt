use Rattle.std.proofs.Common.{true, false, Result, Ok, Err, Option, List, ℕ, ◌+◌, inl, inr, true≢false, sym, ap, subst, ◌∙◌, arith}
use Rattle.std.specs.Result.{OnErr}
use Rattle.hg_defs.specs.Hypergraph.{Hyper, IsWithinLimits}
use Rattle.hg_defs.specs.Partition.{IsPartition}
use Rattle.hg_defs.specs.Cost.{cost}
use Rattle.pin_plain.specs.Parted.{Parted}
use Rattle.round_log.specs.declared.record.Kind.TheVariants.{Label}
use Rattle.round_log.specs.declared.record.LoggedRound.{LoggedRound}
use Rattle.refiner.specs.Logging.{LogsRounds}
use Rattle.label_prop.proofs.PassLaws.{begun, under_part, under_whole, under_fits, raced_room, raced_lower, raced_same, costs_less}
use Rattle.label_prop.specs.LabelRounds.{SweepsOrRests}
use Rattle.label_prop.proofs.PassLaws.{rested_whole, swept_room, swept_lower, under_same_as}
use Rattle.label_prop.proofs.pass.label_pass.Goals as goal
use Rattle.label_prop.proofs.pass.label_pass.Goals.{then-saved-eq0+in_ok-saved+in-Some, else-saved-eq0}

-- what holds whatever is answered holds of an error
at_err : {T E X : Type 0} (r : Result T E) → X → OnErr r X
at_err (Ok x) p = tt
at_err (Err e) p = p

pub returns-in_err-marks-clause-part : goal.returns-in_err-marks-clause-part
returns-in_err-marks-clause-part g c =
    at_err c.from_residual.result
    (under_part c.args.h.now c.args.task.now c.args.p c.args.tally.now c.args.log.now 0 true c.args.p c.args.tally.now c.args.log.now
    (begun c.args.h.now c.args.task.now c.args.p c.args.tally.now c.args.log.now))

pub returns-in_err-settled-clause-part : goal.returns-in_err-settled-clause-part
returns-in_err-settled-clause-part g c =
    at_err c.from_residual-in_err-settled.result
    (under_part c.args.h.now c.args.task.now c.args.p c.args.tally.now c.args.log.now c.turns.counter true c.turns.part c.turns.tally c.turns.log
    c.turns.invariant.underway)

pub returns-then-settled-clause-pass : goal.returns-then-settled-clause-pass
returns-then-settled-clause-pass g c =
    under_whole c.args.h.now c.args.task.now c.args.p c.args.tally.now c.args.log.now c.turns.counter true c.turns.part c.turns.tally c.turns.log
    c.turns.invariant.underway (inl (c.in_ok-settled.ensures.0 c.if-settled.true))

pub race_round-requires-clause-fits : goal.race_round-requires-clause-fits
race_round-requires-clause-fits g c κs within =
    let whole = subst (λ (x : Hyper). IsPartition x c.args.p.k c.args.p.blocks) c.requires.belongs c.blocks-blocks.ensures.parted.partition in
    under_fits c.args.h.now c.args.task.now c.args.p c.args.tally.now c.args.log.now c.turns.counter true c.turns.part c.turns.tally c.turns.log
    c.turns.invariant.underway c.requires.belongs whole c.requires.fits

pub returns-in_err-raced-clause-part : goal.returns-in_err-raced-clause-part
returns-in_err-raced-clause-part g c =
    at_err c.from_residual-in_err-raced.result
    (subst (λ (xs : List LoggedRound). LogsRounds false Label c.args.h.now c.args.task.now c.args.p c.args.tally.now c.turns.tally c.args.log.now xs)
    (sym c.in_err-raced.ensures.err)
    (under_part c.args.h.now c.args.task.now c.args.p c.args.tally.now c.args.log.now c.turns.counter true c.turns.part c.turns.tally c.turns.log
    c.turns.invariant.underway))

pub count-requires-clause-rounds : goal.count-requires-clause-rounds
count-requires-clause-rounds g c =
    let whole = subst (λ (x : Hyper). IsPartition x c.args.p.k c.args.p.blocks) c.requires.belongs c.blocks-blocks.ensures.parted.partition in
    let bounds = subst IsWithinLimits c.requires.belongs c.blocks-blocks.ensures.parted.bounds in
    let room = raced_room c.args.h.now c.args.task.now c.args.p c.args.tally.now c.args.log.now c.requires.belongs whole c.requires.fits bounds
    c.requires.tallied.0 c.requires.tallied.1 c.turns.counter c.turns.part c.turns.tally c.turns.log c.turns.invariant.underway
    (λ settled. true≢false (sym (c.in_ok-settled.ensures.1 settled) ∙ c.if-settled.false)) (let test = c.turns-test.true in omega arith)
    c.in_ok-raced.saved c.in_ok-raced.raced c.race_round.new.log c.in_ok-raced.ensures.ok in
    let a = room.0 in
    omega arith

pub count-requires-clause-gain : goal.count-requires-clause-gain
count-requires-clause-gain g c =
    let whole = subst (λ (x : Hyper). IsPartition x c.args.p.k c.args.p.blocks) c.requires.belongs c.blocks-blocks.ensures.parted.partition in
    let bounds = subst IsWithinLimits c.requires.belongs c.blocks-blocks.ensures.parted.bounds in
    let room = raced_room c.args.h.now c.args.task.now c.args.p c.args.tally.now c.args.log.now c.requires.belongs whole c.requires.fits bounds
    c.requires.tallied.0 c.requires.tallied.1 c.turns.counter c.turns.part c.turns.tally c.turns.log c.turns.invariant.underway
    (λ settled. true≢false (sym (c.in_ok-settled.ensures.1 settled) ∙ c.if-settled.false)) (let test = c.turns-test.true in omega arith)
    c.in_ok-raced.saved c.in_ok-raced.raced c.race_round.new.log c.in_ok-raced.ensures.ok in
    let a = room.1 in
    omega arith

pub returns-in_err-saved-clause-part : goal.returns-in_err-saved-clause-part
returns-in_err-saved-clause-part g c =
    let whole = subst (λ (x : Hyper). IsPartition x c.args.p.k c.args.p.blocks) c.requires.belongs c.blocks-blocks.ensures.parted.partition in
    let bounds = subst IsWithinLimits c.requires.belongs c.blocks-blocks.ensures.parted.bounds in
    at_err c.from_residual-in_err-saved.result
    (subst (λ (xs : List LoggedRound). LogsRounds false Label c.args.h.now c.args.task.now c.args.p c.args.tally.now c.count.new.tally c.args.log.now xs)
    (sym c.in_err-saved.ensures.err)
    (under_part c.args.h.now c.args.task.now c.args.p c.args.tally.now c.args.log.now c.turns.counter false c.in_ok-raced.raced c.count.new.tally
    c.race_round.new.log
    (raced_same c.args.h.now c.args.task.now c.args.p c.args.tally.now c.args.log.now c.requires.belongs whole c.requires.fits bounds
    c.requires.tallied.0 c.requires.tallied.1 c.turns.counter c.turns.part c.turns.tally c.turns.log c.turns.invariant.underway
    (λ settled. true≢false (sym (c.in_ok-settled.ensures.1 settled) ∙ c.if-settled.false)) (let test = c.turns-test.true in omega arith)
    c.in_ok-raced.saved c.in_ok-raced.raced c.race_round.new.log c.in_ok-raced.ensures.ok c.count.new.tally c.count.ensures c.if-saved-eq0.true)))

pub returns-in_default-clause-pass : goal.returns-in_default-clause-pass
returns-in_default-clause-pass g c =
    let whole = subst (λ (x : Hyper). IsPartition x c.args.p.k c.args.p.blocks) c.requires.belongs c.blocks-blocks.ensures.parted.partition in
    let bounds = subst IsWithinLimits c.requires.belongs c.blocks-blocks.ensures.parted.bounds in
    rested_whole c.args.h.now c.args.task.now c.args.p c.args.tally.now c.args.log.now c.requires.belongs whole c.requires.fits bounds
    c.requires.tallied.0 c.requires.tallied.1 c.turns.counter c.turns.part c.turns.tally c.turns.log c.turns.invariant.underway
    (λ settled. true≢false (sym (c.in_ok-settled.ensures.1 settled) ∙ c.if-settled.false)) (let test = c.turns-test.true in omega arith)
    c.in_ok-raced.saved c.in_ok-raced.raced c.race_round.new.log c.in_ok-raced.ensures.ok c.count.new.tally c.count.ensures c.if-saved-eq0.true
    c.sweep_round.new.log c.sweep_round.new.part
    (subst (λ (o : Option ℕ). SweepsOrRests c.args.h.now c.args.task.now c.in_ok-raced.raced c.race_round.new.log c.sweep_round.new.log o
    c.sweep_round.new.part)
    c.in_default.is c.in_ok-saved.ensures.ok)

pub count-requires-then-saved-eq0-clause-rounds : goal.count-requires-then-saved-eq0-clause-rounds
count-requires-then-saved-eq0-clause-rounds g c =
    let whole = subst (λ (x : Hyper). IsPartition x c.args.p.k c.args.p.blocks) c.requires.belongs c.blocks-blocks.ensures.parted.partition in
    let bounds = subst IsWithinLimits c.requires.belongs c.blocks-blocks.ensures.parted.bounds in
    let room = swept_room c.args.h.now c.args.task.now c.args.p c.args.tally.now c.args.log.now c.requires.belongs whole c.requires.fits bounds
    c.requires.tallied.0 c.requires.tallied.1 c.turns.counter c.turns.part c.turns.tally c.turns.log c.turns.invariant.underway
    (λ settled. true≢false (sym (c.in_ok-settled.ensures.1 settled) ∙ c.if-settled.false)) (let test = c.turns-test.true in omega arith)
    c.in_ok-raced.saved c.in_ok-raced.raced c.race_round.new.log c.in_ok-raced.ensures.ok c.count.new.tally c.count.ensures c.if-saved-eq0.true c.in-Some.saved
    c.sweep_round.new.log c.sweep_round.new.part
    (subst (λ (o : Option ℕ). SweepsOrRests c.args.h.now c.args.task.now c.in_ok-raced.raced c.race_round.new.log c.sweep_round.new.log o
    c.sweep_round.new.part) c.in-Some.is c.in_ok-saved.ensures.ok) in
    let a = room.0 in
    omega arith

pub count-requires-then-saved-eq0-clause-gain : goal.count-requires-then-saved-eq0-clause-gain
count-requires-then-saved-eq0-clause-gain g c =
    let whole = subst (λ (x : Hyper). IsPartition x c.args.p.k c.args.p.blocks) c.requires.belongs c.blocks-blocks.ensures.parted.partition in
    let bounds = subst IsWithinLimits c.requires.belongs c.blocks-blocks.ensures.parted.bounds in
    let room = swept_room c.args.h.now c.args.task.now c.args.p c.args.tally.now c.args.log.now c.requires.belongs whole c.requires.fits bounds
    c.requires.tallied.0 c.requires.tallied.1 c.turns.counter c.turns.part c.turns.tally c.turns.log c.turns.invariant.underway
    (λ settled. true≢false (sym (c.in_ok-settled.ensures.1 settled) ∙ c.if-settled.false)) (let test = c.turns-test.true in omega arith)
    c.in_ok-raced.saved c.in_ok-raced.raced c.race_round.new.log c.in_ok-raced.ensures.ok c.count.new.tally c.count.ensures c.if-saved-eq0.true c.in-Some.saved
    c.sweep_round.new.log c.sweep_round.new.part
    (subst (λ (o : Option ℕ). SweepsOrRests c.args.h.now c.args.task.now c.in_ok-raced.raced c.race_round.new.log c.sweep_round.new.log o
    c.sweep_round.new.part) c.in-Some.is c.in_ok-saved.ensures.ok) in
    let a = room.1 in
    omega arith

pub turns-preserved : goal.turns-preserved
turns-preserved g c =
    let whole = subst (λ (x : Hyper). IsPartition x c.args.p.k c.args.p.blocks) c.requires.belongs c.blocks-blocks.ensures.parted.partition in
    let bounds = subst IsWithinLimits c.requires.belongs c.blocks-blocks.ensures.parted.bounds in
    elim c.if-saved-eq0.branch [
      | then-saved-eq0+in_ok-saved+in-Some w ↦ record {
        underway = under_same_as c.args.h.now c.args.task.now c.args.p c.args.tally.now c.args.log.now (c.turns.counter + 1) w.part-is w.tally-is w.log-is
            (swept_lower c.args.h.now c.args.task.now c.args.p c.args.tally.now c.args.log.now c.requires.belongs whole c.requires.fits bounds
            c.requires.tallied.0 c.requires.tallied.1 c.turns.counter c.turns.part c.turns.tally c.turns.log c.turns.invariant.underway
            (λ settled. true≢false (sym (c.in_ok-settled.ensures.1 settled) ∙ c.if-settled.false)) (let test = c.turns-test.true in omega arith)
            c.in_ok-raced.saved c.in_ok-raced.raced c.race_round.new.log c.in_ok-raced.ensures.ok c.count.new.tally c.count.ensures w.if-saved-eq0.true
            w.in-Some.saved w.sweep_round.new.log w.sweep_round.new.part
            (subst (λ (o : Option ℕ). SweepsOrRests c.args.h.now c.args.task.now c.in_ok-raced.raced c.race_round.new.log w.sweep_round.new.log o
            w.sweep_round.new.part) w.in-Some.is w.in_ok-saved.ensures.ok)
            w.count-then-saved-eq0.new.tally w.count-then-saved-eq0.ensures);
        cost_is =
            let begun_fits = under_fits c.args.h.now c.args.task.now c.args.p c.args.tally.now c.args.log.now c.turns.counter true c.turns.part c.turns.tally
            c.turns.log c.turns.invariant.underway c.requires.belongs whole c.requires.fits in
            let raced = costs_less true c.args.h.now c.args.task.now c.turns.part c.turns.log c.race_round.new.log c.in_ok-raced.saved c.in_ok-raced.raced
            begun_fits c.in_ok-raced.ensures.ok in
            let before = c.turns.invariant.cost_is in
            let part = ap (λ (x : Parted). cost c.args.h.now x.blocks) w.part-is in
            let is = w.cost-is in
            let same = raced_same c.args.h.now c.args.task.now c.args.p c.args.tally.now c.args.log.now c.requires.belongs whole c.requires.fits bounds
            c.requires.tallied.0 c.requires.tallied.1 c.turns.counter c.turns.part c.turns.tally c.turns.log c.turns.invariant.underway
            (λ settled. true≢false (sym (c.in_ok-settled.ensures.1 settled) ∙ c.if-settled.false)) (let test = c.turns-test.true in omega arith)
            c.in_ok-raced.saved c.in_ok-raced.raced c.race_round.new.log c.in_ok-raced.ensures.ok c.count.new.tally c.count.ensures w.if-saved-eq0.true in
            let fits = under_fits c.args.h.now c.args.task.now c.args.p c.args.tally.now c.args.log.now c.turns.counter false c.in_ok-raced.raced
            c.count.new.tally c.race_round.new.log same c.requires.belongs whole c.requires.fits in
            let swept = costs_less false c.args.h.now c.args.task.now c.in_ok-raced.raced c.race_round.new.log w.sweep_round.new.log w.in-Some.saved
            w.sweep_round.new.part fits (subst (λ (o : Option ℕ). SweepsOrRests c.args.h.now c.args.task.now c.in_ok-raced.raced c.race_round.new.log
            w.sweep_round.new.log o w.sweep_round.new.part) w.in-Some.is w.in_ok-saved.ensures.ok) in
            omega arith;
      }
      | else-saved-eq0 w ↦ record {
        underway = under_same_as c.args.h.now c.args.task.now c.args.p c.args.tally.now c.args.log.now (c.turns.counter + 1) w.part-is w.tally-is w.log-is
            (raced_lower c.args.h.now c.args.task.now c.args.p c.args.tally.now c.args.log.now c.requires.belongs whole c.requires.fits bounds
            c.requires.tallied.0 c.requires.tallied.1 c.turns.counter c.turns.part c.turns.tally c.turns.log c.turns.invariant.underway
            (λ settled. true≢false (sym (c.in_ok-settled.ensures.1 settled) ∙ c.if-settled.false)) (let test = c.turns-test.true in omega arith)
            c.in_ok-raced.saved c.in_ok-raced.raced c.race_round.new.log c.in_ok-raced.ensures.ok c.count.new.tally c.count.ensures
            (let some = w.if-saved-eq0.false in omega arith));
        cost_is =
            let begun_fits = under_fits c.args.h.now c.args.task.now c.args.p c.args.tally.now c.args.log.now c.turns.counter true c.turns.part c.turns.tally
            c.turns.log c.turns.invariant.underway c.requires.belongs whole c.requires.fits in
            let raced = costs_less true c.args.h.now c.args.task.now c.turns.part c.turns.log c.race_round.new.log c.in_ok-raced.saved c.in_ok-raced.raced
            begun_fits c.in_ok-raced.ensures.ok in
            let before = c.turns.invariant.cost_is in
            let part = ap (λ (x : Parted). cost c.args.h.now x.blocks) w.part-is in
            let is = w.cost-is in
            omega arith;
      }
    ]

pub returns-clause-pass : goal.returns-clause-pass
returns-clause-pass g c =
    under_whole c.args.h.now c.args.task.now c.args.p c.args.tally.now c.args.log.now c.turns.counter true c.turns.part c.turns.tally c.turns.log
    c.turns.invariant.underway (inr (let most = c.turns.auto.counter-end in let all = c.turns-test.false in omega arith))

pub overflow_sub-cost : goal.overflow_sub-cost
overflow_sub-cost g c =
    let whole = subst (λ (x : Hyper). IsPartition x c.args.p.k c.args.p.blocks) c.requires.belongs c.blocks-blocks.ensures.parted.partition in
    let fits = under_fits c.args.h.now c.args.task.now c.args.p c.args.tally.now c.args.log.now c.turns.counter true c.turns.part c.turns.tally c.turns.log
    c.turns.invariant.underway c.requires.belongs whole c.requires.fits in
    let less = costs_less true c.args.h.now c.args.task.now c.turns.part c.turns.log c.race_round.new.log c.in_ok-raced.saved c.in_ok-raced.raced fits
    c.in_ok-raced.ensures.ok in
    let is = c.turns.invariant.cost_is in
    omega arith

pub sweep_round-requires-clause-before : goal.sweep_round-requires-clause-before
sweep_round-requires-clause-before g c κs within =
    let whole = subst (λ (x : Hyper). IsPartition x c.args.p.k c.args.p.blocks) c.requires.belongs c.blocks-blocks.ensures.parted.partition in
    let fits = under_fits c.args.h.now c.args.task.now c.args.p c.args.tally.now c.args.log.now c.turns.counter true c.turns.part c.turns.tally c.turns.log
    c.turns.invariant.underway c.requires.belongs whole c.requires.fits in
    let less = costs_less true c.args.h.now c.args.task.now c.turns.part c.turns.log c.race_round.new.log c.in_ok-raced.saved c.in_ok-raced.raced fits
    c.in_ok-raced.ensures.ok in
    let is = c.turns.invariant.cost_is in
    omega arith

pub overflow_sub-cost-then-saved-eq0 : goal.overflow_sub-cost-then-saved-eq0
overflow_sub-cost-then-saved-eq0 g c =
    let whole = subst (λ (x : Hyper). IsPartition x c.args.p.k c.args.p.blocks) c.requires.belongs c.blocks-blocks.ensures.parted.partition in
    let bounds = subst IsWithinLimits c.requires.belongs c.blocks-blocks.ensures.parted.bounds in
    let same = raced_same c.args.h.now c.args.task.now c.args.p c.args.tally.now c.args.log.now c.requires.belongs whole c.requires.fits bounds
    c.requires.tallied.0 c.requires.tallied.1 c.turns.counter c.turns.part c.turns.tally c.turns.log c.turns.invariant.underway
    (λ settled. true≢false (sym (c.in_ok-settled.ensures.1 settled) ∙ c.if-settled.false)) (let test = c.turns-test.true in omega arith)
    c.in_ok-raced.saved c.in_ok-raced.raced c.race_round.new.log c.in_ok-raced.ensures.ok c.count.new.tally c.count.ensures c.if-saved-eq0.true in
    let fits = under_fits c.args.h.now c.args.task.now c.args.p c.args.tally.now c.args.log.now c.turns.counter false c.in_ok-raced.raced c.count.new.tally
    c.race_round.new.log same c.requires.belongs whole c.requires.fits in
    let less = costs_less false c.args.h.now c.args.task.now c.in_ok-raced.raced c.race_round.new.log c.sweep_round.new.log c.in-Some.saved c.sweep_round.new.part
    fits (subst (λ (o : Option ℕ). SweepsOrRests c.args.h.now c.args.task.now c.in_ok-raced.raced c.race_round.new.log c.sweep_round.new.log o
    c.sweep_round.new.part) c.in-Some.is c.in_ok-saved.ensures.ok) in
    let begun_fits = under_fits c.args.h.now c.args.task.now c.args.p c.args.tally.now c.args.log.now c.turns.counter true c.turns.part c.turns.tally
    c.turns.log c.turns.invariant.underway c.requires.belongs whole c.requires.fits in
    let before = costs_less true c.args.h.now c.args.task.now c.turns.part c.turns.log c.race_round.new.log c.in_ok-raced.saved c.in_ok-raced.raced
    begun_fits c.in_ok-raced.ensures.ok in
    let is = c.turns.invariant.cost_is in
    omega arith
