-- A pass that is under way goes on, or ends as it may.
use Rattle.std.proofs.Common.{◌+◌, true, false, true≢false, Result, Ok, Err, List, inl, inr, refl, sym, ap, subst, ◌∙◌, arith}
use Rattle.std.specs.Prelude.{nat_lt}
use Rattle.std.proofs.lemmas.Bool.{lt-ltb}
use Rattle.std.specs.Result.{OnErr}
use Rattle.round_log.specs.declared.record.Kind.TheVariants.{Search}
use Rattle.round_log.specs.declared.record.LoggedRound.{LoggedRound}
use Rattle.pin_plain.specs.Parted.{Parted}
use Rattle.refiner.specs.declared.pass.Tally.{Tally}
use Rattle.refiner.specs.Logging.{LogsRounds}
use Rattle.fm_search.specs.Memory.{IsMemoryFor}
use Rattle.fm_search.proofs.PassLaws.{IsUnderway, under_part, under_whole, under_belongs, under_room, under_more}
use Rattle.fm_search.proofs.pass.search_pass.Goals as goal

-- what holds whatever is answered holds of an error
at_err : {T E X : Type 0} (r : Result T E) → X → OnErr r X
at_err (Ok x) p = tt
at_err (Err e) p = p

pub is_possible-requires : goal.is_possible-requires
is_possible-requires g c =
    under_belongs c.args.h.now c.args.task.now c.args.p c.args.tally.now c.args.log.now c.rounds.counter true c.rounds.part c.rounds.tally c.rounds.log
    c.rounds.invariant.underway c.requires.belongs

pub search_round-requires-clause-belongs : goal.search_round-requires-clause-belongs
search_round-requires-clause-belongs g c κs within =
    under_belongs c.args.h.now c.args.task.now c.args.p c.args.tally.now c.args.log.now c.rounds.counter true c.rounds.part c.rounds.tally c.rounds.log
    c.rounds.invariant.underway c.requires.belongs

pub search_round-requires-clause-tallied : goal.search_round-requires-clause-tallied
search_round-requires-clause-tallied g c κs within =
    under_room c.args.h.now c.args.task.now c.args.p c.args.tally.now c.args.log.now c.rounds.counter true c.rounds.part c.rounds.tally c.rounds.log
    c.rounds.invariant.underway c.rounds-test.true c.requires.tallied.0 c.requires.tallied.1

pub returns-then-not-is_possible-clause-pass : goal.returns-then-not-is_possible-clause-pass
returns-then-not-is_possible-clause-pass g c =
    under_whole c.args.h.now c.args.task.now c.args.p c.args.tally.now c.args.log.now c.rounds.counter true c.rounds.part c.rounds.tally c.rounds.log
    c.rounds.invariant.underway (inr (inr (λ some. true≢false (sym (c.is_possible.ensures.1 some) ∙ c.if-not-is_possible.true))))

pub returns-in_err-next-clause-part : goal.returns-in_err-next-clause-part
returns-in_err-next-clause-part g c =
    at_err c.from_residual.result
    (subst (λ (xs : List LoggedRound). LogsRounds false Search c.args.h.now c.args.task.now c.args.p c.args.tally.now c.search_round.new.tally c.args.log.now
    xs)
    (sym c.in_err-next.ensures.err.0)
    (subst (λ (t : Tally). LogsRounds false Search c.args.h.now c.args.task.now c.args.p c.args.tally.now t c.args.log.now c.rounds.log)
    (sym c.in_err-next.ensures.err.1)
    (under_part c.args.h.now c.args.task.now c.args.p c.args.tally.now c.args.log.now c.rounds.counter true c.rounds.part c.rounds.tally c.rounds.log
    c.rounds.invariant.underway)))

pub returns-clause-pass : goal.returns-clause-pass
returns-clause-pass g c =
    under_whole c.args.h.now c.args.task.now c.args.p c.args.tally.now c.args.log.now c.rounds.counter true c.rounds.part c.rounds.tally c.rounds.log
    c.rounds.invariant.underway (inl (let most = c.rounds.auto.counter-end in let all = c.rounds-test.false in omega arith))

pub returns-then-kept-eq0-clause-pass : goal.returns-then-kept-eq0-clause-pass
returns-then-kept-eq0-clause-pass g c =
    under_whole c.args.h.now c.args.task.now c.args.p c.args.tally.now c.args.log.now (c.rounds.counter + 1) false c.in_ok-next.next c.search_round.new.tally
    c.search_round.new.log
    (subst (λ going. IsUnderway c.args.h.now c.args.task.now c.args.p c.args.tally.now c.args.log.now (c.rounds.counter + 1) going c.in_ok-next.next
    c.search_round.new.tally c.search_round.new.log) (ap (nat_lt 0) c.if-kept-eq0.true)
    (under_more c.args.h.now c.args.task.now c.args.p c.args.tally.now c.args.log.now c.rounds.counter true c.rounds.part c.rounds.tally c.rounds.log
    c.rounds.invariant.underway c.rounds-test.true refl (c.is_possible.ensures.0 c.if-not-is_possible.false) c.in_ok-next.next c.search_round.new.tally
    c.search_round.new.log c.in_ok-next.kept c.in_ok-next.ensures.round))
    (inr (inl refl))

pub rounds-preserved : goal.rounds-preserved
rounds-preserved g c =
    let round = c.in_ok-next.ensures.round in
    record {
      underway =
          subst (λ going. IsUnderway c.args.h.now c.args.task.now c.args.p c.args.tally.now c.args.log.now (c.rounds.counter + 1) going c.in_ok-next.next
          c.search_round.new.tally c.search_round.new.log) (lt-ltb 0 c.in_ok-next.kept (let some = c.if-kept-eq0.false in omega arith))
          (under_more c.args.h.now c.args.task.now c.args.p c.args.tally.now c.args.log.now c.rounds.counter true c.rounds.part c.rounds.tally c.rounds.log
          c.rounds.invariant.underway c.rounds-test.true refl (c.is_possible.ensures.0 c.if-not-is_possible.false) c.in_ok-next.next
          c.search_round.new.tally c.search_round.new.log c.in_ok-next.kept round);
      memory =
          subst (λ k. IsMemoryFor k c.search_round.new.memory)
          (sym (ap (λ (x : Parted). x.k) round.logs.logged.leads)) c.in_ok-next.ensures.memory;
      cost = c.in_ok-next.ensures.cost;
    }
