use Rattle.std.proofs.Common.{rules, ◌≡◌, ◌+◌, length, drop, slice_index_or, sym, ap, ◌∙◌, arith}
use Rattle.move_core.specs.Stages.{is_idle}
use Rattle.move_core.specs.declared.account.Stage.TheVariants.{Idle}
use Rattle.move_table.specs.Calls.{RacedPass}
use Rattle.move_table.proofs.GatherLaws.{united_as_before, united_stands, from_end}
use Rattle.move_table.proofs.close.unite.Goals as goal

pub join-requires-clause-first : goal.join-requires-clause-first
join-requires-clause-first c =
    let kept = c.loop-pass.invariant in
    let first = c.into_seat-seat.result.me.0 in
    ap (λ z. z.0.number) kept.3 ∙ (united_as_before first kept.0).number ∙ ap (λ z. z.0.number) c.into_seat-seat.ensures.view
    ∙ ap (λ (p : RacedPass). p.view.number) (c.remove.ensures.value ∙ ap (λ ps. slice_index_or ps 0 c.remove.result) c.into_vec-rest.ensures) ∙
    c.requires.numbers 0 c.remove.result c.requires.some

pub join-requires-clause-resting : goal.join-requires-clause-resting
join-requires-clause-resting c =
    let kept = c.loop-pass.invariant in
    let first = c.into_seat-seat.result.me.0 in
    let before = united_as_before first kept.0 in (
      record {
        live = ap (λ z. z.0.account.live) kept.3 ∙ before.live ∙ ap (λ z. z.0.account.live) c.into_seat-seat.ensures.view ∙ c.into_seat-seat.ensures.live;
        idle = ap is_idle (ap (λ z. z.0.account.stage) kept.3 ∙ before.stage ∙ ap (λ z. z.0.account.stage) c.into_seat-seat.ensures.view ∙
            ap (λ (p : RacedPass). p.view.account.stage) (c.remove.ensures.value ∙ ap (λ ps. slice_index_or ps 0 c.remove.result) c.into_vec-rest.ensures) ∙
            c.requires.idle 0 c.remove.result c.requires.some);
      },
      record {
        live = ap (λ z. z.0.account.live) c.into_seat.ensures.view ∙ c.into_seat.ensures.live;
        idle = ap is_idle (ap (λ z. z.0.account.stage) c.into_seat.ensures.view ∙ from_end (λ (p : RacedPass). p.view.account.stage ≡ Idle) c.args.passes
            c.loop-pass.rest.items c.pop.new.self.items kept.0 c.in-Some.pass c.requires.idle
            (sym (c.remove.ensures.items ∙ ap (drop 1) c.into_vec-rest.ensures) ∙ kept.1) c.in-Some.ensures.items);
      },
    )

pub returns-clause-resting : goal.returns-clause-resting
returns-clause-resting c =
    let kept = c.loop-pass.invariant in
    let first = c.into_seat-seat.result.me.0 in
    let before = united_as_before first kept.0 in
    record {
      live = ap (λ z. z.0.account.live) kept.3 ∙ before.live ∙ ap (λ z. z.0.account.live) c.into_seat-seat.ensures.view ∙ c.into_seat-seat.ensures.live;
      idle = ap is_idle (ap (λ z. z.0.account.stage) kept.3 ∙ before.stage ∙ ap (λ z. z.0.account.stage) c.into_seat-seat.ensures.view ∙
          ap (λ (p : RacedPass). p.view.account.stage) (c.remove.ensures.value ∙ ap (λ ps. slice_index_or ps 0 c.remove.result) c.into_vec-rest.ensures) ∙
          c.requires.idle 0 c.remove.result c.requires.some);
    }

pub returns-clause-alone : goal.returns-clause-alone
returns-clause-alone c =
    let kept = c.loop-pass.invariant in
    let first = c.into_seat-seat.result.me.0 in
    let own : first.stands + first.may ≡ 1 = let v = c.into_seat-seat.ensures.view in let a = c.into_seat-seat.ensures.alone in let s = ap (λ z. z.0.stands)
    v in let m = ap (λ z. z.0.may) v in omega arith in
    let all = united_stands first kept.0 own kept.4 in
    let s = ap (λ z. z.0.stands) kept.3 in
    let m = ap (λ z. z.0.may) kept.3 in
    let wide : length c.args.passes ≡ length kept.0 + 1 = search rules in
    omega arith
