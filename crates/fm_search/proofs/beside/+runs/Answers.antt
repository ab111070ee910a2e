use Rattle.std.proofs.Common.{◌≤◌, length, rules, subst, arith}
use Rattle.std.specs.Fork.{AcceptsAt, ChangesAt}
use Rattle.crew.specs.Chunks.{AllRuns}
use Rattle.crew.proofs.ChunkLaws.{accepts_only, accepts_first, accepts_others, changes_only}
use Rattle.fm_search.proofs.BesideLaws.{changes_more}
use Rattle.fm_search.proofs.beside.+runs.Goals as goal

pub join_mut-requires-after_bounds : goal.join_mut-requires-after_bounds
join_mut-requires-after_bounds g t c κs within =
    let all = subst (λ n. AllRuns (AcceptsAt g.F.Fn c.args.job.now) c.args.place c.args.size n c.args.items.now) c.if-count-eq1.true c.requires.items in
    (accepts_only (AcceptsAt g.F.Fn c.args.job.now) c.args.place c.args.size c.args.items.now all, c.requires.own)

pub returns-then-count-eq1-clause-items : goal.returns-then-count-eq1-clause-items
returns-then-count-eq1-clause-items g t c =
    let all = subst (λ n. AllRuns (AcceptsAt g.F.Fn c.args.job.now) c.args.place c.args.size n c.args.items.now) c.if-count-eq1.true c.requires.items in
    let only = changes_only (ChangesAt g.F.Fn c.args.job.now) c.args.place c.args.size c.args.items.now in
    let short : length c.args.items.now ≤ c.args.size = omega (arith, all.within) in
    search (rules, only)

pub join_mut-requires-2-after_bounds : goal.join_mut-requires-2-after_bounds
join_mut-requires-2-after_bounds g t c κs within =
    let cut = c.split_at_mut-first in
    let one = accepts_first (AcceptsAt g.F.Fn c.args.job.now) c.args.place c.args.size c.args.count cut.result.0.now cut.result.1.now c.args.items.now
    cut.ensures.value cut.ensures.front_len c.requires.items (omega (arith, c.requires.items.some.0, c.if-count-eq1.false)) in
    let others = accepts_others (AcceptsAt g.F.Fn c.args.job.now) c.args.place c.args.size c.args.count cut.result.0.now cut.result.1.now c.args.items.now
    cut.ensures.value cut.ensures.front_len c.requires.items (omega (arith, c.requires.items.some.0, c.if-count-eq1.false)) in
    (accepts_only (AcceptsAt g.F.Fn c.args.job.now) c.args.place c.args.size cut.result.0.now one, search rules)

pub returns-clause-items : goal.returns-clause-items
returns-clause-items g t c =
    let cut = c.split_at_mut-first in
    let more = changes_more (ChangesAt g.F.Fn c.args.job.now) c.args.place c.args.size cut.result.0.now cut.result.1.now c.args.items.now in
    search (rules, more)
