use Rattle.std.proofs.Common.{rules, refl, subst, arith}
use Rattle.std.specs.Fork.{AcceptsAt, ChangesAt}
use Rattle.crew.specs.Chunks.{AllRuns}
use Rattle.crew.proofs.ChunkLaws.{accepts_only, accepts_first, accepts_others, changes_only, changes_both}
use Rattle.crew.proofs.start.+chunks.Goals as goal

pub chunks_from-job-requires : goal.chunks_from-job-requires
chunks_from-job-requires g t c =
    let all = subst (λ n. AllRuns (AcceptsAt g.F.Fn c.args.job.now) c.args.place c.args.size n c.args.items.now) c.if-count-eq1.true c.requires in
    accepts_only (AcceptsAt g.F.Fn c.args.job.now) c.args.place c.args.size c.args.items.now all _ refl

pub chunks_from-returns-then-count-eq1 : goal.chunks_from-returns-then-count-eq1
chunks_from-returns-then-count-eq1 g t c =
    let all = subst (λ n. AllRuns (AcceptsAt g.F.Fn c.args.job.now) c.args.place c.args.size n c.args.items.now) c.if-count-eq1.true c.requires in
    changes_only (ChangesAt g.F.Fn c.args.job.now) c.args.place c.args.size c.args.items.now c.job.new.arg3 (omega (arith, all.within)) (search rules)
    (search rules)

pub chunks_from-beside-requires-clause-first : goal.chunks_from-beside-requires-clause-first
chunks_from-beside-requires-clause-first g t c κs within =
    let cut = c.split_at_mut-first in
    accepts_first (AcceptsAt g.F.Fn c.args.job.now) c.args.place c.args.size c.args.count cut.result.0.now cut.result.1.now c.args.items.now
    cut.ensures.value cut.ensures.front_len c.requires (omega (arith, c.requires.some.0, c.if-count-eq1.false))

pub chunks_from-beside-requires-clause-others : goal.chunks_from-beside-requires-clause-others
chunks_from-beside-requires-clause-others g t c κs within =
    let cut = c.split_at_mut-first in
    accepts_others (AcceptsAt g.F.Fn c.args.job.now) c.args.place c.args.size c.args.count cut.result.0.now cut.result.1.now c.args.items.now
    cut.ensures.value cut.ensures.front_len c.requires (omega (arith, c.requires.some.0, c.if-count-eq1.false))

pub chunks_from-returns : goal.chunks_from-returns
chunks_from-returns g t c =
    let cut = c.split_at_mut-first in
    changes_both (ChangesAt g.F.Fn c.args.job.now) c.args.place c.args.size cut.result.0.now cut.result.1.now c.args.items.now _ _ cut.ensures.value
    cut.ensures.front_len c.requires.some.1 c.beside.ensures.first c.beside.ensures.others
