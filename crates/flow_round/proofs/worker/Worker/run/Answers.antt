use Rattle.std.proofs.Common.{◌<◌, ◌+◌, ◌%◌, ℕ, length, sym, subst, arith}
use Rattle.std.specs.declared.cmp.Reverse.{Reverse}
use Rattle.flow_round.specs.Waves.{IsSolved}
use Rattle.flow_round.proofs.FoundLaws.{pair_at}
use Rattle.flow_round.proofs.worker.Worker.run.Goals as goal

abbrev first_of : Reverse (ℕ × ℕ) × ℕ → ℕ
first_of pair = pair.1

pub overflow_sub-second : goal.overflow_sub-second
overflow_sub-second g c =
    let pairs = c.args.pairs.now in
    let at = c.fetch_add-place.result in
    let low : at < length pairs = (let f = c.if-place-pairs.false in omega arith) in
    let sum = (pair_at first_of c.args.p.now.k c.args.wave pairs at (record { 0 = (0, 0) }, 0) low c.requires.wave).1 in
    omega (arith, sum)

pub solve-requires-clause-below : goal.solve-requires-clause-below
solve-requires-clause-below g c κs within =
    let pairs = c.args.pairs.now in
    let at = c.fetch_add-place.result in
    let low : at < length pairs = (let f = c.if-place-pairs.false in omega arith) in
    (pair_at first_of c.args.p.now.k c.args.wave pairs at (record { 0 = (0, 0) }, 0) low c.requires.wave).0

pub solve-requires-clause-solved : goal.solve-requires-clause-solved
solve-requires-clause-solved g c κs within =
    let pairs = c.args.pairs.now in
    let at = c.fetch_add-place.result in
    let low : at < length pairs = (let f = c.if-place-pairs.false in omega arith) in
    let sum = (pair_at first_of c.args.p.now.k c.args.wave pairs at (record { 0 = (0, 0) }, 0) low c.requires.wave).1 in
    let i = c.loop.invariant in
    subst (λ n. IsSolved c.args.h.now c.args.p.now n (record c.loop.self { turn = (c.loop.self.turn + 1) % 18446744073709551616 })) (sym sum)
    (record { solver_is = i.solver_is; found_are = i.found_are; done = i.done })

pub returns-then-is_err : goal.returns-then-is_err
returns-then-is_err g c =
    let pairs = c.args.pairs.now in
    let at = c.fetch_add-place.result in
    let low : at < length pairs = (let f = c.if-place-pairs.false in omega arith) in
    let sum = (pair_at first_of c.args.p.now.k c.args.wave pairs at (record { 0 = (0, 0) }, 0) low c.requires.wave).1 in
    subst (λ n. IsSolved c.args.h.now c.args.p.now n c.solve.new.self) sum c.solve.ensures

pub loop-preserved : goal.loop-preserved
loop-preserved g c =
    let pairs = c.args.pairs.now in
    let at = c.fetch_add-place.result in
    let low : at < length pairs = (let f = c.if-place-pairs.false in omega arith) in
    let sum = (pair_at first_of c.args.p.now.k c.args.wave pairs at (record { 0 = (0, 0) }, 0) low c.requires.wave).1 in
    subst (λ n. IsSolved c.args.h.now c.args.p.now n c.solve.new.self) sum c.solve.ensures
