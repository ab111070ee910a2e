use Rattle.std.proofs.Common.{Result, Ok, Err, OnOk}
use Rattle.std.proofs.lemmas.List.Elements.{All-weaker}
use Rattle.flow_round.specs.Waves.{IsIdle, IsSolved}
use Rattle.flow_round.proofs.FoundLaws.{solved_none, may_have, gains_then}
use Rattle.flow_round.proofs.worker.solve_pairs.Goals as goal

pub solve_all-requires-clause-solved : goal.solve_all-requires-clause-solved
solve_all-requires-clause-solved g c =
    let h = c.args.h.now in
    let p = c.args.p.now in
    λ lfts lives. All-weaker (IsIdle h) (IsSolved h p c.args.wave) (solved_none h p c.args.wave) c.args.workers.now c.requires.workers

pub solve_rest-requires-clause-ends : goal.solve_rest-requires-clause-ends
solve_rest-requires-clause-ends g c κs within =
    may_have c.args.h.now c.args.p.now c.args.wave c.args.ends.now c.hand_all_over.new.ends c.requires.none c.hand_all_over.ensures.ends

on_ok : {T E A B : Type 0} (r : Result T E) → OnOk r A → (A → B) → OnOk r B
on_ok (Ok t) a f = f a
on_ok (Err e) a f = tt

pub returns-clause-ends : goal.returns-clause-ends
returns-clause-ends g c =
    on_ok c.solve_rest.result c.solve_rest.ensures.ends
    (gains_then c.args.h.now c.args.p.now c.args.wave c.args.ends.now c.hand_all_over.new.ends c.solve_rest.new.ends c.hand_all_over.ensures.ends)
