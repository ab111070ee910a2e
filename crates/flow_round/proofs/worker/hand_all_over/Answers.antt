use Rattle.std.proofs.Common.{◌≡◌, ◌⊎◌, ◌<◌, ◌∙◌, ℕ, length, get_or, sym, subst, arith}
use Rattle.std.proofs.Common.{length-set, get_or-set_other}
use Rattle.flow_round.specs.declared.worker.Worker.{Worker}
use Rattle.flow_round.specs.PairTurns.{IsPairBelow}
use Rattle.flow_round.specs.Waves.{IsIdle, IsSolved, HasEnd, end_at}
use Rattle.flow_round.proofs.FoundLaws.{gain_more, idle_more}
use Rattle.flow_round.proofs.worker.hand_all_over.Goals as goal

pub loop-worker-preserved : goal.loop-worker-preserved
loop-worker-preserved c =
    let h = c.args.h.now in
    let p = c.args.p.now in
    let s = c.args.wave in
    let workers = c.loop-worker.workers in
    let old = c.args.workers.now in
    let at = c.loop-worker.worker-index in
    let ends = c.loop-worker.ends in
    let more = c.hand_over.new.ends in
    let now = c.hand_over.new.self in
    let i = c.loop-worker.invariant in
    let d = c.worker-item.result in
    let low : at < length workers = (let n = i.count in let t = c.loop-worker-test.true in omega (arith, n, t)) in
    let low_old : at < length old = (let n = i.count in omega (arith, n, low)) in
    let is : (e : Worker) → get_or workers at e ≡ get_or old at e = λ e. i.rest at e (omega arith) low in
    let was = get_or workers at d in
    let solved = c.requires.solved in
    let mine = subst (IsSolved h p s) (sym (is d)) (solved at d low_old) in
    let told = subst (λ k. (x : ℕ × ℕ) → IsPairBelow k x → (end_at k more x ≡ end_at k ends x) ⊎ HasEnd was.found.items x (end_at k more x))
    c.k-k.ensures c.hand_over.ensures.ends in
    let idle : IsIdle h now = record { solver_is = c.hand_over.ensures.solver ∙ mine.solver_is; none = c.hand_over.ensures.idle } in
    record {
      table = c.hand_over.auto.ends ∙ i.table;
      count = length-set workers at now ∙ i.count;
      passed = idle_more h workers at now low idle i.passed;
      rest = λ j e l m. get_or-set_other workers at j now e (λ x. absurd (omega (arith, l, x))) ∙ i.rest j e (omega (arith, l)) (let n = length-set workers at
          now in omega (arith, m, n));
      gained = gain_more h p s c.args.ends.now ends more was.found.items mine.found_are mine.done told i.gained;
    }
