use Rattle.std.proofs.Common.{◌∙◌, List, sym, Option, length, ap, subst, arith}
use Rattle.flow_pair.specs.declared.solve.PairEnd.{PairEnd}
use Rattle.flow_round.specs.PairTurns.{wave}
use Rattle.flow_round.specs.Fronts.{TakesPairs}
use Rattle.flow_round.specs.Waves.{GainsEnds, HaveEnds, end_at}
use Rattle.flow_round.proofs.FrontLaws.{waves_taken, none_later}
use Rattle.flow_round.proofs.TableLaws.{written_back}
use Rattle.flow_round.proofs.front.Front.take_waves.Goals as goal

pub loop-wave-preserved : goal.loop-wave-preserved
loop-wave-preserved g c =
    let h = c.args.h.now in
    let old = c.args.self.now in
    let now = c.loop-wave.self in
    let next = c.take_wave.new.self in
    let s = c.loop-wave.wave in
    let mid = c.solve_wave.new.ends in
    let long = c.solve_wave.auto.ends in
    let kept = c.as_mut_slice.ensures.len in
    let same = ap length c.as_mut_slice.ensures.value in
    let back = written_back now.ends.len mid _ (omega arith) in
    let gained = subst (λ (es : List (Option PairEnd)). GainsEnds h now.part s es mid) c.as_mut_slice.ensures.value c.in_ok-solve_wave.ensures.ends in
    let ends = c.in_ok-take_wave.ensures.ends ∙ back in
    let pairs : TakesPairs h (wave now.part.k s) now next = record {
      same = c.in_ok-take_wave.ensures.turns.same;
      turns = c.in_ok-take_wave.ensures.turns.turns;
      booked = c.in_ok-take_wave.ensures.turns.booked;
      others = c.in_ok-take_wave.ensures.turns.others;
    } in
    record {
      front = c.in_ok-take_wave.ensures.front;
      taken = waves_taken h old now next mid s c.loop-wave.auto.wave c.loop-wave.invariant.taken gained pairs ends;
      none = none_later h old now next mid s c.loop-wave.auto.wave c.loop-wave.invariant.taken gained pairs ends c.loop-wave.invariant.none;
      working = c.in_ok-solve_wave.ensures.workers;
    }

pub solve_wave-requires-clause-none : goal.solve_wave-requires-clause-none
solve_wave-requires-clause-none g c =
    λ lfts lives x bx sum. ap (λ (es : List (Option PairEnd)). end_at c.loop-wave.self.part.k es x) c.as_mut_slice.ensures.value
    ∙ c.loop-wave.invariant.none x bx (omega arith)

pub take_wave-requires-clause-ends : goal.take_wave-requires-clause-ends
take_wave-requires-clause-ends g c =
    let now = c.loop-wave.self in
    let long = c.solve_wave.auto.ends in
    let kept = c.as_mut_slice.ensures.len in
    let same = ap length c.as_mut_slice.ensures.value in
    let back = written_back now.ends.len c.solve_wave.new.ends _ (omega arith) in
    subst (HaveEnds c.args.h.now now.part c.loop-wave.wave) (sym back) c.in_ok-solve_wave.ensures.ends.ends
