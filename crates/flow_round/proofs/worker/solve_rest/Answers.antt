use Rattle.std.proofs.Common.{◌≡◌, ◌<◌, ◌+◌, ◌-◌, ◌*◌, ◌∙◌, ℕ, true, not, List, All, Option, None, length, map, take, get_or, slice_set, slice_index_or, is_some}
use Rattle.std.proofs.Common.{length-set, sym, ap, subst, arith}
use Rattle.std.proofs.lemmas.List.{get_or-map, length-map, take_all}
use Rattle.std.proofs.lemmas.List.Elements.{All-more, All-contains}
use Rattle.std.specs.declared.cmp.Reverse.{Reverse}
use Rattle.flow_pair.specs.declared.solve.PairEnd.{PairEnd}
use Rattle.flow_round.specs.declared.worker.Found.{Found}
use Rattle.flow_round.specs.Waves.{IsFound, MayHaveEnds, end_at}
use Rattle.flow_round.proofs.FoundLaws.{HasTurn, pair_at, gains_all, has_turn, written_more, written_here, written_may, written_other}
use Rattle.flow_round.proofs.WaveLaws.{IsOfWave}
use Rattle.flow_round.proofs.worker.solve_rest.Goals as goal
use Rattle.flow_round.proofs.worker.solve_rest.Goals.{then-is_none+in_ok-end, else-is_none}

abbrev first_of : Reverse (ℕ × ℕ) × ℕ → ℕ
first_of pair = pair.1

pub overflow_sub-second : goal.overflow_sub-second
overflow_sub-second g c =
    let sum = (pair_at first_of c.args.p.now.k c.args.wave c.args.pairs.now c.loop-pair.pair-index (record { 0 = (0, 0) }, 0) c.loop-pair-test.true
    c.requires.pairs.wave).1 in
    omega (arith, sum)

pub place_of-place-requires-clause-first : goal.place_of-place-requires-clause-first
place_of-place-requires-clause-first g c =
    let below = (pair_at first_of c.args.p.now.k c.args.wave c.args.pairs.now c.loop-pair.pair-index (record { 0 = (0, 0) }, 0) c.loop-pair-test.true
    c.requires.pairs.wave).0 in
    let a = below.order in
    let b = below.below in
    let k = c.k-k.ensures in
    omega arith

pub place_of-place-requires-clause-second : goal.place_of-place-requires-clause-second
place_of-place-requires-clause-second g c =
    let below = (pair_at first_of c.args.p.now.k c.args.wave c.args.pairs.now c.loop-pair.pair-index (record { 0 = (0, 0) }, 0) c.loop-pair-test.true
    c.requires.pairs.wave).0 in
    let b = below.below in
    let k = c.k-k.ensures in
    omega arith

pub solve_pair-requires-clause-below : goal.solve_pair-requires-clause-below
solve_pair-requires-clause-below g c κs within =
    (pair_at first_of c.args.p.now.k c.args.wave c.args.pairs.now c.loop-pair.pair-index (record { 0 = (0, 0) }, 0) c.loop-pair-test.true
    c.requires.pairs.wave).0

pub loop-pair-preserved : goal.loop-pair-preserved
loop-pair-preserved g c =
    let h = c.args.h.now in
    let p = c.args.p.now in
    let s = c.args.wave in
    let pairs = c.args.pairs.now in
    let firsts = map first_of pairs in
    let at = c.loop-pair.pair-index in
    let ends = c.loop-pair.ends in
    let i = c.loop-pair.invariant in
    let a = (get_or pairs at (record { 0 = (0, 0) }, 0)).1 in
    let of_wave : IsOfWave p.k s (a, s - a) = pair_at first_of p.k s pairs at (record { 0 = (0, 0) }, 0) c.loop-pair-test.true c.requires.pairs.wave in
    let low : at < length firsts = (let m = length-map pairs first_of in let l = c.loop-pair-test.true in omega (arith, m, l)) in
    let is = get_or-map first_of pairs at (record { 0 = (0, 0) }, 0) 0 c.loop-pair-test.true in
    let place = c.place_of-place.ensures.value ∙ ap (λ k. a * k + (s - a)) c.k-k.ensures in
    elim c.if-is_none.branch [
      | then-is_none+in_ok-end w ↦
          let end = w.in_ok-end.end in
          let t : Found = record { first = a; second = s - a; end = end } in
          let of_s : IsFound p.k s t = record { below = of_wave.0; sum = of_wave.1 } in
          let done = w.in_ok-end.ensures.turn in
          let put : c.if-is_none.ends ≡ slice_set ends (a * p.k + (s - a)) end = w.ends-is ∙ w.put_end.ensures ∙ ap (λ n. slice_set ends n end) place in
          record {
            solver = w.solver-is ∙ w.solve_pair.ensures.solver ∙ i.solver;
            table = ap length put ∙ length-set ends (a * p.k + (s - a)) end ∙ i.table;
            may = subst (MayHaveEnds h p s) (sym put) (written_may h p s ends t i.table of_s done i.may);
            others = λ x b n. subst (λ (es : List (Option PairEnd)). end_at p.k es x ≡ end_at p.k ends x) (sym put)
                (written_other h p s ends t i.table of_s done x b n) ∙ i.others x b n;
            have = subst (λ (es : List (Option PairEnd)). All (HasTurn h p s es) (take (at + 1) firsts)) (sym put)
                (All-more (HasTurn h p s (slice_set ends (a * p.k + (s - a)) end)) firsts at 0 low
                (written_more h p s ends t i.table of_s done (take at firsts) i.have)
                (subst (HasTurn h p s (slice_set ends (a * p.k + (s - a)) end)) (sym is) (of_wave.0, written_here h p s ends t i.table of_s done)));
          }
      | else-is_none w ↦
          let same : c.if-is_none.ends ≡ ends = w.ends-is in
          let end_is : c.end_of.result.now ≡ end_at p.k ends (a, s - a) = c.end_of.ensures ∙ ap (λ n. slice_index_or ends n None) place in
          let some : is_some (end_at p.k ends (a, s - a)) ≡ true = ap is_some (sym end_is) ∙ c.is_none.ensures ∙ ap not w.if-is_none.false in
          record {
            solver = w.solver-is ∙ i.solver;
            table = ap length same ∙ i.table;
            may = subst (MayHaveEnds h p s) (sym same) i.may;
            others = λ x b n. ap (λ (es : List (Option PairEnd)). end_at p.k es x) same ∙ i.others x b n;
            have = subst (λ (es : List (Option PairEnd)). All (HasTurn h p s es) (take (at + 1) firsts)) (sym same)
                (All-more (HasTurn h p s ends) firsts at 0 low i.have
                (subst (HasTurn h p s ends) (sym is) (has_turn h p s a ends of_wave.0 of_wave.1 i.may some)));
          }
    ]

pub returns-clause-ends : goal.returns-clause-ends
returns-clause-ends g c =
    let h = c.args.h.now in
    let p = c.args.p.now in
    let s = c.args.wave in
    let pairs = c.args.pairs.now in
    let firsts = map first_of pairs in
    let ends = c.loop-pair.ends in
    let i = c.loop-pair.invariant in
    let all = subst (All (HasTurn h p s ends))
    (take_all c.loop-pair.pair-index firsts (let m = length-map pairs first_of in let l = c.loop-pair-test.false in omega (arith, m, l))) i.have in
    gains_all h p s c.args.ends.now ends firsts c.requires.pairs i.may i.others (λ a d. (All-contains (HasTurn h p s ends) firsts a all d).1)
