use Rattle.std.proofs.Common.{◌≡◌, ◌-◌, ◌+◌, ◌∙◌, MatchOption, true, false, sym, ap, subst, arith}
use Rattle.hg_defs.specs.Hypergraph.{Hyper, IsHypergraph}
use Rattle.hg_defs.specs.Partition.{IsPartition}
use Rattle.pin_plain.specs.Parted.{Parted}
use Rattle.flow_round.specs.declared.front.Front.{Front}
use Rattle.flow_round.specs.PairTurns.{IsPairBelow, IsTurn, is_of_wave}
use Rattle.flow_round.specs.Fronts.{IsFront, TakesPairs}
use Rattle.flow_round.specs.Waves.{end_at}
use Rattle.flow_round.proofs.FrontLaws.{TakesPair, HaveLaterEnds, wave_below, wave_below-out, taken_more, rest_more}
use Rattle.flow_round.proofs.WaveLaws.{wave_is}
use Rattle.flow_round.proofs.front.Front.take_wave.Goals as goal
use Rattle.flow_round.proofs.front.Front.take_wave.Goals.{in-Some+in_ok-apply, in_default}

pub apply-requires-clause-turn : goal.apply-requires-clause-turn
apply-requires-clause-turn c =
    let t = c.in-Some.ensures in
    let k = c.k-k.ensures ∙ ap (λ (x : Parted). x.k) (sym c.loop-a.invariant.taken.same) in
    let w = wave_is c.k-k.result c.args.wave c.loop-a.a t.0 in
    let now = c.loop-a.self in
    let below = subst (λ n. IsPairBelow n (c.loop-a.a, c.args.wave - c.loop-a.a)) k w.0 in
    subst (λ b. IsTurn c.args.h.now now.part.k now.part.limit now.part.blocks (c.loop-a.a, b) (end_at now.part.k now.ends.items (c.loop-a.a, b)))
    (sym t.1) (c.loop-a.invariant.rest (c.loop-a.a, c.args.wave - c.loop-a.a) below w.1 (omega arith))

pub loop-a-preserved : goal.loop-a-preserved
loop-a-preserved c = elim c.match-partner_of.branch [
  | in-Some+in_ok-apply w ↦
      let h = c.args.h.now in
      let old = c.args.self.now in
      let now = c.loop-a.self in
      let next = w.apply.new.self in
      let a = c.loop-a.a in
      let b = w.in-Some.b in
      let e = w.in_ok-apply.ensures in
      let parted = c.blocks-blocks.ensures.parted in
      let sound = subst IsHypergraph c.loop-a.invariant.front.belongs parted.sound in
      let whole = subst (λ (x : Hyper). IsPartition x now.part.k now.part.blocks) c.loop-a.invariant.front.belongs parted.partition in
      let t : is_of_wave old.part.k c.args.wave a ≡ true = subst (λ k. is_of_wave k c.args.wave a ≡ true) c.k-k.ensures w.in-Some.ensures.0 in
      let k = c.k-k.ensures ∙ ap (λ (x : Parted). x.k) (sym c.loop-a.invariant.taken.same) in
      let of_wave = wave_is c.k-k.result c.args.wave a w.in-Some.ensures.0 in
      let below = subst (λ n. IsPairBelow n (a, c.args.wave - a)) k of_wave.0 in
      let pair : TakesPair h now next a b = record {
        turn = subst (λ c. IsTurn h now.part.k now.part.limit now.part.blocks (a, c) (end_at now.part.k now.ends.items (a, c))) (sym w.in-Some.ensures.1)
            (c.loop-a.invariant.rest (a, c.args.wave - a) below of_wave.1 (omega arith));
        part = e.part;
        ends = e.ends;
        booked = e.booked;
        others = e.others;
      } in
      let is = sym w.self-is in
      record {
        front = subst (IsFront h) is e.front;
        taken = subst (TakesPairs h (wave_below old.part.k c.args.wave (a + 1)) old) is
            (taken_more h old now next c.args.wave a b sound t w.in-Some.ensures.1 c.loop-a.invariant.taken pair);
        rest = subst (λ (z : Front). HaveLaterEnds h z.part c.args.wave (a + 1) z.ends.items) is
            (rest_more h old now next c.args.wave a b sound t w.in-Some.ensures.1 c.loop-a.invariant.taken pair whole c.loop-a.invariant.front.fits
            c.loop-a.invariant.rest);
        ends = subst (λ (z : Front). z.ends.items ≡ old.ends.items) is (e.ends ∙ c.loop-a.invariant.ends);
      }
  | in_default w ↦
      let h = c.args.h.now in
      let old = c.args.self.now in
      let now = c.loop-a.self in
      let a = c.loop-a.a in
      let is = sym w.self-is in
      let told = subst (λ r. MatchOption r (is_of_wave c.k-k.result c.args.wave a ≡ false) (λ b. (is_of_wave c.k-k.result c.args.wave a ≡ true) ×
      (b ≡ c.args.wave - a))) w.in_default.is c.partner_of.ensures in
      let t : is_of_wave old.part.k c.args.wave a ≡ false = subst (λ k. is_of_wave k c.args.wave a ≡ false) c.k-k.ensures told in
      record {
        front = subst (IsFront h) is c.loop-a.invariant.front;
        taken = subst (TakesPairs h (wave_below old.part.k c.args.wave (a + 1)) old) is
            (subst (λ xs. TakesPairs h xs old now) (sym (wave_below-out old.part.k c.args.wave a t)) c.loop-a.invariant.taken);
        rest = subst (λ (z : Front). HaveLaterEnds h z.part c.args.wave (a + 1) z.ends.items) is
            (λ x bx sum low. c.loop-a.invariant.rest x bx sum (omega arith));
        ends = subst (λ (z : Front). z.ends.items ≡ old.ends.items) is c.loop-a.invariant.ends;
      }
]
