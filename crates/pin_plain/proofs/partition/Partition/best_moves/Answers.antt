use Rattle.std.proofs.Common.{◌∙◌, ◌++◌, ◌∷◌, ℕ, [], option_map, slice_index, ap, sym, arith}
use Rattle.std.specs.declared.cmp.Reverse.{Reverse}
use Rattle.pin_plain.proofs.RankLaws.{ranked_is, best_none, best_some, best_all}
use Rattle.pin_plain.proofs.partition.Partition.best_moves.Goals as goal

pub loop-v-preserved-in_default : goal.loop-v-preserved-in_default
loop-v-preserved-in_default c =
    let p = c.args.self.now in
    record {
      clear = c.best_move.ensures.clear;
      rest = best_none c.args.h.now p.k p.limit p.blocks c.args.listed.now c.loop-v.v-index c.loop-v.best.items _ c.loop-v-test.true
          (sym c.best_move.ensures.best ∙ ap (option_map (λ (m : ℕ × ℕ). m.0)) c.in_default.is) c.loop-v.invariant.rest;
    }

pub loop-v-preserved : goal.loop-v-preserved
loop-v-preserved c =
    let p = c.args.self.now in
    let v = slice_index c.args.listed.now c.loop-v.v-index in
    record {
      clear = c.best_move.ensures.clear;
      rest = best_some c.args.h.now p.k p.limit p.blocks c.args.listed.now c.loop-v.v-index c.in-Some.block c.loop-v.best.items _ _ c.loop-v-test.true
          (sym c.in-Some.ensures.best)
          (c.in_ok-push.ensures.items ∙ ap (λ (r : Reverse ℕ × ℕ × ℕ). c.loop-v.best.items ++ r ∷ [])
          (ranked_is c.args.h.now p.blocks v c.in-Some.block c.in-Some.gain c.in-Some.ensures.gain)) c.loop-v.invariant.rest;
    }

pub returns : goal.returns
returns c =
    let p = c.args.self.now in
    best_all c.args.h.now p.k p.limit p.blocks c.args.listed.now c.loop-v.v-index c.loop-v.best.items _ (omega (arith, c.loop-v-test.false))
    c.loop-v.invariant.rest
