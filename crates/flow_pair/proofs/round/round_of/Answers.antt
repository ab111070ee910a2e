use Rattle.std.proofs.Common.{◌∙◌, List, [], ◌∷◌, ◌++◌, ℤ, refl, ap, ap₂, arith, nat_abs}
use Rattle.std.proofs.lemmas.Int.{ints}
use Rattle.hg_defs.specs.declared.moves.Move.{Move}
use Rattle.hg_defs.specs.Sums.{total_z}
use Rattle.flow_pair.proofs.ChangeLaws.{saved_is, gain_is, after_is}
use Rattle.flow_pair.proofs.round.round_of.Goals as goal

pub overflow_cast-saved : goal.overflow_cast-saved
overflow_cast-saved c =
    let s = c.requires.saved in
    let saved = c.saved_by-saved.ensures ∙ ap (total_z (λ (m : Move). m.booked)) c.slice.ensures ∙ s.2 in
    rw (saved_is c.saved_by-saved.result c.args.before s.0 saved c.requires.small s.1) (omega (arith, ints))

pub overflow_sub-after : goal.overflow_sub-after
overflow_sub-after c =
    let s = c.requires.saved in
    let less = s.1 in
    let saved = c.saved_by-saved.ensures ∙ ap (total_z (λ (m : Move). m.booked)) c.slice.ensures ∙ s.2 in
    let from = c.from.ensures in
    omega (arith, ints)

pub overflow_cast-after : goal.overflow_cast-after
overflow_cast-after c =
    let s = c.requires.saved in
    let less = s.1 in
    let saved = c.saved_by-saved.ensures ∙ ap (total_z (λ (m : Move). m.booked)) c.slice.ensures ∙ s.2 in
    rw (after_is c.from.result c.saved_by-saved.result c.args.before s.0 c.from.ensures saved c.requires.small less)
    (omega (arith, ints), omega (arith, ints))

pub returns : goal.returns
returns c =
    let s = c.requires.saved in
    let booked = c.saved_by-saved.ensures ∙ ap (total_z (λ (m : Move). m.booked)) c.slice.ensures in
    let saved = booked ∙ s.2 in
    let made = ap nat_abs (after_is c.from.result c.saved_by-saved.result c.args.before s.0 c.from.ensures saved c.requires.small s.1) in
    let total = s.2 in
    record {
      kind = refl;
      level_is = refl;
      moves_are = refl;
      kept = c.len-kept.ensures;
      gains = c.in_ok-push.ensures.ok ∙ ap₂ (λ (xs : List ℤ) (x : ℤ). xs ++ x ∷ []) c.new-gains.ensures
          (gain_is c.saved_by-saved.result c.args.before s.0 saved c.requires.small s.1 ∙ booked);
      before_is = refl;
      made = rw made (omega (arith, ints));
      after = refl;
      first = refl;
      second = refl;
      region = c.in_ok-region.ensures;
      value = refl;
      untabled = refl;
    }
