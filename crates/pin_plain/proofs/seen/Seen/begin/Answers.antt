use Rattle.std.proofs.Common.{◌+◌, refl, sym, subst}
use Rattle.pin_plain.specs.Scores.{IsBefore}
use Rattle.pin_plain.proofs.TallyLaws.{before_zeros, before_more, none_marked}
use Rattle.pin_plain.proofs.seen.Seen.begin.Goals as goal
use Rattle.pin_plain.proofs.seen.Seen.begin.Goals.{then-self, else-self}

pub invariant_of-self : goal.invariant_of-self
invariant_of-self c =
    elim c.if-self.branch [
      | then-self w ↦ subst (λ t. IsBefore t.last (t.net + 1 + 1)) (sym w.self-inside-is) (before_zeros 256 1 refl)
      | else-self w ↦ subst (λ t. IsBefore t.last (t.net + 1 + 1)) (sym w.self-inside-is) (before_more c.self.inside.last (c.self.inside.net + 1)
          c.self.invariant)
    ]

pub returns : goal.returns
returns c b l =
    none_marked c.if-self.self-inside.last (c.if-self.self-inside.net + 1) b
    (elim c.if-self.branch [
      | then-self w ↦ subst (λ t. IsBefore t.last (t.net + 1)) (sym w.self-inside-is) (before_zeros 256 0 refl)
      | else-self w ↦ subst (λ t. IsBefore t.last (t.net + 1)) (sym w.self-inside-is) c.self.invariant
    ]) l
