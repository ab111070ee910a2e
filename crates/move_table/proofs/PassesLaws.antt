-- Passes that were called are the passes of their round still.
use Rattle.std.proofs.Common.{◌≡◌, ℕ, zero, suc, ◌<◌, List, [], ◌∷◌, length, slice_index_or, subst, sym, arith}
use Rattle.move_core.specs.declared.account.Stage.TheVariants.{Idle}
use Rattle.move_table.specs.Calls.{RacedRound, RacedPass, IsPassOf}
use Rattle.move_table.specs.Closing.{ArePassesOf}

-- a pass of the round with this number, which holds no grant
pub record IsIdlePass (r : RacedRound) (i : ℕ) (p : RacedPass) : Type 0 where
  pub belongs : IsPassOf r p
  pub idle : p.view.account.stage ≡ Idle
  pub number : p.view.number ≡ i

pub passes_of : (r : RacedRound) (ps : List RacedPass) → length ps ≡ r.terms.workers →
    ((i : ℕ) (p : RacedPass) → i < length ps → IsIdlePass r i (slice_index_or ps i p)) → ArePassesOf r ps
passes_of r ps all each = record {
  all = all;
  each = λ i p l. (each i p l).belongs;
  numbers = λ i p l. (each i p l).number;
  idle = λ i p l. (each i p l).idle;
}

pub two_passes : (r : RacedRound) (ps : List RacedPass) (p q : RacedPass) → ps ≡ p ∷ q ∷ [] → r.terms.workers ≡ 2 → IsIdlePass r 0 p → IsIdlePass r 1 q →
    ArePassesOf r ps
two_passes r ps p q e two first second = subst (ArePassesOf r) (sym e) (passes_of r (p ∷ q ∷ []) (sym two) each)
  where
    each : (i : ℕ) (d : RacedPass) → i < 2 → IsIdlePass r i (slice_index_or (p ∷ q ∷ []) i d)
    each zero d l = first
    each (suc zero) d l = second
    each (suc (suc i)) d l = absurd (omega arith)

-- what is the round and its passes by other names is so still
pub same_passes : {r s : RacedRound} {ps qs : List RacedPass} → r ≡ s → ps ≡ qs → ArePassesOf s qs → ArePassesOf r ps
same_passes {r} {s} {ps} {qs} e f h = subst (λ z. ArePassesOf z ps) (sym e) (subst (ArePassesOf s) (sym f) h)
