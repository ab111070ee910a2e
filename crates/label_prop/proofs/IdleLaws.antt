-- Laws of a pass between two steps of its worker.
use Rattle.std.proofs.Common.{◌≡◌, ℕ, sym, subst}
use Rattle.move_core.specs.declared.events.Event.TheVariants.{Peek}
use Rattle.move_core.specs.declared.events.Word.{Word}
use Rattle.move_table.specs.Calls.{RacedRound, RacedPass, stepped}
use Rattle.label_prop.specs.Workers.{IsIdlePass}

-- a peek leaves the pass as it was, but for its count of steps
pub peeked : (r : RacedRound) (i : ℕ) (p q : RacedPass) (j : ℕ) (w : Word) (n : ℕ) → IsIdlePass r i p → q ≡ stepped (Peek j w) n p → IsIdlePass r i q
peeked r i p q j w n s e =
    subst (IsIdlePass r i) (sym e) (record {
      belongs = record { same_table = s.belongs.same_table; same_terms = s.belongs.same_terms };
      numbered = s.numbered;
      idle = s.idle;
    })
