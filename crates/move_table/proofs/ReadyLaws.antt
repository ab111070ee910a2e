-- A pass is ready for an event whose word exists.
use Rattle.std.proofs.Common.{◌≡◌, ℕ, true, sym, subst, arith}
use Rattle.atomic_table.specs.Seated.{TableId}
use Rattle.move_core.specs.declared.events.Event.{Event}
use Rattle.move_core.specs.Events.{pass_of, word_of, may_step}
use Rattle.move_table.specs.declared.view.Terms.{Terms}
use Rattle.move_table.specs.declared.view.View.{View}
use Rattle.move_table.specs.Places.{word_place, word_count}
use Rattle.move_table.specs.Standing.{terms_setup}
use Rattle.move_table.specs.Steps.{IsReady}
use Rattle.move_table.proofs.PlaceLaws.{Exists, place-below}

pub ready : (table : TableId) (t : Terms) (v : View) (x : Event) (i : ℕ) → table.words ≡ word_count (terms_setup t) → v.terms ≡ t → v.account.live ≡ true →
    pass_of x ≡ v.number → may_step (terms_setup t) x v.account ≡ true → Exists (terms_setup t) (word_of (terms_setup t) x v.account) →
    i ≡ word_place (terms_setup t) (word_of (terms_setup t) x v.account) → IsReady table t v x i
ready table t v x i wide same live number may there place =
    let P : Terms → Type 0 = λ z. may_step (terms_setup z) x v.account ≡ true in
    let Q : Terms → Type 0 = λ z. i ≡ word_place (terms_setup z) (word_of (terms_setup z) x v.account) in
    let below = place-below (terms_setup t) (word_of (terms_setup t) x v.account) there in
    record {
      terms = same;
      live = live;
      number = number;
      may = subst P (sym same) may;
      within = omega arith;
      place = subst Q (sym same) place;
    }
