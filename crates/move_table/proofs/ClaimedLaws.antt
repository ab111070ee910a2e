-- What a pass has after a claim.
use Rattle.std.proofs.Common.{◌≡◌, ℕ, ◌<◌, Bool, true, false, nat_eq, nat_cmp, if◌then◌else◌, zero, suc, refl, sym, subst, arith}
use Rattle.std.specs.BTreeSet.{insert_key}
use Rattle.std.proofs.lemmas.Bool.{eq-eqb}
use Rattle.hg_defs.proofs.SumLaws.{weight_if-same}
use Rattle.move_core.specs.declared.account.Account.{Account}
use Rattle.move_core.specs.State.{times}
use Rattle.move_core.specs.Events.{claimed}
use Rattle.move_core.proofs.TimesLaws.{times-insert_key}
use Rattle.move_table.specs.Seen.{IsClaimRead}
use Rattle.move_table.specs.Calls.{IsHeldUnmoved}

pub claimed_stage : (v found : ℕ) (a : Account) → (claimed v found a).stage ≡ a.stage
claimed_stage v found a = by (nat_eq found 0)
  where
    by : (z : Bool) → (if z then record a { held = insert_key nat_cmp a.held v } else a).stage ≡ a.stage
    by true = refl
    by false = refl

pub claimed_held : (v found : ℕ) (a : Account) → IsClaimRead a v found → found ≡ 0 → IsHeldUnmoved (claimed v found a) v
claimed_held v found a h zeroed =
    subst (λ z. IsHeldUnmoved (if z then record a { held = insert_key nat_cmp a.held v } else a) v) (sym (eq-eqb found 0 zeroed))
    (record {
      held =
          let n : times v a.held ≡ 0 = none (times v a.held) h.own in
          let e = times-insert_key a.held v v n in
          let w = weight_if-same v v 1 refl in
          omega arith;
      unmoved = h.unmoved zeroed;
    })
  where
    none : (n : ℕ) → (0 < n → found ≡ 1) → n ≡ 0
    none zero f = refl
    none (suc n) f = let e = f (omega arith) in absurd (omega arith)
