-- What becomes of an account at an event: what the pass has taken, and what it knows.
use Rattle.std.proofs.Common.{◌≡◌, ◌≢◌, ℕ, ◌-◌, ◌<◌, ◌≤◌, Bool, true, false, List, nat_eq, nat_le, if◌then◌else◌, refl, sym, ap, subst, arith, nat_cmp}
use Rattle.std.specs.BTreeSet.{insert_key}
use Rattle.std.specs.Set.{remove_key}
use Rattle.std.proofs.lemmas.Bool.{le-leb}
use Rattle.hg_defs.proofs.SumLaws.{weight_if-other}
use Rattle.cluster_core.specs.declared.account.Account.{Account}
use Rattle.cluster_core.specs.State.{times}
use Rattle.cluster_core.specs.Events.{learned, took}
use Rattle.cluster_core.proofs.TimesLaws.{times-insert_key-le, times-insert_key-has, times-remove_key}

pub learned_taken : (found : ℕ) (a : Account) → (learned found a).taken ≡ a.taken
learned_taken found a = by (nat_le 2 found)
  where
    by : (b : Bool) → (if b then record a { known = insert_key nat_cmp a.known (found - 2) } else a).taken ≡ a.taken
    by true = refl
    by false = refl

pub learned_known : (found : ℕ) (a : Account) → 2 ≤ found → 0 < times (found - 2) (learned found a).known
learned_known found a l =
    subst (λ b. 0 < times (found - 2) (if b then record a { known = insert_key nat_cmp a.known (found - 2) } else a).known) (sym (le-leb 2 found l))
    (times-insert_key-has a.known (found - 2))

pub took_keeps : (v found : ℕ) (a : Account) (u : ℕ) → 0 < times u a.taken → 0 < times u (took v found a).taken
took_keeps v found a u p = by (nat_eq found 0)
  where
    by : (b : Bool) → 0 < times u (if b then record a { taken = insert_key nat_cmp a.taken v } else learned found a).taken
    by true = let l = times-insert_key-le a.taken v u in omega arith
    by false = let e = ap (times u) (learned_taken found a) in omega arith

pub took_has : (v found : ℕ) (a : Account) → nat_eq found 0 ≡ true → 0 < times v (took v found a).taken
took_has v found a e =
    subst (λ b. 0 < times v (if b then record a { taken = insert_key nat_cmp a.taken v } else learned found a).taken) (sym e)
    (times-insert_key-has a.taken v)

pub removed_others : (xs : List ℕ) (v u : ℕ) → 0 < times v xs → u ≢ v → times u (remove_key (nat_eq v) xs) ≡ times u xs
removed_others xs v u p q = let t = times-remove_key xs v u p in let w = weight_if-other v u 1 (λ e. q (sym e)) in omega arith
