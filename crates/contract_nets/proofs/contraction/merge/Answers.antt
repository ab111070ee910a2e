-- A net of two clusters or more has a key, and so a place.
use Rattle.std.proofs.Common.{List, map, Contains, Result, Ok, Err, OnOk, sym, subst}
use Rattle.contract_nets.specs.Keys.{Key}
use Rattle.contract_nets.proofs.LedgerLaws.{placed_by_key}
use Rattle.contract_nets.proofs.contraction.merge.Goals as goal

on_ok : {T E A : Type 0} (r : Result T E) → A → OnOk r A
on_ok (Ok x) a = a
on_ok (Err e) a = tt

pub returns-then-len-gt1-clause-all : goal.returns-then-len-gt1-clause-all
returns-then-len-gt1-clause-all g c =
    let keys = c.deref-then-len-gt1-2 in
    on_ok c.coarse_and_places.result
    (λ e l wide. placed_by_key keys.result.now c.coarse_and_places.new.places c.coarse_and_places.ensures.all e
    (subst (λ (ks : List Key). Contains (map (λ (k : Key). k.1) ks) e) (sym keys.ensures.value) (c.in_ok-nets.ensures.all e l wide)))

pub returns-clause-all : goal.returns-clause-all
returns-clause-all g c =
    on_ok c.coarse_of.result
    (λ e l wide. placed_by_key c.deref-2.result.now c.write_places.new.places c.write_places.ensures.all e
    (subst (λ (ks : List Key). Contains (map (λ (k : Key). k.1) ks) e) (sym c.deref-2.ensures.value) (c.in_ok-nets.ensures.all e l wide)))
