-- Laws of partitions that are no worse than others.
use Rattle.std.proofs.Common.{◌≡◌, ℕ, List, [], ◌∷◌, get_or, All, Option, Some, None, Result, Ok, Err, IfOk, Bool, true, false}
use Rattle.std.proofs.Common.{if◌then◌else◌, nat_lt, refl, sym, ap, subst, arith}
use Rattle.hg_defs.specs.declared.memory.NoMemory.{NoMemory}
use Rattle.hg_defs.specs.Hypergraph.{Hyper}
use Rattle.hg_defs.specs.Partition.{Fits}
use Rattle.hg_defs.specs.Cost.{cost}
use Rattle.hg_defs.specs.Placement.{first_cheapest}
use Rattle.hg_defs.specs.NamedLaws.{partition_at}
use Rattle.hg_defs.proofs.NamedLaws.{cheapest_is_first}
use Rattle.std.proofs.lemmas.Bool.{ltb-true}
use Rattle.std.proofs.lemmas.List.{get_or_default}
use Rattle.std.proofs.lemmas.List.Elements.{All-head, All-tail}
use Rattle.initial_place.specs.Cheapest.{IsNoDearer}
use Rattle.initial_place.specs.declared.search.Costed.{Costed}
use Rattle.initial_place.specs.NoWorse.{IsNoWorse, IsCosted, IsJudged, TakesPlace, cheaper_of, cheapest_of}

-- a partition takes its own place
takes_own : (h : Hyper) (k l : ℕ) (c : Costed) → IsCosted h k c → TakesPlace h k l c.blocks c
takes_own h k l c costed = record {
  costed = costed;
  no_worse = record { partition = λ x. x; fits = λ x. x; fixes = λ x. x; cost = omega arith };
}

-- a candidate leaves the best one no worse
takes_cheaper : (h : Hyper) (k l : ℕ) (p : List ℕ) (best : Costed) (judged : Option Costed) → TakesPlace h k l p best → IsJudged h k l judged →
    TakesPlace h k l p (cheaper_of best judged)
takes_cheaper h k l p best None taken met = taken
takes_cheaper h k l p best (Some c) taken met = by (nat_lt c.cost best.cost) refl
  where
    by : (b : Bool) → nat_lt c.cost best.cost ≡ b → TakesPlace h k l p (if b then c else best)
    by false e = taken
    by true e = record {
      costed = met.costed;
      no_worse = record {
        partition = λ _. met.costed.partition;
        fits = λ _. met.fits;
        fixes = λ _. met.fixes;
        cost =
            let less = ltb-true c.cost best.cost e in
            let new = met.costed.cost in
            let old = taken.costed.cost in
            let kept = taken.no_worse.cost in
            omega arith;
      };
    }

-- and so do all of them
takes_cheapest : (h : Hyper) (k l : ℕ) (p : List ℕ) (best : Costed) (rs : List (Result (Option Costed) NoMemory)) → TakesPlace h k l p best →
    All (λ r. IfOk r (IsJudged h k l)) rs → TakesPlace h k l p (cheapest_of best rs)
takes_cheapest h k l p best [] taken all = taken
takes_cheapest h k l p best (Err e ∷ rs) taken all = taken
takes_cheapest h k l p best (Ok judged ∷ rs) taken all =
    takes_cheapest h k l p (cheaper_of best judged) rs
    (takes_cheaper h k l p best judged taken (All-head (λ r. IfOk r (IsJudged h k l)) (Ok judged) rs all))
    (All-tail (λ r. IfOk r (IsJudged h k l)) (Ok judged) rs all)

-- the same of an answer
pub answer_takes : (h : Hyper) (k l : ℕ) (best : Costed) (rs : List (Result (Option Costed) NoMemory)) (r : Result Costed NoMemory) → IsCosted h k best →
    All (λ judged. IfOk judged (IsJudged h k l)) rs → IfOk r (λ c. c ≡ cheapest_of best rs) → IfOk r (TakesPlace h k l best.blocks)
answer_takes h k l best rs (Ok c) costed all e =
    subst (TakesPlace h k l best.blocks) (sym e) (takes_cheapest h k l best.blocks best rs (takes_own h k l best costed) all)
answer_takes h k l best rs (Err x) costed all e = tt

-- what is no worse than the first of the cheapest fits
pub fits_after : (h : Hyper) (k l : ℕ) (ps : List (List ℕ)) (p q : List ℕ) → first_cheapest h k l ps ≡ Some p → IsNoWorse h k l p q → Fits h k l q
fits_after h k l ps p q best worse = let x = cheapest_is_first h k l ps p best in worse.fits (subst (Fits h k l) (sym x.2) x.1.fits)

-- and it costs no more than any of them
pub no_dearer_after : (h : Hyper) (k l : ℕ) (ps : List (List ℕ)) (p q : List ℕ) → first_cheapest h k l ps ≡ Some p → IsNoWorse h k l p q →
    IsNoDearer h k l ps q
no_dearer_after h k l ps p q best worse i d low fits =
    let x = cheapest_is_first h k l ps p best in
    let same : get_or ps i d ≡ partition_at ps i = get_or_default ps i d [] low in
    let a = x.1.cheapest i low (subst (Fits h k l) same fits) in
    let b = ap (cost h) x.2 in
    let e = ap (cost h) same in
    let c = worse.cost in
    omega arith
