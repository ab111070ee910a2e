-- Laws of lists of nets, and of hypergraphs that get their nets.
use Rattle.std.proofs.Common.{◌≡◌, ℕ, ◌+◌, ◌*◌, ◌<◌, List, [], ◌∷◌, ◌++◌, length, take, drop, get_or, All, refl, sym, ap, ◌∙◌, subst, arith}
use Rattle.std.proofs.lemmas.List.{append_assoc, append-nil, length-append, take-append-drop, take_more, get_or_append_left, get_or-append-add}
use Rattle.hg_defs.specs.Hypergraph.{Net, Hyper, IsWithinLimits}
use Rattle.hg_defs.proofs.SumLaws.{total-append}
use Rattle.contract_nets.specs.Nets.{all_nets}

pub all_nets-append : (xs ys : List (List Net)) → all_nets (xs ++ ys) ≡ all_nets xs ++ all_nets ys
all_nets-append [] ys = refl
all_nets-append (x ∷ xs) ys = ap (λ (zs : List Net). x ++ zs) (all_nets-append xs ys) ∙ sym (append_assoc x (all_nets xs) (all_nets ys))

pub all_nets-take_more : (xs : List (List Net)) (k : ℕ) → k < length xs → all_nets (take (k + 1) xs) ≡ all_nets (take k xs) ++ get_or xs k []
all_nets-take_more xs k l =
    ap all_nets (take_more xs k [] l) ∙ all_nets-append (take k xs) (get_or xs k [] ∷ []) ∙ ap (λ (zs : List Net). all_nets (take k xs) ++ zs)
    (append-nil (get_or xs k []))

-- the nets up to a list, and those behind it
pub all_nets-split : (xs : List (List Net)) (k : ℕ) → all_nets xs ≡ all_nets (take k xs) ++ all_nets (drop k xs)
all_nets-split xs k = ap all_nets (sym (take-append-drop k xs)) ∙ all_nets-append (take k xs) (drop k xs)

-- the first nets of a hypergraph within the limits
pub front_within : (h : Hyper) (front back : List Net) → IsWithinLimits (record h { nets = front ++ back }) → IsWithinLimits (record h { nets = front })
front_within h front back limits =
    let a = length-append front back in
    let b = total-append (λ (e : Net). length e.pins) front back in
    let c = total-append (λ (e : Net). e.weight) front back in
    let d = total-append (λ (e : Net). e.weight * length e.pins) front back in
    let n = limits.nets in
    let p = limits.pins in
    let w = limits.net_weight in
    let q = limits.pin_weight in
    record {
      vertices = limits.vertices;
      nets = omega arith;
      pins = omega arith;
      weight = limits.weight;
      net_weight = omega arith;
      pin_weight = omega arith;
    }

-- what holds of all nets holds of those between others
pub All-middle : (P : Net → Type 0) (xs ys zs : List Net) → All P (xs ++ ys ++ zs) → All P ys
All-middle P xs ys zs all k d l =
    let a = length-append xs ys in
    let b = length-append (xs ++ ys) zs in
    subst P (get_or_append_left (xs ++ ys) zs d (length xs + k) (omega arith) ∙ get_or-append-add xs ys k d) (all (length xs + k) d (omega arith))
