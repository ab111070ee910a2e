-- Lines that are read one after another, and bounds on sums of weights.
use Rattle.std.proofs.Common.{◌≡◌, ℕ, zero, suc, ◌+◌, ◌-◌, ◌*◌, ◌^◌, ◌<◌, ◌≤◌, List, [], ◌∷◌, length, take, drop, get_or, sym, ◌∙◌, ap, arith}
use Rattle.std.specs.List.{All}
use Rattle.std.proofs.lemmas.List.{drop-drop, length-drop}
use Rattle.std.proofs.lemmas.List.Elements.{All-head, All-tail}
use Rattle.hg_defs.specs.Sums.{total}
use Rattle.hg_defs.specs.Hypergraph.{Hyper, Net}

-- one more element of a list is passed
pub drop_rest : {A : Type 0} (xs : List A) (i : ℕ) (x : A) (later : List A) → drop i xs ≡ x ∷ later → later ≡ drop (i + 1) xs
drop_rest xs i x later e = sym (ap (drop 1) e) ∙ drop-drop 1 i xs

pub drop_some : {A : Type 0} (xs : List A) (i : ℕ) (x : A) (later : List A) → drop i xs ≡ x ∷ later → i + 1 ≤ length xs
drop_some xs i x later e = omega (arith, length-drop i xs, ap length e)

-- one of the first elements is read
pub take_step : {A : Type 0} (n i : ℕ) (x : A) (later : List A) → i < n → take (n - i) (x ∷ later) ≡ x ∷ take (n - (i + 1)) later
take_step n i x later h =
    let e : n - i ≡ suc (n - (i + 1)) = omega arith in
    ap (λ (k : ℕ). take k (x ∷ later)) e

-- a sum of numbers below 2^32
total_below : (ws : List ℕ) → All (λ w. w < 2 ^ 32) ws → total (λ w. w) ws ≤ (2 ^ 32 - 1) * length ws
total_below [] all = omega arith
total_below (w ∷ ws) all =
    omega (arith, total_below ws (All-tail (λ w. w < 2 ^ 32) w ws all), All-head (λ w. w < 2 ^ 32) w ws all)

-- the same, less one of them
pub total_others : (ws : List ℕ) (v : ℕ) → v < length ws → All (λ w. w < 2 ^ 32) ws → total (λ w. w) ws + (2 ^ 32 - 1) ≤ get_or ws v 0 + (2 ^ 32 - 1) *
    length
    ws
total_others [] v h all = absurd (omega arith)
total_others (w ∷ ws) zero h all = omega (arith, total_below ws (All-tail (λ w. w < 2 ^ 32) w ws all))
total_others (w ∷ ws) (suc v) h all =
    omega (arith, total_others ws v (omega arith) (All-tail (λ w. w < 2 ^ 32) w ws all), All-head (λ w. w < 2 ^ 32) w ws all)

-- two changes of the weights are one, and so are two of the nets
pub weights_twice : (old mid new : Hyper) (ws : List ℕ) → mid ≡ record old { weights = mid.weights } → new ≡ record mid { weights = ws } →
    new ≡ record old { weights = new.weights }
weights_twice old mid new ws d e =
    e ∙ ap (λ (h : Hyper). record h { weights = ws }) d
    ∙ ap (λ (us : List ℕ). record old { weights = us }) (sym (ap (λ (h : Hyper). h.weights) e))

pub nets_twice : (old mid new : Hyper) (es : List Net) → mid ≡ record old { nets = mid.nets } → new ≡ record mid { nets = es } →
    new ≡ record old { nets = new.nets }
nets_twice old mid new es d e =
    e ∙ ap (λ (h : Hyper). record h { nets = es }) d
    ∙ ap (λ (fs : List Net). record old { nets = fs }) (sym (ap (λ (h : Hyper). h.nets) e))

-- a weight times the pins of a net
pub product_le : (w s p : ℕ) → w < 2 ^ 32 → s ≤ p → w * s ≤ (2 ^ 32 - 1) * p
product_le w s p h k = grind arith
