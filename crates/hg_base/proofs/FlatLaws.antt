-- Laws of nets in flat arrays.
use Rattle.std.proofs.Common.{◌≡◌, ℕ, ◌^◌, ◌<◌, ◌≤◌, List, [], ◌∷◌, length, replicate, flat_map, All, get_or, refl, sym, ap, ◌∙◌, arith, rules, ⊎_elim}
use Rattle.std.proofs.lemmas.List.FromFn.{length-map-range_with_len, get_or-map-range_with_len}
use Rattle.std.proofs.lemmas.Bool.{cases_lt}
use Rattle.std.proofs.lemmas.List.{length-replicate, get_or-replicate, get_or_past}
use Rattle.std.proofs.lemmas.List.Elements.{All-nil, All-head, All-tail, All-append, All-replicate}
use Rattle.hg_defs.specs.declared.objective.Objective.{Objective}
use Rattle.hg_defs.specs.declared.objective.TheConstants.{FREE}
use Rattle.hg_defs.specs.Hypergraph.{Net, Hyper, net_count, net_of, IsNet, IsFixedWithin}
use Rattle.hg_defs.proofs.SumLaws.{total-replicate}
use Rattle.hg_base.specs.Flat.{net_at, nets_at, IsLaidOut, IsKept}

pub length-nets_at : (ss ns ps : List ℕ) → length (nets_at ss ns ps) ≡ length ns
length-nets_at ss ns ps = length-map-range_with_len (net_at ss ns ps) 0 (length ns)

pub get_or-nets_at : (ss ns ps : List ℕ) (e : ℕ) (d : Net) → e < length ns → get_or (nets_at ss ns ps) e d ≡ net_at ss ns ps e
get_or-nets_at ss ns ps e d h = get_or-map-range_with_len (net_at ss ns ps) 0 (length ns) e e d h (omega arith)

-- what a hypergraph says of its nets, in the flat arrays
module _ (x : Hyper) (ss ns ps : List ℕ) (is : nets_at ss ns ps ≡ x.nets) where
  pub below_nets : (e : ℕ) → e < net_count x → e < length ns
  below_nets e h = let same = length-nets_at ss ns ps in let also = ap length is in omega arith

  pub net_of-flat : (e : ℕ) → e < net_count x → net_of x e ≡ net_at ss ns ps e
  net_of-flat e h =
      ap (λ (nets : List Net). get_or nets e (record { weight = 0; pins = [] })) (sym is)
      ∙ get_or-nets_at ss ns ps e (record { weight = 0; pins = [] }) (below_nets e h)

-- all pins are below a bound where those of each net are
pub all_below : (n : ℕ) (nets : List Net) → All (IsNet n) nets → All (λ v. v < n) (flat_map (λ (e : Net). e.pins) nets)
all_below n [] all = All-nil (λ v. v < n)
all_below n (e ∷ nets) all =
    All-append (λ v. v < n) e.pins (flat_map (λ (e : Net). e.pins) nets) (All-head (IsNet n) e nets all).pins
    (all_below n nets (All-tail (IsNet n) e nets all))

-- the hypergraph of n vertices of weight 1 without nets
abbrev pub bare : Objective → ℕ → Hyper
bare o n = record { weights = replicate n 1; nets = []; objective = o; fixes = replicate n FREE }

pub IsKept-bare : (o : Objective) (n : ℕ) → n ≤ 2 ^ 22 → IsKept (bare o n) 0 n
IsKept-bare o n h =
    let vertices = length-replicate {A = ℕ} n 1 in
    let fixes = length-replicate {A = ℕ} n FREE in
    let sum = total-replicate (λ w. w) n 1 in
    record {
      sound = record {
        fixes = omega arith;
        fixed = All-replicate (λ f. f ≤ FREE) n FREE (omega arith);
        nets = All-nil (IsNet (length (replicate n 1)));
      };
      bounds = record {
        vertices = omega arith;
        nets = omega arith;
        pins = omega arith;
        weight = omega arith;
        net_weight = omega arith;
        pin_weight = omega arith;
      };
      all_pins = refl;
      all_weight = omega arith;
    }

pub IsLaidOut-bare : IsLaidOut (0 ∷ []) [] []
IsLaidOut-bare = record {
  ends = refl;
  rising = λ e h. absurd (omega arith);
  within = λ e h. search (rules, arith);
  last = refl;
}

-- where every vertex is free, the fixes are within any number of blocks
pub IsFixedWithin-free : (h : Hyper) (n k : ℕ) → h.fixes ≡ replicate n FREE → IsFixedWithin h k
IsFixedWithin-free h n k e v l other = absurd (other (ap (λ (fs : List ℕ). get_or fs v FREE) e ∙ free))
  where
    free : get_or (replicate n FREE) v FREE ≡ FREE
    free =
        ⊎_elim
        (λ (l : v < n). get_or-replicate n v FREE FREE l)
        (λ (l : n ≤ v). get_or_past (replicate n FREE) v FREE (let m = length-replicate {A = ℕ} n FREE in omega arith))
        (cases_lt v n)
