-- A made hypergraph can be written and is read back.
use Rattle.std.proofs.Common.{◌≡◌, ℕ, ◌+◌, ◌*◌, ◌%◌, ◌^◌, ◌<◌, ◌≤◌, List, [], ◌∷◌, get_or, All, refl, sym, ◌∙◌, subst, arith, lit<, lit≤}
use Rattle.std.proofs.lemmas.List.{length-replicate, get_or-replicate}
use Rattle.std.proofs.lemmas.List.Elements.{All-cons, All-nil, All-map, All-replicate, All-contains, Contains-get_or}
use Rattle.std.proofs.lemmas.List.FromFn.{length-range_with_len, get_or-range_with_len}
use Rattle.std.specs.List.{range_with_len}
use Rattle.std.specs.Ordering.{nat_cmp}
use Rattle.hg_defs.specs.declared.objective.TheConstants.{FREE}
use Rattle.hg_defs.specs.Hypergraph.{IsNet, IsHypergraph, IsWithinLimits}
use Rattle.hg_defs.specs.Sorting.{set_of}
use Rattle.hg_defs.proofs.SumLaws.{total-replicate}
use Rattle.hg_defs.proofs.SortLaws.{nat_cmp_exact, increasing-set_of, Contains-from_set_of}
use Rattle.std.proofs.lemmas.Cmp.{nat_cmp_total}
use Rattle.hg_make.specs.Made.{made_net, made}
use Rattle.hg_make.specs.Laws.{IsWritable, MadeIsReadBack}
use Rattle.hg_make.proofs.MadeLemmas.{net_count-made, pin_count-made-le, net_weight-made-le, pin_weight-made-le}
use Rattle.hg_make.proofs.GraphLaws.{hypergraph_is_read_back}

All-set_of : (P : ℕ → Type 0) (xs : List ℕ) → All P xs → All P (set_of nat_cmp xs)
All-set_of P xs all k d low =
    let x = get_or (set_of nat_cmp xs) k d in
    All-contains P xs x all (Contains-from_set_of nat_cmp_total nat_cmp_exact xs x (Contains-get_or (set_of nat_cmp xs) k d low))

pins-below : (n j : ℕ) → j < n → All (λ v. v < n) (made_net n j).pins
pins-below n j h =
    let below : All (λ v. v < n) (j ∷ (j + 1) % n ∷ (j * j + 3) % n ∷ []) =
    All-cons (λ v. v < n) j ((j + 1) % n ∷ (j * j + 3) % n ∷ []) h
    (All-cons (λ v. v < n) ((j + 1) % n) ((j * j + 3) % n ∷ []) (omega arith) (All-cons (λ v. v < n) ((j * j + 3) % n) [] (omega arith)
    (All-nil (λ v. v < n)))) in
    All-set_of (λ v. v < n) (j ∷ (j + 1) % n ∷ (j * j + 3) % n ∷ []) below

made_nets : (n : ℕ) → All (IsNet n) (made n).nets
made_nets n =
    All-map (IsNet n) (made_net n) (range_with_len 0 n)
    (λ k d low.
    let few : k < n = subst (λ (m : ℕ). k < m) (length-range_with_len 0 n) low in
    let is : get_or (range_with_len 0 n) k d ≡ k = get_or-range_with_len 0 n k d few ∙ omega arith in
    subst (λ (j : ℕ). IsNet n (made_net n j)) (sym is) (record {
      rising = increasing-set_of (k ∷ (k + 1) % n ∷ (k * k + 3) % n ∷ []);
      pins = pins-below n k few;
    }))

made_sound : (n : ℕ) → IsHypergraph (made n)
made_sound n = record {
  fixes = length-replicate n FREE ∙ sym (length-replicate n 1);
  fixed = All-replicate (λ f. f ≤ FREE) n FREE (lit≤ tt);
  nets = subst (λ (m : ℕ). All (IsNet m) (made n).nets) (sym (length-replicate n 1)) (made_nets n);
}

made_bounds : (n : ℕ) → n ≤ 2 ^ 22 → IsWithinLimits (made n)
made_bounds n few = record {
  vertices = omega (arith, length-replicate {A = ℕ} n 1);
  nets = omega (arith, net_count-made n n (made n) refl);
  pins = omega (arith, pin_count-made-le n n (made n) refl);
  weight = omega (arith, total-replicate (λ w. w) n 1);
  net_weight = omega (arith, net_weight-made-le n n (made n) refl);
  pin_weight = omega (arith, pin_weight-made-le n n (made n) refl);
}

made_writable : (n : ℕ) → n ≤ 2 ^ 22 → IsWritable (made n)
made_writable n few = record {
  sound = made_sound n;
  bounds = made_bounds n few;
  weights = All-replicate (λ w. w < 2 ^ 32) n 1 (lit< tt);
  net_weights = All-map (λ e. e.weight < 2 ^ 32) (made_net n) (range_with_len 0 n) (λ k d low. lit< tt);
  objective = refl;
  free = λ v low. get_or-replicate n v FREE FREE (omega (arith, low, length-replicate {A = ℕ} n 1));
}

pub made_is_read_back : MadeIsReadBack
made_is_read_back n few = hypergraph_is_read_back (made n) (made_writable n few)
