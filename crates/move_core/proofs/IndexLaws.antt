-- The index of the nets of each vertex.
use Rattle.std.proofs.Common.{◌≡◌, ℕ, ◌<◌, ◌≤◌, ◌^◌, Bool, true, false, cond, List, [], ◌∷◌, map, filter, length, get_or, ap, ◌∙◌, arith}
use Rattle.std.specs.List.{range_with_len}
use Rattle.std.proofs.lemmas.List.FromFn.{length-map-range_with_len, get_or-map-range_with_len, length-range_with_len}
use Rattle.hg_defs.specs.Hypergraph.{Hyper, IsWithinLimits, vertices, vertex_count, net_count}
use Rattle.hg_defs.specs.Incidence.{is_on, nets_of}

length-filter-le : {A : Type 0} (p : A → Bool) (xs : List A) → length (filter p xs) ≤ length xs
length-filter-le p [] = omega arith
length-filter-le {A} p (x ∷ xs) = by (p x) (length-filter-le p xs)
  where
    by : (b : Bool) → length (filter p xs) ≤ length xs → length (cond b (x ∷ filter p xs) (filter p xs)) ≤ length (x ∷ xs)
    by true h = omega arith
    by false h = omega arith

-- a vertex has no more nets than there are
pub nets_of-le : (h : Hyper) (v : ℕ) → length (nets_of h v) ≤ net_count h
nets_of-le h v =
    let e = length-filter-le (is_on h v) (range_with_len 0 (net_count h)) in
    let l = length-range_with_len 0 (net_count h) in
    omega arith

pub nets_of-small : (h : Hyper) (v : ℕ) → IsWithinLimits h → length (nets_of h v) ≤ 2 ^ 22
nets_of-small h v b = let e = nets_of-le h v in let m = b.nets in omega arith

module _ (h : Hyper) (index : List (List ℕ)) (e : index ≡ map (nets_of h) (vertices h)) where
  pub index-length : length index ≡ vertex_count h
  index-length = ap length e ∙ length-map-range_with_len (nets_of h) 0 (vertex_count h)

  pub index-at : (v : ℕ) (d : List ℕ) → v < vertex_count h → get_or index v d ≡ nets_of h v
  index-at v d l = ap (λ xs. get_or xs v d) e ∙ get_or-map-range_with_len (nets_of h) 0 (vertex_count h) v v d l (omega arith)
