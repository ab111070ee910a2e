-- Laws of placing vertices one after the other.
use Rattle.std.proofs.Common.{◌≡◌, ℕ, ◌+◌, ◌<◌, ◌≤◌, Bool, true, false, not, cond, if◌then◌else◌, nat_le, List, [], ◌∷◌, ◌++◌, length, drop}
use Rattle.std.proofs.Common.{filter, All, slice_index, slice_set, Option, Some, None, refl, sym, ap, ◌∙◌, arith}
use Rattle.std.proofs.lemmas.List.{drop_more, drop_all, length-set, length-replicate}
use Rattle.std.proofs.lemmas.Bool.{eqb-true}
use Rattle.std.proofs.lemmas.List.Sorted.{All-permutation}
use Rattle.std.proofs.lemmas.List.Elements.{All-filter, All-weaker, filter_passes}
use Rattle.std.proofs.lemmas.List.FromFn.{length-range_with_len, get_or-range_with_len}
use Rattle.hg_defs.specs.declared.objective.TheConstants.{FREE}
use Rattle.hg_defs.specs.Hypergraph.{Hyper, vertex_count, vertices, weight_of, fix_of, is_free, IsFree}
use Rattle.hg_defs.specs.PlacementLaws.{ListsFree}
use Rattle.hg_defs.specs.LeastLoaded.{Placing, taken_block, placed_one, placed, first_overfilling, least, unplaced, placing_order, least_loaded}

-- the fixed ones of the vertices from v on
abbrev pub fixed_from : Hyper → ℕ → List ℕ
fixed_from h v = filter (λ u. not (is_free h u)) (drop v (vertices h))

module _ (h : Hyper) (v : ℕ) where
  vertices_from : v < vertex_count h → drop v (vertices h) ≡ v ∷ drop (v + 1) (vertices h)
  vertices_from l =
      let n = length-range_with_len 0 (vertex_count h) in
      drop_more (vertices h) v 0 (omega arith)
      ∙ ap (λ u. u ∷ drop (v + 1) (vertices h)) (get_or-range_with_len 0 (vertex_count h) v 0 l ∙ omega arith)

  pub fixed_from-fixed : v < vertex_count h → is_free h v ≡ false → fixed_from h v ≡ v ∷ fixed_from h (v + 1)
  fixed_from-fixed l e =
      ap (filter (λ u. not (is_free h u))) (vertices_from l)
      ∙ ap (λ t. cond (not t) (v ∷ fixed_from h (v + 1)) (fixed_from h (v + 1))) e

  pub fixed_from-free : v < vertex_count h → is_free h v ≡ true → fixed_from h v ≡ fixed_from h (v + 1)
  fixed_from-free l e =
      ap (filter (λ u. not (is_free h u))) (vertices_from l)
      ∙ ap (λ t. cond (not t) (v ∷ fixed_from h (v + 1)) (fixed_from h (v + 1))) e

pub fixed_from-end : (h : Hyper) (v : ℕ) → vertex_count h ≤ v → fixed_from h v ≡ []
fixed_from-end h v l =
    let n = length-range_with_len 0 (vertex_count h) in
    ap (filter (λ u. not (is_free h u))) (drop_all v (vertices h) (omega arith))

-- the state after a vertex was placed in a block
abbrev pub put : Hyper → Placing → ℕ → ℕ → Placing
put h s v b = record { loads = slice_set s.loads b (slice_index s.loads b + weight_of h v); blocks = slice_set s.blocks v b }

module _ (h : Hyper) (l : ℕ) (s : Placing) (v : ℕ) (rest : List ℕ) where
  pub taken-fixed : is_free h v ≡ false → taken_block h s.loads v ≡ fix_of h v
  taken-fixed e = ap (λ t. if t then least s.loads else fix_of h v) e

  pub taken-free : is_free h v ≡ true → taken_block h s.loads v ≡ least s.loads
  taken-free e = ap (λ t. if t then least s.loads else fix_of h v) e

  module _ (b : ℕ) (is : taken_block h s.loads v ≡ b) where
    pub overfills_now : nat_le (slice_index s.loads b + weight_of h v) l ≡ false → first_overfilling h l s (v ∷ rest) ≡ Some v
    overfills_now e =
        ap (λ t. if t then first_overfilling h l (placed_one h s v) rest else Some v)
        (ap (λ c. nat_le (slice_index s.loads c + weight_of h v) l) is ∙ e)

    pub overfills_later : nat_le (slice_index s.loads b + weight_of h v) l ≡ true → first_overfilling h l s (v ∷ rest) ≡ first_overfilling h l (put h s v b)
        rest
    overfills_later e =
        ap (λ t. if t then first_overfilling h l (placed_one h s v) rest else Some v)
        (ap (λ c. nat_le (slice_index s.loads c + weight_of h v) l) is ∙ e)
        ∙ ap (λ c. first_overfilling h l (put h s v c) rest) is

    pub placed_next : placed h s (v ∷ rest) ≡ placed h (put h s v b) rest
    placed_next = ap (λ c. placed h (put h s v c) rest) is

-- one list of vertices after another
module _ (h : Hyper) where
  pub placed-append : (s : Placing) (xs ys : List ℕ) → placed h s (xs ++ ys) ≡ placed h (placed h s xs) ys
  placed-append s [] ys = refl
  placed-append s (x ∷ xs) ys = placed-append (placed_one h s x) xs ys

  pub length-placed_blocks : (s : Placing) (xs : List ℕ) → length (placed h s xs).blocks ≡ length s.blocks
  length-placed_blocks s [] = refl
  length-placed_blocks s (x ∷ xs) = length-placed_blocks (placed_one h s x) xs ∙ length-set s.blocks x (taken_block h s.loads x)

  pub length-placed_loads : (s : Placing) (xs : List ℕ) → length (placed h s xs).loads ≡ length s.loads
  length-placed_loads s [] = refl
  length-placed_loads s (x ∷ xs) =
      let b = taken_block h s.loads x in
      length-placed_loads (placed_one h s x) xs ∙ length-set s.loads b (slice_index s.loads b + weight_of h x)

  module _ (l : ℕ) where
    -- the second list is placed only where the first overfills nowhere
    pub overfilling-append_none : (s : Placing) (xs ys : List ℕ) → first_overfilling h l s xs ≡ None → first_overfilling h l s (xs ++ ys) ≡
        first_overfilling h
        l (placed h s xs) ys
    overfilling-append_none s [] ys e = refl
    overfilling-append_none s (x ∷ xs) ys e =
        by (nat_le (slice_index s.loads (taken_block h s.loads x) + weight_of h x) l) e (overfilling-append_none (placed_one h s x) xs ys)
      where
        by : (t : Bool) → (if t then first_overfilling h l (placed_one h s x) xs else Some x) ≡ None
            → (first_overfilling h l (placed_one h s x) xs ≡ None → first_overfilling h l (placed_one h s x) (xs ++ ys) ≡ first_overfilling h l
            (placed h (placed_one h s x) xs) ys)
            → (if t then first_overfilling h l (placed_one h s x) (xs ++ ys) else Some x) ≡ first_overfilling h l (placed h (placed_one h s x) xs) ys
        by true f r = r f
        by false f r = absurd (cc)

    pub overfilling-append_some : (s : Placing) (xs ys : List ℕ) (v : ℕ) → first_overfilling h l s xs ≡ Some v → first_overfilling h l s (xs ++ ys) ≡ Some v
    overfilling-append_some s [] ys v e = absurd (cc)
    overfilling-append_some s (x ∷ xs) ys v e =
        by (nat_le (slice_index s.loads (taken_block h s.loads x) + weight_of h x) l) e (overfilling-append_some (placed_one h s x) xs ys v)
      where
        by : (t : Bool) → (if t then first_overfilling h l (placed_one h s x) xs else Some x) ≡ Some v
            → (first_overfilling h l (placed_one h s x) xs ≡ Some v → first_overfilling h l (placed_one h s x) (xs ++ ys) ≡ Some v)
            → (if t then first_overfilling h l (placed_one h s x) (xs ++ ys) else Some x) ≡ Some v
        by true f r = r f
        by false f r = f

-- the free vertices, in whatever order
module _ (h : Hyper) (order : List ℕ) (listed : ListsFree h order) where
  pub listed_vertices : All (λ v. v < vertex_count h) order
  listed_vertices =
      All-permutation (λ v. v < vertex_count h) (filter (is_free h) (vertices h)) order listed
      (All-filter (is_free h) (λ v. v < vertex_count h) (vertices h) (λ i d l.
      let n = length-range_with_len 0 (vertex_count h) in
      let at = get_or-range_with_len 0 (vertex_count h) i d (omega arith) in
      omega arith))

  pub listed_free : All (IsFree h) order
  listed_free =
      All-permutation (IsFree h) (filter (is_free h) (vertices h)) order listed
      (All-weaker (λ v. is_free h v ≡ true) (IsFree h) (λ v e. eqb-true (fix_of h v) FREE e) (filter (is_free h) (vertices h))
      (filter_passes (is_free h) (vertices h)))

-- the fixed vertices were placed from the beginning on, and then the free ones
module _ (h : Hyper) (k l : ℕ) (order : List ℕ) (s t : Placing) (start : s ≡ unplaced h k) where
  pub fixed_overfills : (v : ℕ) → first_overfilling h l s (filter (λ v. not (is_free h v)) (vertices h)) ≡ Some v → first_overfilling h l (unplaced h k)
      (placing_order h order) ≡ Some v
  fixed_overfills v e =
      overfilling-append_some h l (unplaced h k) (filter (λ v. not (is_free h v)) (vertices h)) order v
      (ap (λ (r : Placing). first_overfilling h l r (filter (λ v. not (is_free h v)) (vertices h))) (sym start) ∙ e)

  module _ (none : first_overfilling h l s (filter (λ v. not (is_free h v)) (vertices h)) ≡ None)
      (state : placed h s (filter (λ v. not (is_free h v)) (vertices h)) ≡ t) where
    pub fixed_blocks : length t.blocks ≡ vertex_count h
    fixed_blocks =
        ap (λ (r : Placing). length r.blocks) (sym state)
        ∙ length-placed_blocks h s (filter (λ v. not (is_free h v)) (vertices h))
        ∙ ap (λ (r : Placing). length r.blocks) start ∙ length-replicate (vertex_count h) 0

    pub fixed_loads : length t.loads ≡ k
    fixed_loads =
        ap (λ (r : Placing). length r.loads) (sym state)
        ∙ length-placed_loads h s (filter (λ v. not (is_free h v)) (vertices h))
        ∙ ap (λ (r : Placing). length r.loads) start ∙ length-replicate k 0

    then_free : first_overfilling h l (unplaced h k) (placing_order h order) ≡ first_overfilling h l t order
    then_free =
        ap (λ (r : Placing). first_overfilling h l r (placing_order h order)) (sym start)
        ∙ overfilling-append_none h l s (filter (λ v. not (is_free h v)) (vertices h)) order none
        ∙ ap (λ (r : Placing). first_overfilling h l r order) state

    pub free_overfills : (o : Option ℕ) → first_overfilling h l t order ≡ o → first_overfilling h l (unplaced h k) (placing_order h order) ≡ o
    free_overfills o e = then_free ∙ e

    pub all_placed : (u : Placing) → placed h t order ≡ u → u.blocks ≡ least_loaded h k order
    all_placed u e =
        ap (λ (r : Placing). r.blocks)
        (sym e ∙ ap (λ (r : Placing). placed h r order) (sym state)
        ∙ sym (placed-append h s (filter (λ v. not (is_free h v)) (vertices h)) order)
        ∙ ap (λ (r : Placing). placed h r (placing_order h order)) start)
