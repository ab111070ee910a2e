-- Laws of joining ranked single vertices two by two.
use Rattle.std.proofs.Common.{◌≡◌, ◌≢◌, ◌⊎◌, inl, inr, ⊎_elim, ℕ, zero, suc, ◌+◌, ◌-◌, ◌<◌, ◌≤◌, Bool, true}
use Rattle.std.proofs.Common.{false, true≢false, if◌then◌else◌, cond, ◌&&◌, min}
use Rattle.std.proofs.Common.{max, nat_eq, nat_le, List, [], ◌∷◌, length, map, filter, drop, get_or, set}
use Rattle.std.proofs.Common.{slice_index, All, AllPairs, Contains, IsPermutation}
use Rattle.std.proofs.Common.{IsSorted, replicate, refl, sym, ap, ◌∙◌, subst, arith, length-set, get_or-set_same, get_or-set_other}
use Rattle.std.specs.List.{range_with_len}
use Rattle.std.specs.List.Sorted.{IsStrictlyIncreasing}
use Rattle.std.proofs.lemmas.Bool.{cases_lt, cases_eq, le-leb, leb-true, lt-leb, and_parts}
use Rattle.std.proofs.lemmas.Bool.Decides.{Decides-eqb}
use Rattle.std.proofs.lemmas.Cmp.{nat_cmp_total}
use Rattle.std.proofs.lemmas.List.{length-drop, get_or-drop, get_or_default, drop_more, drop_all, length-map, get_or-map, get_or-replicate}
use Rattle.std.proofs.lemmas.List.Elements.{All-head, All-tail, All-weaker, All-map, All-get_or}
use Rattle.std.proofs.lemmas.List.Sorted.{All-permutation}
use Rattle.std.proofs.lemmas.Map.Keys.{sorted_from_strictly_increasing}
use Rattle.std.proofs.lemmas.Map.Made.{AllPairs-from_IsDistinct}
use Rattle.hg_defs.specs.Sorting.{sorted, lower_first}
use Rattle.hg_defs.specs.Hypergraph.{Net, Hyper, vertex_count, weight_of}
use Rattle.hg_defs.specs.Partition.{block_of}
use Rattle.hg_defs.specs.Clustering.{IsSingleton, is_single, is_small}
use Rattle.hg_defs.specs.Numbering.{IsRooted}
use Rattle.hg_defs.specs.Pairing.{lightest_first, pair_up, pair_blocks, pair_nets}
use Rattle.hg_defs.proofs.SortLaws.{sort_is, lower_first_total, lower_first_exact}
use Rattle.hg_defs.proofs.KeyLaws.{by_key-distinct}
use Rattle.hg_defs.proofs.JoinLaws.{single_is, is_single_from, joined-rooted, joined-fewer, joined-stays}
use Rattle.coarsen.specs.Numbers.{AreRoots}
use Rattle.coarsen.specs.Marks.{AreMarked, AreFewer, weighed}
use Rattle.coarsen.proofs.MarkLaws.{same_tests, fewer_marks}

abbrev Rank : Type 0
Rank = ℕ × ℕ

abbrev pub vertices_of : List Rank → List ℕ
vertices_of ranks = map (λ rank. rank.1) ranks

abbrev pub no_block : ℕ → ℕ
no_block v = 0

pub are_roots : (h : Hyper) (cap : ℕ) (roots : List ℕ) → IsRooted h cap roots → AreRoots (vertex_count h) roots
are_roots h cap roots r = record { vertices = r.vertices; below = r.below; own = r.own }

-- ---- one pair

-- two single vertices that are joined aren't single any longer
module _ (h : Hyper) (cap : ℕ) (roots : List ℕ) (single : List Bool) (r : IsRooted h cap roots) (m : AreMarked h roots single) (u v : ℕ)
    (su : IsSingleton h roots u) (sv : IsSingleton h roots v) (differ : u ≢ v) where
  abbrev pub joined : List ℕ
  joined = set roots (max u v) (min u v)

  higher : IsSingleton h roots (max u v)
  higher =
      ⊎_elim
      (λ (l : u < v). let e : max u v ≡ v = omega arith in subst (IsSingleton h roots) (sym e) sv)
      (λ (l : v ≤ u). let e : max u v ≡ u = omega arith in subst (IsSingleton h roots) (sym e) su)
      (cases_lt u v)

  lower : IsSingleton h roots (min u v)
  lower =
      ⊎_elim
      (λ (l : u < v). let e : min u v ≡ u = omega arith in subst (IsSingleton h roots) (sym e) su)
      (λ (l : v ≤ u). let e : min u v ≡ v = omega arith in subst (IsSingleton h roots) (sym e) sv)
      (cases_lt u v)

  high_low : max u v ≢ min u v
  high_low e = differ (omega arith)

  one_of : (x : ℕ) → (x ≡ max u v) ⊎ (x ≡ min u v) → (x ≡ u) ⊎ (x ≡ v)
  one_of x c = by (cases_lt u v) c
    where
      by : (u < v) ⊎ (v ≤ u) → (x ≡ max u v) ⊎ (x ≡ min u v) → (x ≡ u) ⊎ (x ≡ v)
      by (inl l) (inl e) = inr (omega arith)
      by (inl l) (inr e) = inl (omega arith)
      by (inr l) (inl e) = inl (omega arith)
      by (inr l) (inr e) = inr (omega arith)

  apart_high : (x : ℕ) → x ≢ u → x ≢ v → x ≢ max u v
  apart_high x n o e = ⊎_elim (λ (a : x ≡ u). n a) (λ (b : x ≡ v). o b) (one_of x (inl e))

  apart_low : (x : ℕ) → x ≢ u → x ≢ v → x ≢ min u v
  apart_low x n o e = ⊎_elim (λ (a : x ≡ u). n a) (λ (b : x ≡ v). o b) (one_of x (inr e))

  -- another single vertex stays single
  pub others_stay : (x : ℕ) → IsSingleton h roots x → x ≢ u → x ≢ v → IsSingleton h joined x
  others_stay x s n o = joined-stays h cap roots r (max u v) (min u v) higher lower high_low x s (apart_high x n o) (apart_low x n o)

  fewer : (x : ℕ) → IsSingleton h joined x → IsSingleton h roots x × (x ≢ max u v) × (x ≢ min u v)
  fewer x s = joined-fewer h cap roots r (max u v) (min u v) higher lower high_low x s

  pub joined_rooted : weight_of h u + weight_of h v ≤ cap → IsRooted h cap joined
  joined_rooted light = joined-rooted h cap roots r (max u v) (min u v) higher lower high_low (both (cases_lt u v))
    where
      both : (u < v) ⊎ (v ≤ u) → weight_of h (max u v) + weight_of h (min u v) ≤ cap
      both (inl l) = let a : max u v ≡ v = omega arith in let b : min u v ≡ u = omega arith in rw (a, b) (omega arith)
      both (inr l) = let a : max u v ≡ u = omega arith in let b : min u v ≡ v = omega arith in rw (a, b) light

  not_joined : (x : ℕ) → (x ≡ u) ⊎ (x ≡ v) → IsSingleton h joined x → ⊥
  not_joined x c s = by (cases_lt u v) c
    where
      f : IsSingleton h roots x × (x ≢ max u v) × (x ≢ min u v)
      f = fewer x s

      by : (u < v) ⊎ (v ≤ u) → (x ≡ u) ⊎ (x ≡ v) → ⊥
      by (inl l) (inl e) = f.2 (omega arith)
      by (inl l) (inr e) = f.1 (omega arith)
      by (inr l) (inl e) = f.1 (omega arith)
      by (inr l) (inr e) = f.2 (omega arith)

  pub joined_marked : AreMarked h joined (set (set single u false) v false)
  joined_marked = record {
    vertices = length-set (set single u false) v false ∙ length-set single u false ∙ m.vertices;
    each = λ x l. each x l (cases_eq x u) (cases_eq x v);
  }
    where
      none : (x : ℕ) → x < vertex_count h → (x ≡ u) ⊎ (x ≡ v) → is_single h joined x ≡ false
      none x l c = by (is_single h joined x) refl
        where
          by : (b : Bool) → is_single h joined x ≡ b → b ≡ false
          by true e = absurd (not_joined x c (single_is h joined x l e))
          by false e = refl

      at_v : get_or (set (set single u false) v false) v false ≡ false
      at_v = get_or-set_same (set single u false) v false false (let n = length-set single u false in let k = m.vertices in let w = sv.vertex in
          omega arith)

      each : (x : ℕ) → x < vertex_count h → (x ≡ u) ⊎ (x ≢ u) → (x ≡ v) ⊎ (x ≢ v) → get_or (set (set single u false) v false) x false ≡ is_single h joined x
      each x l c (inl e) = ap (λ (y : ℕ). get_or (set (set single u false) v false) y false) e ∙ at_v ∙ sym (none x l (inr e))
      each x l (inl e) (inr n) =
          get_or-set_other (set single u false) v x false false n
          ∙ ap (λ (y : ℕ). get_or (set single u false) y false) e
          ∙ get_or-set_same single u false false (let k = m.vertices in let w = su.vertex in omega arith)
          ∙ sym (none x l (inl e))
      each x l (inr o) (inr n) =
          get_or-set_other (set single u false) v x false false n
          ∙ get_or-set_other single u x false false o
          ∙ m.each x l
          ∙ same_tests (is_single h roots x) (is_single h joined x)
          (λ e. is_single_from h joined x (others_stay x (single_is h roots x l e) o n))
          (λ e. is_single_from h roots x (fewer x (single_is h joined x l e)).0)

-- ---- a list of ranks

pub record IsReady (h : Hyper) (cap : ℕ) (ranks : List Rank) (i : ℕ) (roots : List ℕ) (single : List Bool) : Type 0 where
  pub within : i ≤ length ranks
  pub rooted : IsRooted h cap roots
  pub marked : AreMarked h roots single
  pub singles : All (λ rank. IsSingleton h roots rank.1) (drop i ranks)

-- the ranks before i were joined
pub record IsJoining (h : Hyper) (cap : ℕ) (ranks : List Rank) (start : List ℕ) (marks : List Bool) (i : ℕ) (roots : List ℕ)
    (single : List Bool) : Type 0 where
  pub ready : IsReady h cap ranks i roots single
  pub fewer : AreFewer marks single
  pub rest : pair_up h cap 1 no_block roots (vertices_of (drop i ranks)) ≡ pair_up h cap 1 no_block start (vertices_of ranks)

pub joining_none : (h : Hyper) (cap : ℕ) (ranks : List Rank) (roots : List ℕ) (single : List Bool) → IsRooted h cap roots → AreMarked h roots single →
    All (λ rank. IsSingleton h roots rank.1) ranks → IsJoining h cap ranks roots single 0 roots single
joining_none h cap ranks roots single r m s = record {
  ready = record { within = omega arith; rooted = r; marked = m; singles = s };
  fewer = λ v e. e;
  rest = refl;
}

module _ (h : Hyper) (cap : ℕ) (ranks : List Rank) (start : List ℕ) (marks : List Bool) (i : ℕ) (roots : List ℕ) (single : List Bool)
    (j : IsJoining h cap ranks start marks i roots single) where
  -- at the end at most one rank is left
  pub joining_end : length ranks ≤ i + 1 → roots ≡ pair_up h cap 1 no_block start (vertices_of ranks)
  joining_end short = by (cases_lt i (length ranks))
    where
      by : (i < length ranks) ⊎ (length ranks ≤ i) → roots ≡ pair_up h cap 1 no_block start (vertices_of ranks)
      by (inl l) =
          ap (λ (rs : List Rank). pair_up h cap 1 no_block roots (vertices_of rs))
          (sym (drop_more ranks i (0, 0) l ∙ ap (λ (rs : List Rank). get_or ranks i (0, 0) ∷ rs) (drop_all (i + 1) ranks short)))
          ∙ j.rest
      by (inr l) = ap (λ (rs : List Rank). pair_up h cap 1 no_block roots (vertices_of rs)) (sym (drop_all i ranks l)) ∙ j.rest

  module _ (low : i + 1 < length ranks) (u v : ℕ) (first : u ≡ (get_or ranks i (0, 0)).1) (second : v ≡ (get_or ranks (i + 1) (0, 0)).1) where
    next : drop i ranks ≡ get_or ranks i (0, 0) ∷ get_or ranks (i + 1) (0, 0) ∷ drop (i + 2) ranks
    next =
        drop_more ranks i (0, 0) (omega arith)
        ∙ ap (λ (rs : List Rank). get_or ranks i (0, 0) ∷ rs)
        (drop_more ranks (i + 1) (0, 0) low ∙ ap (λ (n : ℕ). get_or ranks (i + 1) (0, 0) ∷ drop n ranks) (let e : i + 1 + 1 ≡ i + 2 = omega arith in e))

    both : vertices_of (drop i ranks) ≡ u ∷ v ∷ vertices_of (drop (i + 2) ranks)
    both = ap vertices_of next ∙ ap (λ (x : ℕ). x ∷ (get_or ranks (i + 1) (0, 0)).1 ∷ vertices_of (drop (i + 2) ranks)) (sym first) ∙
        ap (λ (y : ℕ). u ∷ y ∷ vertices_of (drop (i + 2) ranks)) (sym second)

    left : All (λ (rank : Rank). IsSingleton h roots rank.1) (get_or ranks i (0, 0) ∷ get_or ranks (i + 1) (0, 0) ∷ drop (i + 2) ranks)
    left = subst (All (λ (rank : Rank). IsSingleton h roots rank.1)) next j.ready.singles

    pub first_single : IsSingleton h roots u
    first_single = subst (IsSingleton h roots) (sym first) (All-head (λ (rank : Rank). IsSingleton h roots rank.1) (get_or ranks i (0, 0))
        (get_or ranks (i + 1) (0, 0) ∷ drop (i + 2) ranks) left)

    more : All (λ (rank : Rank). IsSingleton h roots rank.1) (get_or ranks (i + 1) (0, 0) ∷ drop (i + 2) ranks)
    more = All-tail (λ (rank : Rank). IsSingleton h roots rank.1) (get_or ranks i (0, 0)) (get_or ranks (i + 1) (0, 0) ∷ drop (i + 2) ranks) left

    pub second_single : IsSingleton h roots v
    second_single = subst (IsSingleton h roots) (sym second) (All-head (λ (rank : Rank). IsSingleton h roots rank.1) (get_or ranks (i + 1) (0, 0))
        (drop (i + 2) ranks) more)

    tested : (b : Bool) → nat_le (weight_of h u + weight_of h v) cap ≡ b
        → (if b then pair_up h cap 1 no_block (set roots (max u v) (min u v)) (vertices_of (drop (i + 2) ranks)) else roots) ≡ pair_up h cap 1 no_block
        start
        (vertices_of ranks)
    tested b e =
        ap (λ (t : Bool). if t then pair_up h cap 1 no_block (set roots (max u v) (min u v)) (vertices_of (drop (i + 2) ranks)) else roots) (sym e)
        ∙ ap (pair_up h cap 1 no_block roots) (sym both)
        ∙ j.rest

    -- the two are too heavy
    pub joining_stop : cap < weight_of h u + weight_of h v → roots ≡ pair_up h cap 1 no_block start (vertices_of ranks)
    joining_stop heavy = tested false (lt-leb (weight_of h u + weight_of h v) cap heavy)

    module _ (apart : AllPairs (λ (a b : Rank). a.1 ≢ b.1) ranks) where
      differ : u ≢ v
      differ e = apart i (i + 1) (0, 0) (omega arith) low (sym first ∙ e ∙ second)

      -- the two are joined
      pub joining_more : weight_of h u + weight_of h v ≤ cap → IsJoining h cap ranks start marks (i + 2) (set roots (max u v) (min u v))
          (set (set single u false) v false)
      joining_more light = record {
        ready = record {
          within = omega arith;
          rooted = joined_rooted h cap roots single j.ready.rooted j.ready.marked u v first_single second_single differ light;
          marked = joined_marked h cap roots single j.ready.rooted j.ready.marked u v first_single second_single differ;
          singles = later;
        };
        fewer = λ x e. j.fewer x (fewer_marks single u x (fewer_marks (set single u false) v x e));
        rest = tested true (le-leb (weight_of h u + weight_of h v) cap light);
      }
        where
          later : All (λ (rank : Rank). IsSingleton h (set roots (max u v) (min u v)) rank.1) (drop (i + 2) ranks)
          later k d l =
              let n = length-drop (i + 2) ranks in
              let at = get_or-drop (i + 2) ranks k d in
              others_stay h cap roots single j.ready.rooted j.ready.marked u v first_single second_single differ (get_or (drop (i + 2) ranks) k d).1
              (All-tail (λ (rank : Rank). IsSingleton h roots rank.1) (get_or ranks (i + 1) (0, 0)) (drop (i + 2) ranks) more k d l)
              (λ e. apart i (i + 2 + k) d (omega arith) (omega arith) (ap (λ (rank : Rank). rank.1) (get_or_default ranks i d (0, 0) (omega arith)) ∙
              sym first ∙ sym e ∙ ap (λ (rank : Rank). rank.1) at))
              (λ e. apart (i + 1) (i + 2 + k) d (omega arith) (omega arith) (ap (λ (rank : Rank). rank.1) (get_or_default ranks (i + 1) d (0, 0) low) ∙
              sym second ∙ sym e ∙ ap (λ (rank : Rank). rank.1) at))
