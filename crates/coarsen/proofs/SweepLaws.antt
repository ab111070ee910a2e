-- Laws of the pairing sweep, block by block and net by net.
use Rattle.std.proofs.Common.{◌≡◌, ◌≢◌, ◌⊎◌, inl, inr, ⊎_elim, ℕ, zero, suc, ◌+◌, ◌-◌, ◌<◌, ◌≤◌, Bool, true}
use Rattle.std.proofs.Common.{false, true≢false, if◌then◌else◌, cond, ◌&&◌, max}
use Rattle.std.proofs.Common.{min, nat_eq, nat_le, List, [], ◌∷◌, length, map, filter, drop, get_or, set}
use Rattle.std.proofs.Common.{slice_index, All, AllPairs, IsPermutation, IsSorted}
use Rattle.std.proofs.Common.{replicate, nat_cmp, is_eq, Ordering, Less, Equal, refl, sym, ap, ap₂, ◌∙◌, subst, arith}
use Rattle.std.specs.List.{range_with_len}
use Rattle.std.specs.List.Sorted.{IsStrictlyIncreasing}
use Rattle.std.proofs.lemmas.Bool.{cases_lt, le-leb, lt-leb, and_parts}
use Rattle.std.proofs.lemmas.Bool.Decides.{Decides-eqb}
use Rattle.std.proofs.lemmas.Cmp.{tied_itself, nat_cmp_total}
use Rattle.std.proofs.lemmas.List.{drop_more, drop_all, length-map, get_or-map, get_or-replicate}
use Rattle.std.proofs.lemmas.List.Elements.{All-head, All-tail, All-map, All-filter, filter_passes}
use Rattle.std.proofs.lemmas.List.Kept.{AllPairs-filter}
use Rattle.std.proofs.lemmas.List.Sorted.{All-permutation, length_permutation}
use Rattle.std.proofs.lemmas.Map.Keys.{sorted_from_strictly_increasing}
use Rattle.std.proofs.lemmas.Map.Made.{AllPairs-from_IsDistinct}
use Rattle.hg_defs.specs.Sorting.{sorted, lower_first}
use Rattle.hg_defs.specs.Hypergraph.{Net, Hyper, IsHypergraph, vertex_count, net_count, net_of, weight_of}
use Rattle.hg_defs.specs.Partition.{block_of}
use Rattle.hg_defs.specs.Clustering.{IsSingleton, is_single, is_small}
use Rattle.hg_defs.specs.Numbering.{IsRooted}
use Rattle.hg_defs.specs.Pairing.{lightest_first, pair_up, pair_blocks, pair_nets}
use Rattle.hg_defs.proofs.SortLaws.{sort_is, sorted_permutation, strict_pairs, lower_first_total, lower_first_exact}
use Rattle.hg_defs.proofs.KeyLaws.{by_key-distinct}
use Rattle.hg_defs.proofs.JoinLaws.{single_is}
use Rattle.coarsen.specs.Marks.{AreMarked, AreFewer, marked_pins, weighed}
use Rattle.coarsen.proofs.PairLaws.{vertices_of, no_block}

pub filter_same : (p q : ℕ → Bool) (xs : List ℕ) → All (λ x. p x ≡ q x) xs → filter p xs ≡ filter q xs
filter_same p q [] a = refl
filter_same p q (x ∷ xs) a = by (p x) (q x) (All-head (λ y. p y ≡ q y) x xs a) (filter_same p q xs (All-tail (λ y. p y ≡ q y) x xs a))
  where
    by : (b c : Bool) → b ≡ c → filter p xs ≡ filter q xs → cond b (x ∷ filter p xs) (filter p xs) ≡ cond c (x ∷ filter q xs) (filter q xs)
    by b c e f = ap₂ (λ (t : Bool) (ys : List ℕ). cond t (x ∷ ys) ys) e f

filter_le : (p q : ℕ → Bool) → ((x : ℕ) → p x ≡ true → q x ≡ true) → (xs : List ℕ) → length (filter p xs) ≤ length (filter q xs)
filter_le p q all [] = omega arith
filter_le p q all (x ∷ xs) = by (p x) (q x) (all x) (filter_le p q all xs)
  where
    by : (b c : Bool) → (b ≡ true → c ≡ true) → length (filter p xs) ≤ length (filter q xs) → length (cond b (x ∷ filter p xs) (filter p xs)) ≤
        length (cond c (x ∷ filter q xs) (filter q xs))
    by true true f h = omega arith
    by true false f h = absurd (true≢false (sym (f refl)))
    by false true f h = omega arith
    by false false f h = h

filter_both_le : (p q : ℕ → Bool) (xs : List ℕ) → length (filter (λ x. p x && q x) xs) ≤ length (filter p xs)
filter_both_le p q [] = omega arith
filter_both_le p q (x ∷ xs) = by (p x) (q x) (filter_both_le p q xs)
  where
    by : (b c : Bool) → length (filter (λ y. p y && q y) xs) ≤ length (filter p xs) →
        length (cond (b && c) (x ∷ filter (λ y. p y && q y) xs) (filter (λ y. p y && q y) xs)) ≤ length (cond b (x ∷ filter p xs) (filter p xs))
    by true true h = omega arith
    by true false h = omega arith
    by false c h = h

increasing_apart : (xs : List ℕ) → IsStrictlyIncreasing xs → AllPairs (λ x y. x ≢ y) xs
increasing_apart xs rising i j d l m e =
    let less = strict_pairs nat_cmp_total xs (sorted_from_strictly_increasing xs rising) i j d l m in
    true≢false (sym (ap is_eq (tied_itself nat_cmp_total (get_or xs i d))) ∙ ap is_eq (ap (nat_cmp (get_or xs i d)) e ∙ less))

-- the pairing of listed vertices doesn't ask for blocks
pub pair_up_any : (h : Hyper) (cap k : ℕ) (block : ℕ → ℕ) (vs roots : List ℕ) → pair_up h cap 1 no_block roots vs ≡ pair_up h cap k block roots vs
pair_up_any h cap k block [] roots = refl
pair_up_any h cap k block (v ∷ []) roots = refl
pair_up_any h cap k block (u ∷ v ∷ vs) roots =
    ap (λ (rs : List ℕ). if nat_le (weight_of h u + weight_of h v) cap then rs else roots) (pair_up_any h cap k block vs (set roots (max u v) (min u v)))

-- ---- the single vertices of a block on a net

module _ (h : Hyper) (blocks roots pins : List ℕ) (b : ℕ) where
  abbrev pub singles_of : List ℕ
  singles_of = filter (λ v. is_single h roots v && nat_eq (block_of blocks v) b) pins

  pub singles_marked : (single : List Bool) → AreMarked h roots single → All (λ v. v < vertex_count h) pins
      → filter (λ v. get_or single v false && nat_eq (block_of blocks v) b) pins ≡ singles_of
  singles_marked single m below =
      filter_same (λ v. get_or single v false && nat_eq (block_of blocks v) b) (λ v. is_single h roots v && nat_eq (block_of blocks v) b) pins
      (λ k d l. ap (λ (t : Bool). t && nat_eq (block_of blocks (get_or pins k d)) b) (m.each (get_or pins k d) (below k d l)))

  pub singles_are : All (λ v. v < vertex_count h) pins → All (IsSingleton h roots) singles_of
  singles_are below k d l =
      let test : ℕ → Bool = λ v. is_single h roots v && nat_eq (block_of blocks v) b in
      let v = get_or singles_of k d in
      single_is h roots v (All-filter test (λ u. u < vertex_count h) pins below k d l)
      (and_parts (is_single h roots v) (nat_eq (block_of blocks v) b) (filter_passes test pins k d l)).0

  module _ (ranks : List (ℕ × ℕ)) (moved : IsPermutation (map (weighed h) singles_of) ranks) (up : IsSorted lower_first ranks) where
    ranks_are : ranks ≡ sorted lower_first (map (weighed h) singles_of)
    ranks_are = sort_is lower_first_total lower_first_exact (map (weighed h) singles_of) ranks moved up

    pub ranks_lightest : (cap : ℕ) → vertices_of ranks ≡ lightest_first h cap 1 (block_of blocks) roots b pins
    ranks_lightest cap = ap vertices_of ranks_are

    pub ranks_single : All (λ v. v < vertex_count h) pins → All (λ rank. IsSingleton h roots rank.1) ranks
    ranks_single below =
        All-permutation (λ (rank : ℕ × ℕ). IsSingleton h roots rank.1) (map (weighed h) singles_of) ranks moved
        (All-map (λ (rank : ℕ × ℕ). IsSingleton h roots rank.1) (weighed h) singles_of (singles_are below))

    pub ranks_apart : IsStrictlyIncreasing pins → AllPairs (λ x y. x.1 ≢ y.1) ranks
    ranks_apart rising =
        let test : ℕ → Bool = λ v. is_single h roots v && nat_eq (block_of blocks v) b in
        let distinct = by_key-distinct lower_first (weight_of h) singles_of (AllPairs-filter (λ (x y : ℕ). x ≢ y) test pins
        (increasing_apart pins rising)) in
        let pairs = AllPairs-from_IsDistinct Decides-eqb (vertices_of (sorted lower_first (map (weighed h) singles_of))) distinct in
        let here : AllPairs (λ x y. x ≢ y) (vertices_of ranks) = subst (λ (rs : List (ℕ × ℕ)). AllPairs (λ x y. x ≢ y) (vertices_of rs)) (sym ranks_are)
        pairs in
        λ i j d l m e.
        let n = length-map ranks (λ (rank : ℕ × ℕ). rank.1) in
        here i j 0 l (omega arith)
        (get_or-map (λ (rank : ℕ × ℕ). rank.1) ranks i d 0 (omega arith) ∙ e ∙ sym (get_or-map (λ (rank : ℕ × ℕ). rank.1) ranks j d 0 m))

-- ---- the blocks of a net

module _ (h : Hyper) (cap k : ℕ) (blocks pins : List ℕ) where
  pair_up_short : (roots vs : List ℕ) → length vs ≤ 1 → pair_up h cap k (block_of blocks) roots vs ≡ roots
  pair_up_short roots [] s = refl
  pair_up_short roots (v ∷ []) s = refl
  pair_up_short roots (u ∷ v ∷ vs) s = absurd (omega arith)

  lightest_short : (roots : List ℕ) (b : ℕ) → length (filter (λ v. is_single h roots v) pins) ≤ 1 →
      length (lightest_first h cap k (block_of blocks) roots b pins) ≤ 1
  lightest_short roots b few =
      let keys = map (weighed h) (singles_of h blocks roots pins b) in
      let a = length-map (sorted lower_first keys) (λ (rank : ℕ × ℕ). rank.1) in
      let p = length_permutation keys (sorted lower_first keys) (sorted_permutation lower_first keys) in
      let m = length-map (singles_of h blocks roots pins b) (weighed h) in
      let f = filter_both_le (is_single h roots) (λ v. nat_eq (block_of blocks v) b) pins in
      omega arith

  -- a net with fewer than two single vertices stays as it is
  pub pair_blocks_few : (roots bs : List ℕ) → length (filter (λ v. is_single h roots v) pins) ≤ 1 → pair_blocks h cap k (block_of blocks) roots pins bs ≡
      roots
  pair_blocks_few roots [] few = refl
  pair_blocks_few roots (b ∷ bs) few =
      ap (λ (rs : List ℕ). pair_blocks h cap k (block_of blocks) rs pins bs) (pair_up_short roots (lightest_first h cap k (block_of blocks) roots b pins)
      (lightest_short roots b few))
      ∙ pair_blocks_few roots bs few

  pub few_marked : (roots : List ℕ) (single : List Bool) → AreMarked h roots single → All (λ v. v < vertex_count h) pins →
      length (filter (λ v. get_or single v false) pins) < 2 → length (filter (λ v. is_single h roots v) pins) ≤ 1
  few_marked roots single m below few =
      let e = ap length (filter_same (λ v. get_or single v false) (λ v. is_single h roots v) pins (λ i d l. m.each (get_or pins i d) (below i d l))) in
      omega arith

  -- the blocks before b were paired
  pub record IsPairing (start : List ℕ) (first : List Bool) (b : ℕ) (roots : List ℕ) (single : List Bool) : Type 0 where
    pub rooted : IsRooted h cap roots
    pub marked : AreMarked h roots single
    pub fewer : AreFewer first single
    pub rest : pair_blocks h cap k (block_of blocks) roots pins (range_with_len b (k - b)) ≡ pair_blocks h cap k (block_of blocks) start pins
        (range_with_len 0 k)

  range_next : (b : ℕ) → b < k → range_with_len b (k - b) ≡ b ∷ range_with_len (b + 1) (k - (b + 1))
  range_next b l = ap (range_with_len b) (let e : k - b ≡ suc (k - (b + 1)) = omega arith in e)

  pub pairing_more : (start roots next : List ℕ) (first single marks : List Bool) (b : ℕ) → IsPairing start first b roots single → b < k
      → next ≡ pair_up h cap 1 no_block roots (lightest_first h cap 1 (block_of blocks) roots b pins) → IsRooted h cap next → AreMarked h next marks →
      AreFewer single marks → IsPairing start first (b + 1) next marks
  pairing_more start roots next first single marks b p l made r m f = record {
    rooted = r;
    marked = m;
    fewer = λ v e. p.fewer v (f v e);
    rest = ap (λ (rs : List ℕ). pair_blocks h cap k (block_of blocks) rs pins (range_with_len (b + 1) (k - (b + 1))))
        (made ∙ pair_up_any h cap k (block_of blocks) (lightest_first h cap 1 (block_of blocks) roots b pins) roots)
        ∙ ap (pair_blocks h cap k (block_of blocks) roots pins) (sym (range_next b l))
        ∙ p.rest;
  }

  pub pairing_end : (start roots : List ℕ) (first single : List Bool) (b : ℕ) → IsPairing start first b roots single → k ≤ b → roots ≡ pair_blocks h cap k
      (block_of blocks) start pins (range_with_len 0 k)
  pairing_end start roots first single b p l =
      ap (λ (n : ℕ). pair_blocks h cap k (block_of blocks) roots pins (range_with_len b n)) (let e : 0 ≡ k - b = omega arith in e) ∙ p.rest

-- ---- all nets

module _ (h : Hyper) (cap k : ℕ) (blocks : List ℕ) where
  -- what one net becomes
  pub small_net : (roots : List ℕ) (e : Net) (out : List ℕ) → length e.pins ≤ 1000 → out ≡ pair_blocks h cap k (block_of blocks) roots e.pins
      (range_with_len 0 k)
      → out ≡ pair_nets h cap k (block_of blocks) roots (e ∷ [])
  small_net roots e out small made =
      made ∙ ap (λ (b : Bool). if b then pair_blocks h cap k (block_of blocks) roots e.pins (range_with_len 0 k) else roots)
      (sym (le-leb (length e.pins) 1000 small))

  pub large_net : (roots : List ℕ) (e : Net) → 1000 < length e.pins → roots ≡ pair_nets h cap k (block_of blocks) roots (e ∷ [])
  large_net roots e large = ap (λ (b : Bool). if b then pair_blocks h cap k (block_of blocks) roots e.pins (range_with_len 0 k) else roots)
      (sym (lt-leb (length e.pins) 1000 large))

  -- a net with fewer than two marked pins stays, whatever its size
  pub few_net : (roots : List ℕ) (single : List Bool) (e : Net) → AreMarked h roots single → All (λ v. v < vertex_count h) e.pins →
      length (filter (λ v. get_or single v false) e.pins) < 2 → roots ≡ pair_nets h cap k (block_of blocks) roots (e ∷ [])
  few_net roots single e m below few = by (cases_lt 1000 (length e.pins))
    where
      by : (1000 < length e.pins) ⊎ (length e.pins ≤ 1000) → roots ≡ pair_nets h cap k (block_of blocks) roots (e ∷ [])
      by (inl large) = large_net roots e large
      by (inr small) = small_net roots e roots small
          (sym (pair_blocks_few h cap k blocks e.pins roots (range_with_len 0 k) (few_marked h cap k blocks e.pins roots single m below few)))

  -- the nets before e were visited
  pub record IsSweeping (start : List ℕ) (first : List Bool) (e : ℕ) (roots : List ℕ) (single : List Bool) : Type 0 where
    pub rooted : IsRooted h cap roots
    pub marked : AreMarked h roots single
    pub fewer : AreFewer first single
    pub rest : pair_nets h cap k (block_of blocks) roots (drop e h.nets) ≡ pair_nets h cap k (block_of blocks) start h.nets

  pub sweeping_more : (start roots next : List ℕ) (first single marks : List Bool) (e : ℕ) → IsSweeping start first e roots single → e < net_count h
      → next ≡ pair_nets h cap k (block_of blocks) roots (net_of h e ∷ []) → IsRooted h cap next → AreMarked h next marks → AreFewer single marks
      → IsSweeping start first (e + 1) next marks
  sweeping_more start roots next first single marks e s l made r m f = record {
    rooted = r;
    marked = m;
    fewer = λ v q. s.fewer v (f v q);
    rest = ap (λ (rs : List ℕ). pair_nets h cap k (block_of blocks) rs (drop (e + 1) h.nets)) made
        ∙ ap (pair_nets h cap k (block_of blocks) roots) (sym (drop_more h.nets e (record { weight = 0; pins = [] }) l))
        ∙ s.rest;
  }

  -- a net that had fewer than two single pins at first is passed over
  pub sweeping_past : (start roots : List ℕ) (first single : List Bool) (e : ℕ) → IsHypergraph h → IsSweeping start first e roots single → e < net_count h
      → marked_pins h first e < 2 → IsSweeping start first (e + 1) roots single
  sweeping_past start roots first single e sound s l few =
      let less = filter_le (λ v. get_or single v false) (λ v. get_or first v false) s.fewer (net_of h e).pins in
      let net = sound.nets e (record { weight = 0; pins = [] }) l in
      sweeping_more start roots roots first single single e s l (few_net roots single (net_of h e) s.marked net.pins (omega arith)) s.rooted s.marked
      (λ v q. q)

  pub sweeping_end : (start roots : List ℕ) (first single : List Bool) (e : ℕ) → IsSweeping start first e roots single → net_count h ≤ e → roots ≡ pair_nets h cap k
      (block_of blocks) start h.nets
  sweeping_end start roots first single e s l = ap (pair_nets h cap k (block_of blocks) roots) (sym (drop_all e h.nets l)) ∙ s.rest

-- ---- one block for all

pub zeros : (n v : ℕ) → block_of (replicate n 0) v ≡ 0
zeros zero v = refl
zeros (suc n) zero = refl
zeros (suc n) (suc v) = zeros n v

module _ (h : Hyper) (cap n : ℕ) where
  lightest_zeros : (roots pins : List ℕ) → lightest_first h cap 1 (block_of (replicate n 0)) roots 0 pins ≡ lightest_first h cap 1 no_block roots 0 pins
  lightest_zeros roots pins =
      ap (λ (vs : List ℕ). vertices_of (sorted lower_first (map (weighed h) vs)))
      (filter_same (λ v. is_single h roots v && nat_eq (block_of (replicate n 0) v) 0) (λ v. is_single h roots v && nat_eq 0 0) pins
      (λ k d l. ap (λ (b : ℕ). is_single h roots (get_or pins k d) && nat_eq b 0) (zeros n (get_or pins k d))))

  pub paired_zeros : (nets : List Net) (roots : List ℕ) → pair_nets h cap 1 (block_of (replicate n 0)) roots nets ≡ pair_nets h cap 1 no_block roots nets
  paired_zeros [] roots = refl
  paired_zeros (e ∷ nets) roots =
      ap (λ (rs : List ℕ). pair_nets h cap 1 (block_of (replicate n 0)) (if is_small e then rs else roots) nets)
      (sym (pair_up_any h cap 1 (block_of (replicate n 0)) (lightest_first h cap 1 (block_of (replicate n 0)) roots 0 e.pins) roots)
      ∙ ap (pair_up h cap 1 no_block roots) (lightest_zeros roots e.pins))
      ∙ paired_zeros nets (if is_small e then pair_up h cap 1 no_block roots (lightest_first h cap 1 no_block roots 0 e.pins) else roots)
