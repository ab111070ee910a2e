-- The next vertices of a side, found by asking all vertices in rising number.
use Rattle.std.proofs.Common.{◌≡◌, ℕ, suc, ◌+◌, ◌-◌, ◌<◌, ◌≤◌, Bool, true, false, ◌&&◌, not, nat_eq, nat_le, if◌then◌else◌, List, [], ◌∷◌, ◌++◌}
use Rattle.std.proofs.Common.{filter, All, Contains, refl, sym, ap, subst, ◌∙◌, arith, true≢false}
use Rattle.std.specs.List.{list_any, flat_map, range_with_len}
use Rattle.std.specs.Ordering.{nat_cmp}
use Rattle.std.specs.Set.{is_member}
use Rattle.std.proofs.lemmas.Bool.{and_parts, lt-leb}
use Rattle.std.proofs.lemmas.Cmp.{nat_cmp_total}
use Rattle.std.proofs.lemmas.List.FromFn.{length-range_with_len, get_or-range_with_len}
use Rattle.std.proofs.lemmas.List.Elements.{All-contains}
use Rattle.std.proofs.lemmas.List.Kept.{IsStrictlyIncreasing-filter}
use Rattle.hg_defs.specs.Hypergraph.{Hyper, IsHypergraph, net_of, net_count, vertices, vertex_count, weight_of}
use Rattle.hg_defs.specs.Incidence.{nets_of, is_on}
use Rattle.hg_defs.specs.Sorting.{set_of}
use Rattle.hg_defs.proofs.NumberingLaws.{Contains-from_filter, Contains_range, increasing-range}
use Rattle.hg_defs.proofs.PlacementLaws.{Contains_filter}
use Rattle.hg_defs.proofs.SortLaws.{nat_cmp_exact, Contains-set_of, Contains-from_set_of}
use Rattle.round_log.specs.Rounds.{is_near, is_next, taken}
use Rattle.flow_pair.specs.Sides.{is_free_in, free_pins, small_nets, is_reached, TakesAll, WeighsAtLeast}
use Rattle.flow_pair.proofs.FormLaws.{taken_none}
use Rattle.flow_pair.proofs.MemberLaws.{any_is, any_from, member_true, member_of, Contains-flat_map, Contains-from_flat_map, Contains-from_range, rising_is_filter}
use Rattle.flow_pair.proofs.NetLaws.{reached, next_listed, small_each, all_of}

-- ---- which vertices are next

module _ (h : Hyper) (p : List ℕ) (a b : ℕ) (sound : IsHypergraph h) (near small : List ℕ) (e : near ≡ filter (is_near h p a b) (vertices h))
    (all : small ≡ flat_map (small_nets h) near) where
  abbrev is_other : ℕ → Bool
  is_other v = not (is_member nat_eq near v)

  abbrev on_small : ℕ → Bool
  on_small v = list_any (is_member nat_eq small) (nets_of h v)

  -- the nets, as they are listed
  listed_net : (i : ℕ) → Contains small i → Contains (set_of nat_cmp (flat_map (small_nets h) near)) i
  listed_net i c = Contains-set_of nat_cmp_total nat_cmp_exact (flat_map (small_nets h) near) i (subst (λ es. Contains es i) all c)

  found_net : (i : ℕ) → Contains (set_of nat_cmp (flat_map (small_nets h) near)) i → Contains small i
  found_net i c = subst (λ es. Contains es i) (sym all) (Contains-from_set_of nat_cmp_total nat_cmp_exact (flat_map (small_nets h) near) i c)

  reached_is_next : (v : ℕ) → is_reached h p a near small v ≡ true → is_next h p a b v ≡ true
  reached_is_next v t =
      let free = and_parts (is_free_in h p a v) (on_small v && is_other v) t in
      let other = and_parts (on_small v) (is_other v) free.1 in
      let net = any_is (is_member nat_eq small) (nets_of h v) other.0 in
      let on = Contains-from_filter (is_on h v) (range_with_len 0 (net_count h)) net.0 net.1 in
      let pin = Contains_filter (is_free_in h p a) (net_of h net.0).pins v (member_of (net_of h net.0).pins v on.1) free.0 in
      let nets = set_of nat_cmp (flat_map (small_nets h) near) in
      let pins = Contains-flat_map (free_pins h p a) nets net.0 v (listed_net net.0 (member_of small net.0 net.2)) pin in
      let found = Contains_filter is_other (reached h p a b sound near) v
      (Contains-set_of nat_cmp_total nat_cmp_exact (flat_map (free_pins h p a) nets) v pins) other.1 in
      (Contains-from_filter (is_next h p a b) (vertices h) v (subst (λ xs. Contains xs v) (next_listed h p a b sound near e) found)).1

  next_is_reached : (v : ℕ) → v < vertex_count h → is_next h p a b v ≡ true → is_reached h p a near small v ≡ true
  next_is_reached v low t =
      let nets = set_of nat_cmp (flat_map (small_nets h) near) in
      let kept = Contains_filter (is_next h p a b) (vertices h) v (Contains_range 0 (vertex_count h) v (omega arith) (omega arith)) t in
      let found = Contains-from_filter is_other (reached h p a b sound near) v (subst (λ xs. Contains xs v) (sym (next_listed h p a b sound near e)) kept) in
      let net = Contains-from_flat_map (free_pins h p a) nets v
      (Contains-from_set_of nat_cmp_total nat_cmp_exact (flat_map (free_pins h p a) nets) v found.0) in
      let i = net.0 in
      let pin = Contains-from_filter (is_free_in h p a) (net_of h i).pins v net.2 in
      let member = found_net i net.1 in
      let low_net = All-contains (λ n. n < net_count h) small i (subst (All (λ n. n < net_count h)) (sym all) (small_each h near)) member in
      let on = Contains_filter (is_on h v) (range_with_len 0 (net_count h)) i (Contains_range 0 (net_count h) i (omega arith) (omega arith))
      (member_true (net_of h i).pins v pin.0) in
      let any = any_from (is_member nat_eq small) (nets_of h v) i on (member_true small i member) in
      ap (λ s. s && (on_small v && is_other v)) pin.1 ∙ ap (λ s. s && is_other v) any ∙ found.1

  pub reached_are_next : filter (is_reached h p a near small) (vertices h) ≡ filter (is_next h p a b) (vertices h)
  reached_are_next =
      rising_is_filter (filter (is_reached h p a near small) (vertices h)) (is_next h p a b) (vertex_count h)
      (IsStrictlyIncreasing-filter (is_reached h p a near small) (vertices h) (increasing-range 0 (vertex_count h)))
      (λ v c. let x = Contains-from_filter (is_reached h p a near small) (vertices h) v c in (Contains-from_range (vertex_count h) v x.0, reached_is_next v x.1))
      (λ v low t. Contains_filter (is_reached h p a near small) (vertices h) v (Contains_range 0 (vertex_count h) v (omega arith) (omega arith))
      (next_is_reached v low t))

-- ---- one vertex after the other

-- those of the vertices from one on that pass
abbrev pub rest : (ℕ → Bool) → ℕ → ℕ → List ℕ
rest test n v = filter test (range_with_len v (n - v))

pub rest_all : (test : ℕ → Bool) (n : ℕ) → rest test n 0 ≡ filter test (range_with_len 0 n)
rest_all test n = let all : n - 0 ≡ n = omega arith in ap (λ m. filter test (range_with_len 0 m)) all

module _ (h : Hyper) (test : ℕ → Bool) (n v left : ℕ) (list : List ℕ) (low : v < n) where
  rest_from : rest test n v ≡ (if test v then v ∷ rest test n (v + 1) else rest test n (v + 1))
  rest_from = let more : n - v ≡ suc (n - (v + 1)) = omega arith in ap (λ m. filter test (range_with_len v m)) more

  pub scan_heavy : left < weight_of h v → list ++ taken h left (rest test n v) ≡ list ++ taken h left (rest test n (v + 1))
  scan_heavy heavy = ap (λ xs. list ++ taken h left xs) rest_from ∙ ap (λ xs. list ++ xs) (by (test v))
    where
      by : (t : Bool) → taken h left (if t then v ∷ rest test n (v + 1) else rest test n (v + 1)) ≡ taken h left (rest test n (v + 1))
      by true = light (nat_le (weight_of h v) left) (lt-leb (weight_of h v) left heavy)
        where
          light : (t : Bool) → t ≡ false → (let later = taken h (if t then left - weight_of h v else left) (rest test n (v + 1)) in if t then v ∷ later else later)
              ≡ taken h left (rest test n (v + 1))
          light true e = absurd (true≢false e)
          light false e = refl
      by false = refl

  pub scan_other : test v ≡ false → list ++ taken h left (rest test n v) ≡ list ++ taken h left (rest test n (v + 1))
  scan_other e = ap (λ xs. list ++ taken h left xs) (rest_from ∙ ap (λ t. if t then v ∷ rest test n (v + 1) else rest test n (v + 1)) e)

  pub scan_taken : (left' : ℕ) (list' : List ℕ) → test v ≡ true → TakesAll h left (v ∷ []) list list' left'
      → list' ++ taken h left' (rest test n (v + 1)) ≡ list ++ taken h left (rest test n v)
  scan_taken left' list' e one =
      one (rest test n (v + 1))
      ∙ ap (λ xs. list ++ taken h left xs) (sym (rest_from ∙ ap (λ t. if t then v ∷ rest test n (v + 1) else rest test n (v + 1)) e))

-- where no vertex has room, none of the others is taken
pub scan_full : (h : Hyper) (test : ℕ → Bool) (v left least : ℕ) → WeighsAtLeast h least → left < least → v ≤ vertex_count h
    → taken h left (rest test (vertex_count h) v) ≡ []
scan_full h test v left least weighs short low =
    taken_none h least left (rest test (vertex_count h) v) weighs short
    (all_of (λ u. u < vertex_count h) (rest test (vertex_count h) v) (λ u c. below u (Contains-from_filter test (range_with_len v (vertex_count h - v)) u c).0))
  where
    below : (u : ℕ) → Contains (range_with_len v (vertex_count h - v)) u → u < vertex_count h
    below u c =
        let long = length-range_with_len v (vertex_count h - v) in
        let inside = c.1 in
        let at = c.2 in
        let is = get_or-range_with_len v (vertex_count h - v) c.0 u (omega arith) in
        omega arith
