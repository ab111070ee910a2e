-- The cuts of the solver's network: what a net adds to one, by the sides of its ends.
use Rattle.std.proofs.Common.{◌≡◌, ◌≢◌, ◌⊎◌, inl, inr, ℕ, suc, ◌+◌, ◌<◌, ◌≤◌, Bool, true, false, ◌&&◌, ◌||◌, not, nat_eq, nat_lt}
use Rattle.std.proofs.Common.{if◌then◌else◌, List, [], ◌∷◌, ◌++◌, length, refl, sym, ap, ap₂, ◌∙◌, subst, arith, slice_index, append_assoc}
use Rattle.std.specs.List.{list_any, position_or_len}
use Rattle.std.specs.Set.{is_member}
use Rattle.std.proofs.lemmas.Bool.{cases_lt, eq-eqb, ne_eqb, lt-ltb, le-ltb}
use Rattle.std.proofs.lemmas.List.{get_or_at, get_or_append_left, length-append, length-map}
use Rattle.flow_net.specs.declared.network.Arc.{Arc}
use Rattle.flow_net.specs.Flow.{FlowNetwork, is_in, cut_capacity}
use Rattle.hg_defs.specs.Sums.{total}
use Rattle.hg_defs.specs.Hypergraph.{Net, Hyper}
use Rattle.hg_defs.specs.Partition.{block_of}
use Rattle.hg_defs.proofs.SumLaws.{total-append}
use Rattle.round_log.specs.Rounds.{has_pin, pair_cost, IsAssignment}
use Rattle.flow_pair.specs.PairNetwork.{source_node, sink_node, unbounded, net_price, joined_nets, has_pin_outside, AreOfPair}
use Rattle.flow_pair.specs.ShortNetwork.{inner_nodes, arcs_to_each, arcs_from_each, source_arcs, sink_arcs, inner_arcs, end_arcs}
use Rattle.flow_pair.specs.ShortNetwork.{outer_count, inner_count, end_count, short_arcs, short_count, all_short_arcs, fixed_price, fixed_cost, short_network}
use Rattle.flow_pair.proofs.PairLaws.{rearranged}
use Rattle.flow_pair.proofs.RegionLaws.{member-position}
use Rattle.flow_pair.proofs.CheapestLaws.{crossing, cut-total, different, position-at, position-past, touched-all, HasPlaces, CutsPay}
use Rattle.flow_pair.proofs.AssignmentLaws.{region_flags, get_or-map_at}

and_true : (t : Bool) → (t && true) ≡ t
and_true true = refl
and_true false = refl

and_false : (t : Bool) → (t && false) ≡ false
and_false true = refl
and_false false = refl

module _ (side : List Bool) where
  -- whether some of the nodes are on the side of the source, and on that of the sink
  abbrev any_in : List ℕ → Bool
  any_in nodes = list_any (is_in side) nodes

  abbrev any_out : List ℕ → Bool
  any_out nodes = list_any (λ n. not (is_in side n)) nodes

  -- ---- arcs without limit

  to-none : (cap at : ℕ) (nodes : List ℕ) → (is_in side at ≡ true → any_out nodes ≡ false) → total (crossing side) (arcs_to_each cap at nodes) ≡ 0
  to-none cap at [] f = refl
  to-none cap at (n ∷ nodes) f = by (is_in side at) (is_in side n) f (to-none cap at nodes)
    where
      by : (S N : Bool) → (S ≡ true → (not N || any_out nodes) ≡ false)
          → ((S ≡ true → any_out nodes ≡ false) → total (crossing side) (arcs_to_each cap at nodes) ≡ 0)
          → (if S && not N then cap else 0) + total (crossing side) (arcs_to_each cap at nodes) ≡ 0
      by true true f r = let z = r f in omega arith
      by true false f r = absurd (different (f refl))
      by false N f r = let z = r (λ e. absurd (different (sym e))) in omega arith

  to-some : (cap at : ℕ) (nodes : List ℕ) → is_in side at ≡ true → any_out nodes ≡ true → cap ≤ total (crossing side) (arcs_to_each cap at nodes)
  to-some cap at [] e f = absurd (different (sym f))
  to-some cap at (n ∷ nodes) e f = by (is_in side at) (is_in side n) e f (to-some cap at nodes e)
    where
      by : (S N : Bool) → S ≡ true → (not N || any_out nodes) ≡ true
          → (any_out nodes ≡ true → cap ≤ total (crossing side) (arcs_to_each cap at nodes))
          → cap ≤ (if S && not N then cap else 0) + total (crossing side) (arcs_to_each cap at nodes)
      by true true e f r = let z = r f in omega arith
      by true false e f r = omega arith
      by false N e f r = absurd (different (sym e))

  from-none : (cap at : ℕ) (nodes : List ℕ) → (is_in side at ≡ false → any_in nodes ≡ false) → total (crossing side) (arcs_from_each cap at nodes) ≡ 0
  from-none cap at [] f = refl
  from-none cap at (n ∷ nodes) f = by (is_in side at) (is_in side n) f (from-none cap at nodes)
    where
      by : (S N : Bool) → (S ≡ false → (N || any_in nodes) ≡ false)
          → ((S ≡ false → any_in nodes ≡ false) → total (crossing side) (arcs_from_each cap at nodes) ≡ 0)
          → (if N && not S then cap else 0) + total (crossing side) (arcs_from_each cap at nodes) ≡ 0
      by false true f r = absurd (different (f refl))
      by false false f r = let z = r f in omega arith
      by true true f r = let z = r (λ e. absurd (different e)) in omega arith
      by true false f r = let z = r (λ e. absurd (different e)) in omega arith

  from-some : (cap at : ℕ) (nodes : List ℕ) → is_in side at ≡ false → any_in nodes ≡ true → cap ≤ total (crossing side) (arcs_from_each cap at nodes)
  from-some cap at [] e f = absurd (different (sym f))
  from-some cap at (n ∷ nodes) e f = by (is_in side at) (is_in side n) e f (from-some cap at nodes e)
    where
      by : (S N : Bool) → S ≡ false → (N || any_in nodes) ≡ true
          → (any_in nodes ≡ true → cap ≤ total (crossing side) (arcs_from_each cap at nodes))
          → cap ≤ (if N && not S then cap else 0) + total (crossing side) (arcs_from_each cap at nodes)
      by false true e f r = omega arith
      by false false e f r = let z = r f in omega arith
      by true N e f r = absurd (different e)

  -- ---- the nodes of a net, where they cost least

  abbrev OuterFits : ℕ → Bool → List ℕ → Type 0
  OuterFits at own [] = Unit {0}
  OuterFits at own (n ∷ []) = Unit {0}
  OuterFits at own (m ∷ n ∷ nodes) = is_in side at ≡ own

  abbrev InnerFits : ℕ → List ℕ → Type 0
  InnerFits at [] = Unit {0}
  InnerFits at (n ∷ []) = Unit {0}
  InnerFits at (m ∷ n ∷ []) = Unit {0}
  InnerFits at (l ∷ m ∷ n ∷ nodes) =
      (is_in side at ≡ any_in (l ∷ m ∷ n ∷ nodes)) × (is_in side (at + 1) ≡ not (any_out (l ∷ m ∷ n ∷ nodes)))

  abbrev EndFits : Bool → Bool → ℕ → List ℕ → Type 0
  EndFits true true at nodes = Unit {0}
  EndFits true false at nodes = OuterFits at (not (any_out nodes)) nodes
  EndFits false true at nodes = OuterFits at (any_in nodes) nodes
  EndFits false false at nodes = InnerFits at nodes

  -- ---- a net without pins outside

  inner-exact : (most price at : ℕ) (nodes : List ℕ) → InnerFits at nodes
      → total (crossing side) (inner_arcs most price at nodes) ≡ (if any_in nodes && any_out nodes then price else 0)
  inner-exact most price at [] fit = refl
  inner-exact most price at (n ∷ []) fit = by (is_in side n)
    where
      by : (N : Bool) → 0 ≡ (if (N || false) && (not N || false) then price else 0)
      by true = refl
      by false = refl
  inner-exact most price at (m ∷ n ∷ []) fit = by (is_in side m) (is_in side n)
    where
      by : (M N : Bool) → (if M && not N then price else 0) + ((if N && not M then price else 0) + 0)
          ≡ (if (M || (N || false)) && (not M || (not N || false)) then price else 0)
      by true true = omega arith
      by true false = omega arith
      by false true = omega arith
      by false false = omega arith
  inner-exact most price at (l ∷ m ∷ n ∷ nodes) fit =
      let all = l ∷ m ∷ n ∷ nodes in
      let split = total-append (crossing side) (arcs_from_each most at all) (arcs_to_each most (at + 1) all) in
      by (is_in side at) (is_in side (at + 1)) (any_in all) (any_out all) fit.0 fit.1 (from-none most at all) (to-none most (at + 1) all) split
    where
      by : (S T I O : Bool) → S ≡ I → T ≡ not O
          → ((S ≡ false → I ≡ false) → total (crossing side) (arcs_from_each most at (l ∷ m ∷ n ∷ nodes)) ≡ 0)
          → ((T ≡ true → O ≡ false) → total (crossing side) (arcs_to_each most (at + 1) (l ∷ m ∷ n ∷ nodes)) ≡ 0)
          → total (crossing side) (arcs_from_each most at (l ∷ m ∷ n ∷ nodes) ++ arcs_to_each most (at + 1) (l ∷ m ∷ n ∷ nodes))
          ≡ total (crossing side) (arcs_from_each most at (l ∷ m ∷ n ∷ nodes)) + total (crossing side) (arcs_to_each most (at + 1) (l ∷ m ∷ n ∷ nodes))
          → (if S && not T then price else 0)
          + total (crossing side) (arcs_from_each most at (l ∷ m ∷ n ∷ nodes) ++ arcs_to_each most (at + 1) (l ∷ m ∷ n ∷ nodes))
          ≡ (if I && O then price else 0)
      by S T I O e f from to split =
          let x = from (λ g. sym e ∙ g) in
          let y = to (λ g. opposite T O f g) in
          let z : (if S && not T then price else 0) ≡ (if I && O then price else 0) =
          ap₂ (λ (s t : Bool). if s && not t then price else 0) e f ∙ ap (λ t. if I && t then price else 0) (twice O) in
          omega arith
        where
          opposite : (T O : Bool) → T ≡ not O → T ≡ true → O ≡ false
          opposite T true f g = absurd (different (sym g ∙ f))
          opposite T false f g = refl

          twice : (t : Bool) → not (not t) ≡ t
          twice true = refl
          twice false = refl

  inner-within : (most price at : ℕ) (nodes : List ℕ) → total (crossing side) (inner_arcs most price at nodes) < most
      → (if any_in nodes && any_out nodes then price else 0) ≤ total (crossing side) (inner_arcs most price at nodes)
  inner-within most price at [] small = let e = inner-exact most price at [] tt in omega arith
  inner-within most price at (n ∷ []) small = let e = inner-exact most price at (n ∷ []) tt in omega arith
  inner-within most price at (m ∷ n ∷ []) small = let e = inner-exact most price at (m ∷ n ∷ []) tt in omega arith
  inner-within most price at (l ∷ m ∷ n ∷ nodes) small =
      let all = l ∷ m ∷ n ∷ nodes in
      let split = total-append (crossing side) (arcs_from_each most at all) (arcs_to_each most (at + 1) all) in
      by (is_in side at) (is_in side (at + 1)) (any_in all) (any_out all) (from-some most at all) (to-some most (at + 1) all) split small
    where
      by : (S T I O : Bool)
          → (S ≡ false → I ≡ true → most ≤ total (crossing side) (arcs_from_each most at (l ∷ m ∷ n ∷ nodes)))
          → (T ≡ true → O ≡ true → most ≤ total (crossing side) (arcs_to_each most (at + 1) (l ∷ m ∷ n ∷ nodes)))
          → total (crossing side) (arcs_from_each most at (l ∷ m ∷ n ∷ nodes) ++ arcs_to_each most (at + 1) (l ∷ m ∷ n ∷ nodes))
          ≡ total (crossing side) (arcs_from_each most at (l ∷ m ∷ n ∷ nodes)) + total (crossing side) (arcs_to_each most (at + 1) (l ∷ m ∷ n ∷ nodes))
          → (if S && not T then price else 0)
          + total (crossing side) (arcs_from_each most at (l ∷ m ∷ n ∷ nodes) ++ arcs_to_each most (at + 1) (l ∷ m ∷ n ∷ nodes)) < most
          → (if I && O then price else 0) ≤ (if S && not T then price else 0)
          + total (crossing side) (arcs_from_each most at (l ∷ m ∷ n ∷ nodes) ++ arcs_to_each most (at + 1) (l ∷ m ∷ n ∷ nodes))
      by true false true true from to split small = omega arith
      by true true true true from to split small = absurd (let z = to refl refl in omega arith)
      by false T true true from to split small = absurd (let z = from refl refl in omega arith)
      by S T true false from to split small = omega arith
      by S T false O from to split small = omega arith

  -- ---- a net with pins outside in one block

  module _ (source : is_in side source_node ≡ true) (sink : is_in side sink_node ≡ false) where
    source-exact : (most price at : ℕ) (nodes : List ℕ) → OuterFits at (not (any_out nodes)) nodes
        → total (crossing side) (source_arcs most price at nodes) ≡ (if any_out nodes then price else 0)
    source-exact most price at [] fit = refl
    source-exact most price at (n ∷ []) fit = by (is_in side source_node) (is_in side n) source
      where
        by : (S N : Bool) → S ≡ true → (if S && not N then price else 0) + 0 ≡ (if not N || false then price else 0)
        by true true e = omega arith
        by true false e = omega arith
        by false N e = absurd (different (sym e))
    source-exact most price at (m ∷ n ∷ nodes) fit =
        by (is_in side source_node) (is_in side at) (any_out (m ∷ n ∷ nodes)) source fit (to-none most at (m ∷ n ∷ nodes))
      where
        by : (S T O : Bool) → S ≡ true → T ≡ not O
            → ((T ≡ true → O ≡ false) → total (crossing side) (arcs_to_each most at (m ∷ n ∷ nodes)) ≡ 0)
            → (if S && not T then price else 0) + total (crossing side) (arcs_to_each most at (m ∷ n ∷ nodes)) ≡ (if O then price else 0)
        by true true true e f r = absurd (different f)
        by true true false e f r = let z = r (λ g. refl) in omega arith
        by true false true e f r = let z = r (λ g. absurd (different (sym g))) in omega arith
        by true false false e f r = absurd (different (sym f))
        by false T O e f r = absurd (different (sym e))

    source-within : (most price at : ℕ) (nodes : List ℕ) → total (crossing side) (source_arcs most price at nodes) < most
        → (if any_out nodes then price else 0) ≤ total (crossing side) (source_arcs most price at nodes)
    source-within most price at [] small = omega arith
    source-within most price at (n ∷ []) small = let e = source-exact most price at (n ∷ []) tt in omega arith
    source-within most price at (m ∷ n ∷ nodes) small =
        by (is_in side source_node) (is_in side at) (any_out (m ∷ n ∷ nodes)) source (to-some most at (m ∷ n ∷ nodes)) small
      where
        by : (S T O : Bool) → S ≡ true → (T ≡ true → O ≡ true → most ≤ total (crossing side) (arcs_to_each most at (m ∷ n ∷ nodes)))
            → (if S && not T then price else 0) + total (crossing side) (arcs_to_each most at (m ∷ n ∷ nodes)) < most
            → (if O then price else 0) ≤ (if S && not T then price else 0) + total (crossing side) (arcs_to_each most at (m ∷ n ∷ nodes))
        by true true true e r small = absurd (let z = r refl refl in omega arith)
        by true false true e r small = omega arith
        by true T false e r small = omega arith
        by false T O e r small = absurd (different (sym e))

    sink-exact : (most price at : ℕ) (nodes : List ℕ) → OuterFits at (any_in nodes) nodes
        → total (crossing side) (sink_arcs most price at nodes) ≡ (if any_in nodes then price else 0)
    sink-exact most price at [] fit = refl
    sink-exact most price at (n ∷ []) fit = by (is_in side sink_node) (is_in side n) sink
      where
        by : (S N : Bool) → S ≡ false → (if N && not S then price else 0) + 0 ≡ (if N || false then price else 0)
        by false true e = omega arith
        by false false e = omega arith
        by true N e = absurd (different e)
    sink-exact most price at (m ∷ n ∷ nodes) fit =
        by (is_in side sink_node) (is_in side at) (any_in (m ∷ n ∷ nodes)) sink fit (from-none most at (m ∷ n ∷ nodes))
      where
        by : (S T I : Bool) → S ≡ false → T ≡ I
            → ((T ≡ false → I ≡ false) → total (crossing side) (arcs_from_each most at (m ∷ n ∷ nodes)) ≡ 0)
            → (if T && not S then price else 0) + total (crossing side) (arcs_from_each most at (m ∷ n ∷ nodes)) ≡ (if I then price else 0)
        by false true true e f r = let z = r (λ g. g) in omega arith
        by false true false e f r = absurd (different f)
        by false false true e f r = absurd (different (sym f))
        by false false false e f r = let z = r (λ g. g) in omega arith
        by true T I e f r = absurd (different e)

    sink-within : (most price at : ℕ) (nodes : List ℕ) → total (crossing side) (sink_arcs most price at nodes) < most
        → (if any_in nodes then price else 0) ≤ total (crossing side) (sink_arcs most price at nodes)
    sink-within most price at [] small = omega arith
    sink-within most price at (n ∷ []) small = let e = sink-exact most price at (n ∷ []) tt in omega arith
    sink-within most price at (m ∷ n ∷ nodes) small =
        by (is_in side sink_node) (is_in side at) (any_in (m ∷ n ∷ nodes)) sink (from-some most at (m ∷ n ∷ nodes)) small
      where
        by : (S T I : Bool) → S ≡ false → (T ≡ false → I ≡ true → most ≤ total (crossing side) (arcs_from_each most at (m ∷ n ∷ nodes)))
            → (if T && not S then price else 0) + total (crossing side) (arcs_from_each most at (m ∷ n ∷ nodes)) < most
            → (if I then price else 0) ≤ (if T && not S then price else 0) + total (crossing side) (arcs_from_each most at (m ∷ n ∷ nodes))
        by false false true e r small = absurd (let z = r refl refl in omega arith)
        by false true true e r small = omega arith
        by false T false e r small = omega arith
        by true T I e r small = absurd (different e)

    -- ---- any net

    end-exact : (A B : Bool) (most price at : ℕ) (nodes : List ℕ) → EndFits A B at nodes
        → total (crossing side) (end_arcs A B most price at nodes) + (if A && B then price else 0)
        ≡ (if (A || any_in nodes) && (B || any_out nodes) then price else 0)
    end-exact true true most price at nodes fit = omega arith
    end-exact true false most price at nodes fit = let e = source-exact most price at nodes fit in omega arith
    end-exact false true most price at nodes fit =
        let e = sink-exact most price at nodes fit in
        let f = ap (λ t. if t then price else 0) (and_true (any_in nodes)) in
        omega arith
    end-exact false false most price at nodes fit = let e = inner-exact most price at nodes fit in omega arith

    end-within : (A B : Bool) (most price at : ℕ) (nodes : List ℕ) → total (crossing side) (end_arcs A B most price at nodes) < most
        → (if (A || any_in nodes) && (B || any_out nodes) then price else 0)
        ≤ total (crossing side) (end_arcs A B most price at nodes) + (if A && B then price else 0)
    end-within true true most price at nodes small = omega arith
    end-within true false most price at nodes small = let e = source-within most price at nodes small in omega arith
    end-within false true most price at nodes small =
        let e = sink-within most price at nodes small in
        let f = ap (λ t. if t then price else 0) (and_true (any_in nodes)) in
        omega arith
    end-within false false most price at nodes small = let e = inner-within most price at nodes small in omega arith

-- ---- the flags of a net's own nodes

abbrev outer_flags : Bool → List ℕ → List Bool
outer_flags own [] = []
outer_flags own (n ∷ []) = []
outer_flags own (m ∷ n ∷ nodes) = own ∷ []

abbrev inner_flags : Bool → Bool → List ℕ → List Bool
inner_flags first second [] = []
inner_flags first second (n ∷ []) = []
inner_flags first second (m ∷ n ∷ []) = []
inner_flags first second (l ∷ m ∷ n ∷ nodes) = first ∷ second ∷ []

abbrev end_flags : Bool → Bool → Bool → Bool → List ℕ → List Bool
end_flags true true some_in some_out nodes = []
end_flags true false some_in some_out nodes = outer_flags (not some_out) nodes
end_flags false true some_in some_out nodes = outer_flags some_in nodes
end_flags false false some_in some_out nodes = inner_flags some_in (not some_out) nodes

length-outer_flags : (own : Bool) (nodes : List ℕ) → length (outer_flags own nodes) ≡ outer_count nodes
length-outer_flags own [] = refl
length-outer_flags own (n ∷ []) = refl
length-outer_flags own (m ∷ n ∷ nodes) = refl

length-inner_flags : (first second : Bool) (nodes : List ℕ) → length (inner_flags first second nodes) ≡ inner_count nodes
length-inner_flags first second [] = refl
length-inner_flags first second (n ∷ []) = refl
length-inner_flags first second (m ∷ n ∷ []) = refl
length-inner_flags first second (l ∷ m ∷ n ∷ nodes) = refl

length-end_flags : (A B some_in some_out : Bool) (nodes : List ℕ) → length (end_flags A B some_in some_out nodes) ≡ end_count A B nodes
length-end_flags true true some_in some_out nodes = refl
length-end_flags true false some_in some_out nodes = length-outer_flags (not some_out) nodes
length-end_flags false true some_in some_out nodes = length-outer_flags some_in nodes
length-end_flags false false some_in some_out nodes = length-inner_flags some_in (not some_out) nodes

outer-fits : (side before later : List Bool) (at : ℕ) (own : Bool) (nodes : List ℕ) → at ≡ length before
    → side ≡ before ++ (outer_flags own nodes ++ later) → OuterFits side at own nodes
outer-fits side before later at own [] e is = tt
outer-fits side before later at own (n ∷ []) e is = tt
outer-fits side before later at own (m ∷ n ∷ nodes) e is = ap (λ s. is_in s at) is ∙ get_or_at before own later false at (sym e)

inner-fits : (side before later : List Bool) (at : ℕ) (first second : Bool) (nodes : List ℕ) → at ≡ length before
    → side ≡ before ++ (inner_flags first second nodes ++ later) → first ≡ any_in side nodes → second ≡ not (any_out side nodes) → InnerFits side at nodes
inner-fits side before later at first second [] e is f g = tt
inner-fits side before later at first second (n ∷ []) e is f g = tt
inner-fits side before later at first second (m ∷ n ∷ []) e is f g = tt
inner-fits side before later at first second (l ∷ m ∷ n ∷ nodes) e is f g =
    let next : side ≡ (before ++ first ∷ []) ++ (second ∷ later) = is ∙ sym (append_assoc before (first ∷ []) (second ∷ later)) in
    let long : length (before ++ first ∷ []) ≡ at + 1 = (let x = length-append before (first ∷ []) in omega arith) in (
      ap (λ s. is_in s at) is ∙ get_or_at before first (second ∷ later) false at (sym e) ∙ f,
      ap (λ s. is_in s (at + 1)) next ∙ get_or_at (before ++ first ∷ []) second later false (at + 1) long ∙ g,
    )

end-fits : (side before later : List Bool) (at : ℕ) (A B : Bool) (nodes : List ℕ) (some_in some_out : Bool) → at ≡ length before
    → side ≡ before ++ (end_flags A B some_in some_out nodes ++ later) → some_in ≡ any_in side nodes → some_out ≡ any_out side nodes
    → EndFits side A B at nodes
end-fits side before later at true true nodes some_in some_out e is f g = tt
end-fits side before later at true false nodes some_in some_out e is f g =
    outer-fits side before later at (not (any_out side nodes)) nodes e (is ∙ ap (λ t. before ++ (outer_flags (not t) nodes ++ later)) g)
end-fits side before later at false true nodes some_in some_out e is f g =
    outer-fits side before later at (any_in side nodes) nodes e (is ∙ ap (λ t. before ++ (outer_flags t nodes ++ later)) f)
end-fits side before later at false false nodes some_in some_out e is f g =
    inner-fits side before later at some_in (not some_out) nodes e is f (ap not g)

-- ---- where the pins of a net are

grouped : (x o i : Bool) → (x || (o || i)) ≡ ((x || o) || i)
grouped true o i = refl
grouped false o i = refl

between : (x o i : Bool) → (x || (o || i)) ≡ ((false || o) || (x || i))
between true true i = refl
between true false i = refl
between false true i = refl
between false false i = refl

-- two tests alike of the nodes of a region
inner-same : (region : List ℕ) (f g : ℕ → Bool) → ((i : ℕ) → i < length region → f (2 + i) ≡ g (2 + i)) → (pins : List ℕ)
    → list_any f (inner_nodes region pins) ≡ list_any g (inner_nodes region pins)
inner-same region f g same [] = refl
inner-same region f g same (v ∷ pins) = by (cases_lt (position_or_len (nat_eq v) region) (length region)) (inner-same region f g same pins)
  where
    place : ℕ
    place = position_or_len (nat_eq v) region

    by : (position_or_len (nat_eq v) region < length region) ⊎ (length region ≤ position_or_len (nat_eq v) region)
        → list_any f (inner_nodes region pins) ≡ list_any g (inner_nodes region pins)
        → list_any f (if nat_lt (position_or_len (nat_eq v) region) (length region) then (2 + position_or_len (nat_eq v) region) ∷ inner_nodes region pins
        else inner_nodes region pins)
        ≡ list_any g (if nat_lt (position_or_len (nat_eq v) region) (length region) then (2 + position_or_len (nat_eq v) region) ∷ inner_nodes region pins
        else inner_nodes region pins)
    by (inl l) e =
        let t = lt-ltb (position_or_len (nat_eq v) region) (length region) l in
        ap (λ (b : Bool). list_any f (if b then (2 + position_or_len (nat_eq v) region) ∷ inner_nodes region pins else inner_nodes region pins)) t
        ∙ ap₂ (λ s r. s || r) (same (position_or_len (nat_eq v) region) l) e
        ∙ sym (ap (λ (b : Bool). list_any g (if b then (2 + position_or_len (nat_eq v) region) ∷ inner_nodes region pins else inner_nodes region pins)) t)
    by (inr l) e =
        let t = le-ltb (position_or_len (nat_eq v) region) (length region) l in
        ap (λ (b : Bool). list_any f (if b then (2 + position_or_len (nat_eq v) region) ∷ inner_nodes region pins else inner_nodes region pins)) t
        ∙ e
        ∙ sym (ap (λ (b : Bool). list_any g (if b then (2 + position_or_len (nat_eq v) region) ∷ inner_nodes region pins else inner_nodes region pins)) t)

module _ (p q : List ℕ) (a b : ℕ) (region : List ℕ) (s : IsAssignment p a b region q) where
  -- a net has a pin in a block where it has one outside of the region, or a node that passes for the block
  pins-told : (c : ℕ) (test : ℕ → Bool) → ((i : ℕ) → i < length region → test (2 + i) ≡ nat_eq (block_of q (slice_index region i)) c) → (pins : List ℕ)
      → list_any (λ v. nat_eq (block_of q v) c) pins
      ≡ (list_any (λ v. nat_eq (block_of p v) c && not (is_member nat_eq region v)) pins || list_any test (inner_nodes region pins))
  pins-told c test told [] = refl
  pins-told c test told (v ∷ pins) =
      ap (λ t. nat_eq (block_of q v) c || t) (pins-told c test told pins)
      ∙ by (cases_lt (position_or_len (nat_eq v) region) (length region))
      (list_any (λ v. nat_eq (block_of p v) c && not (is_member nat_eq region v)) pins) (inner_nodes region pins)
    where
      by : (position_or_len (nat_eq v) region < length region) ⊎ (length region ≤ position_or_len (nat_eq v) region) → (O : Bool) (nodes : List ℕ)
          → (nat_eq (block_of q v) c || (O || list_any test nodes))
          ≡ (((nat_eq (block_of p v) c && not (is_member nat_eq region v)) || O)
          || list_any test (if nat_lt (position_or_len (nat_eq v) region) (length region) then (2 + position_or_len (nat_eq v) region) ∷ nodes else nodes))
      by (inl l) O nodes =
          let t = lt-ltb (position_or_len (nat_eq v) region) (length region) l in
          let member : is_member nat_eq region v ≡ true = member-position region v ∙ t in
          let here : test (2 + position_or_len (nat_eq v) region) ≡ nat_eq (block_of q v) c =
          told (position_or_len (nat_eq v) region) l ∙ ap (λ u. nat_eq (block_of q u) c) (position-at region v l) in
          between (nat_eq (block_of q v) c) O (list_any test nodes)
          ∙ ap (λ x. (false || O) || (x || list_any test nodes)) (sym here)
          ∙ ap (λ x. (x || O) || (test (2 + position_or_len (nat_eq v) region) || list_any test nodes))
          (sym (ap (λ m. nat_eq (block_of p v) c && not m) member ∙ and_false (nat_eq (block_of p v) c)))
          ∙ sym (ap (λ (z : Bool). ((nat_eq (block_of p v) c && not (is_member nat_eq region v)) || O)
          || list_any test (if z then (2 + position_or_len (nat_eq v) region) ∷ nodes else nodes)) t)
      by (inr l) O nodes =
          let t = le-ltb (position_or_len (nat_eq v) region) (length region) l in
          let member : is_member nat_eq region v ≡ false = member-position region v ∙ t in
          grouped (nat_eq (block_of q v) c) O (list_any test nodes)
          ∙ ap (λ x. (nat_eq x c || O) || list_any test nodes) (s.outside v (position-past region v l))
          ∙ ap (λ x. (x || O) || list_any test nodes)
          (sym (ap (λ m. nat_eq (block_of p v) c && not m) member ∙ and_true (nat_eq (block_of p v) c)))
          ∙ sym (ap (λ (z : Bool). ((nat_eq (block_of p v) c && not (is_member nat_eq region v)) || O)
          || list_any test (if z then (2 + position_or_len (nat_eq v) region) ∷ nodes else nodes)) t)

  -- what is not in the first block of the two is in the second one
  second_told : a ≢ b → (i : ℕ) → i < length region → not (nat_eq (block_of q (slice_index region i)) a) ≡ nat_eq (block_of q (slice_index region i)) b
  second_told apart i l = by (block_of q (slice_index region i)) (s.inside i 0 l)
    where
      by : (x : ℕ) → (x ≡ a) ⊎ (x ≡ b) → not (nat_eq x a) ≡ nat_eq x b
      by x (inl e) = ap not (eq-eqb x a e) ∙ sym (ne_eqb x b (λ f. apart (sym e ∙ f)))
      by x (inr e) = ap not (ne_eqb x a (λ f. apart (sym f ∙ e))) ∙ sym (eq-eqb x b e)

module _ (h : Hyper) (p q : List ℕ) (a b : ℕ) (region : List ℕ) (side : List Bool) (apart : a ≢ b) (s : IsAssignment p a b region q)
    (source : is_in side source_node ≡ true) (sink : is_in side sink_node ≡ false) (places : HasPlaces a region q side) where
  abbrev touched : Net → ℕ
  touched e = if has_pin q e a && has_pin q e b then net_price h p a b e else 0

  net-told : (e : Net) → (has_pin q e a && has_pin q e b)
      ≡ ((has_pin_outside p region e a || any_in side (inner_nodes region e.pins)) && (has_pin_outside p region e b || any_out side
      (inner_nodes region e.pins)))
  net-told e =
      ap₂ (λ x y. x && y) (pins-told p q a b region s a (is_in side) places e.pins)
      (pins-told p q a b region s b (λ n. not (is_in side n)) (λ i l. ap not (places i l) ∙ second_told p q a b region s apart i l) e.pins)

  -- each net's own nodes stand where they cost least
  abbrev FitsShort : ℕ → List Net → Type 0
  FitsShort at [] = Unit {0}
  FitsShort at (e ∷ nets) =
      EndFits side (has_pin_outside p region e a) (has_pin_outside p region e b) at (inner_nodes region e.pins)
      × FitsShort (at + short_count p a b region e) nets

  short-cut : (at : ℕ) (nets : List Net) → FitsShort at nets
      → total (crossing side) (all_short_arcs h p a b region at nets) + total (fixed_price h p a b region) nets ≡ total touched nets
  short-cut at [] fit = omega arith
  short-cut at (e ∷ nets) fit =
      let next = at + short_count p a b region e in
      let split = total-append (crossing side) (short_arcs h p a b region at e) (all_short_arcs h p a b region next nets) in
      let here =
      end-exact side source sink (has_pin_outside p region e a) (has_pin_outside p region e b) (unbounded h) (net_price h p a b e) at
      (inner_nodes region e.pins) fit.0 in
      let told = ap (λ t. if t then net_price h p a b e else 0) (net-told e) in
      let rest = short-cut next nets fit.1 in
      omega arith

  short-within : (at : ℕ) (nets : List Net) → total (crossing side) (all_short_arcs h p a b region at nets) < unbounded h
      → total touched nets ≤ total (crossing side) (all_short_arcs h p a b region at nets) + total (fixed_price h p a b region) nets
  short-within at [] small = omega arith
  short-within at (e ∷ nets) small =
      let next = at + short_count p a b region e in
      let split = total-append (crossing side) (short_arcs h p a b region at e) (all_short_arcs h p a b region next nets) in
      let here =
      end-within side source sink (has_pin_outside p region e a) (has_pin_outside p region e b) (unbounded h) (net_price h p a b e) at
      (inner_nodes region e.pins) (omega arith) in
      let told = ap (λ t. if t then net_price h p a b e else 0) (net-told e) in
      let rest = short-within next nets (omega arith) in
      omega arith

-- ---- the side of an assignment

-- the sides of the nets' own nodes, by those of the region's
abbrev net_flags : List ℕ → ℕ → ℕ → List ℕ → List Bool → List Net → List Bool
net_flags p a b region base [] = []
net_flags p a b region base (e ∷ nets) =
    end_flags (has_pin_outside p region e a) (has_pin_outside p region e b) (any_in base (inner_nodes region e.pins))
    (any_out base (inner_nodes region e.pins)) (inner_nodes region e.pins)
    ++ net_flags p a b region base nets

flags-fit : (h : Hyper) (p q : List ℕ) (a b : ℕ) (region : List ℕ) (side : List Bool) (apart : a ≢ b) (s : IsAssignment p a b region q)
    (source : is_in side source_node ≡ true) (sink : is_in side sink_node ≡ false) (places : HasPlaces a region q side)
    (base : List Bool) → HasPlaces a region q base → (before : List Bool) (nets : List Net) (at : ℕ) → at ≡ length before
    → side ≡ before ++ net_flags p a b region base nets → FitsShort h p q a b region side apart s source sink places at nets
flags-fit h p q a b region side apart s source sink places base own before [] at e is = tt
flags-fit h p q a b region side apart s source sink places base own before (n ∷ nets) at e is =
    let nodes = inner_nodes region n.pins in
    let A = has_pin_outside p region n a in
    let B = has_pin_outside p region n b in
    let I = any_in base nodes in
    let O = any_out base nodes in
    let same : (i : ℕ) → i < length region → is_in base (2 + i) ≡ is_in side (2 + i) = λ i l. own i l ∙ sym (places i l) in
    let long = length-end_flags A B I O nodes in
    let next : side ≡ (before ++ end_flags A B I O nodes) ++ net_flags p a b region base nets =
    is ∙ sym (append_assoc before (end_flags A B I O nodes) (net_flags p a b region base nets)) in (
      end-fits side before (net_flags p a b region base nets) at A B nodes I O e is (inner-same region (is_in base) (is_in side) same n.pins)
          (inner-same region (λ v. not (is_in base v)) (λ v. not (is_in side v)) (λ i l. ap not (same i l)) n.pins),
      flags-fit h p q a b region side apart s source sink places base own (before ++ end_flags A B I O nodes) nets (at + short_count p a b region n)
          (let x = length-append before (end_flags A B I O nodes) in omega arith) next,
    )

module _ (h : Hyper) (p : List ℕ) (a b : ℕ) (region q : List ℕ) (apart : a ≢ b) (s : IsAssignment p a b region q) where
  abbrev base_side : List Bool
  base_side = true ∷ false ∷ region_flags q a region

  abbrev own_side : List Bool
  own_side = true ∷ false ∷ (region_flags q a region ++ net_flags p a b region base_side (joined_nets h p a b region))

  base_places : HasPlaces a region q base_side
  base_places i l = ap (is_in base_side) (let z : 2 + i ≡ suc (suc i) = omega arith in z) ∙ get_or-map_at (λ v. nat_eq (block_of q v) a) region i l

  own_places : HasPlaces a region q own_side
  own_places i l =
      ap (is_in own_side) (let z : 2 + i ≡ suc (suc i) = omega arith in z)
      ∙ get_or_append_left (region_flags q a region) (net_flags p a b region base_side (joined_nets h p a b region)) false i
      (let m = length-map region (λ v. nat_eq (block_of q v) a) in omega arith)
      ∙ get_or-map_at (λ v. nat_eq (block_of q v) a) region i l

  own_fits : FitsShort h p q a b region own_side apart s refl refl own_places (2 + length region) (joined_nets h p a b region)
  own_fits =
      flags-fit h p q a b region own_side apart s refl refl own_places base_side base_places base_side (joined_nets h p a b region) (2 + length region)
      (let m = length-map region (λ v. nat_eq (block_of q v) a) in omega arith) refl

-- ---- the network

-- its cuts with what is fixed are the assignments
pub short_pays : (h : Hyper) (p : List ℕ) (a b : ℕ) (region : List ℕ) → a ≢ b → AreOfPair p a b region
    → CutsPay h p a b region (short_network h p a b region).arcs (fixed_cost h p a b region)
short_pays h p a b region apart inside = record {
  exact = λ q s.
      let side = own_side h p a b region q apart s in
      let arcs = all_short_arcs h p a b region (2 + length region) (joined_nets h p a b region) in
      let all = cut-total arcs side in
      let cut =
      short-cut h p q a b region side apart s refl refl (own_places h p a b region q apart s) (2 + length region) (joined_nets h p a b region)
      (own_fits h p a b region q apart s) in
      let paid = touched-all h p q region a b apart (rearranged p q region a b inside s) s in
      (side, refl, refl, (let e : cut_capacity arcs side + fixed_cost h p a b region ≡ pair_cost h q a b = omega arith in e));
  within = λ q side s source sink places small.
      let arcs = all_short_arcs h p a b region (2 + length region) (joined_nets h p a b region) in
      let all = cut-total arcs side in
      let within = short-within h p q a b region side apart s source sink places (2 + length region) (joined_nets h p a b region) (omega arith) in
      let paid = touched-all h p q region a b apart (rearranged p q region a b inside s) s in
      omega arith;
}

-- the same of what was built and solved
pub built_pays : (h : Hyper) (p : List ℕ) (a b : ℕ) (region : List ℕ) (built : FlowNetwork) (arcs : List Arc) (fixed : ℕ) → a < b → AreOfPair p a b region
    → built ≡ short_network h p a b region → arcs ≡ built.arcs → fixed ≡ fixed_cost h p a b region → CutsPay h p a b region arcs fixed
built_pays h p a b region built arcs fixed order inside is same c =
    subst (CutsPay h p a b region arcs) (sym c)
    (subst (λ xs. CutsPay h p a b region xs (fixed_cost h p a b region)) (sym (same ∙ ap (λ n. n.arcs) is))
    (short_pays h p a b region (λ e. absurd (omega arith)) inside))
