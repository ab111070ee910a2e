-- Notes of nets, one after the other, and runs of a list.
use Rattle.std.proofs.Common.{◌≡◌, inl, inr, ℕ, ◌+◌, ◌-◌, ◌<◌, ◌≤◌, List, [], ◌∷◌, ◌++◌, length, slice_index, slice_index_or, slice_range, take, drop}
use Rattle.std.proofs.Common.{All, true, slice_set, ap₂, ◌/◌, ◌*◌, replicate, ◌&&◌, if◌then◌else◌, map, refl, sym, ap, ◌∙◌, subst, arith, append_assoc}
use Rattle.std.proofs.lemmas.Bool.{cases_lt}
use Rattle.std.proofs.lemmas.List.{length-append, length-drop, length_push, get_or_append_left, get_or_push, take-append-le, drop-append-le, drop_at, take_all}
use Rattle.std.proofs.lemmas.List.{take-append-drop, drop-drop, take-take, drop-take, length-take-le, map-append, length-set, get_or-set_same}
use Rattle.flow_net.specs.declared.network.Arc.{Arc}
use Rattle.flow_net.specs.Flow.{FlowNetwork}
use Rattle.std.proofs.lemmas.Slice.{between_from_start}
use Rattle.hg_defs.specs.Hypergraph.{Hyper, Net, net_of}
use Rattle.hg_defs.specs.Sums.{total}
use Rattle.hg_defs.proofs.SumLaws.{total-append, total-take-le}
use Rattle.flow_pair.specs.declared.notes.Note.{Note}
use Rattle.flow_pair.specs.declared.notes.Notes.{Notes}
use Rattle.flow_pair.specs.Notes.{IsNote, AreNotes, IsNotedRun, run_of}
use Rattle.flow_pair.specs.PairNetwork.{unbounded, net_price, has_pin_outside, Extends, IsIdle}
use Rattle.flow_pair.specs.ShortNetwork.{end_arcs, end_count, short_arcs, short_count, all_short_arcs, fixed_price}
use Rattle.flow_pair.proofs.ShortArcLaws.{inner-below, inner-few}

-- ---- parts of a list

-- a part stays where the list grows
pub range-append : {X : Type 0} (xs ys : List X) (i j : ℕ) → i ≤ j → j ≤ length xs → slice_range (xs ++ ys) i j ≡ slice_range xs i j
range-append xs ys i j l m =
    ap (take (j - i)) (drop-append-le i xs ys (omega arith))
    ∙ take-append-le (j - i) (drop i xs) ys (let d = length-drop i xs in omega arith)

-- and what was appended is the last part
pub range-last : {X : Type 0} (xs ys : List X) → slice_range (xs ++ ys) (length xs) (length (xs ++ ys)) ≡ ys
range-last xs ys =
    ap (take (length (xs ++ ys) - length xs)) (drop_at xs ys (length xs) refl)
    ∙ take_all (length (xs ++ ys) - length xs) ys (let s = length-append xs ys in omega arith)

-- what is left from a place is the part up to a later one, and what is left there
pub range-drop : {X : Type 0} (xs : List X) (m n : ℕ) → m ≤ n → drop m xs ≡ slice_range xs m n ++ drop n xs
range-drop xs m n l =
    sym (take-append-drop (n - m) (drop m xs))
    ∙ ap (λ ys. slice_range xs m n ++ ys) (drop-drop (n - m) m xs ∙ ap (λ k. drop k xs) (let s : m + (n - m) ≡ n = omega arith in s))

pub range-take : {X : Type 0} (xs : List X) (m n : ℕ) → m ≤ n → take n xs ≡ take m xs ++ slice_range xs m n
range-take xs m n l =
    let both : m + (n - m) ≡ n = omega arith in
    sym (take-append-drop m (take n xs)) ∙ ap (λ ys. ys ++ drop m (take n xs)) (take-take m n xs l)
    ∙ ap (λ ys. take m xs ++ ys) (ap (λ k. drop m (take k xs)) (sym both) ∙ drop-take m (n - m) xs)

-- ---- notes of nets

module _ (h : Hyper) (p : List ℕ) (a b : ℕ) (region : List ℕ) where
  -- the first of some nets were noted
  pub record AreNotesBelow (n : ℕ) (nets nodes : List ℕ) (notes : List Note) : Type 0 where
    pub count : length notes ≡ n
    pub each : (i : ℕ) (d : Note) → i < n → IsNote h p a b region nodes (net_of h (slice_index nets i)) (slice_index_or notes i d)

  pub note-longer : (nodes more : List ℕ) (e : Net) (n : Note) → IsNote h p a b region nodes e n → IsNote h p a b region (nodes ++ more) e n
  note-longer nodes more e n is = record {
    order = is.order;
    within = let l = is.within in let s = length-append nodes more in omega arith;
    nodes_are = range-append nodes more n.from n.to is.order is.within ∙ is.nodes_are;
    first = is.first;
    second = is.second;
    price_is = is.price_is;
    small = is.small;
  }

  pub notes-none : (nets nodes : List ℕ) (notes : List Note) → length notes ≡ 0 → AreNotesBelow 0 nets nodes notes
  notes-none nets nodes notes e = record { count = e; each = λ i d l. absurd (omega arith) }

  pub notes-more : (n : ℕ) (nets nodes more after : List ℕ) (notes : List Note) (x : Note) → after ≡ nodes ++ more
      → AreNotesBelow n nets nodes notes → IsNote h p a b region after (net_of h (slice_index nets n)) x
      → AreNotesBelow (n + 1) nets after (notes ++ x ∷ [])
  notes-more n nets nodes more after notes x grown are is = record {
    count = let c = are.count in let s = length_push notes x in omega arith;
    each = λ i d l. elim (cases_lt i n) [
      | inl m ↦
          subst (λ ys. IsNote h p a b region ys (net_of h (slice_index nets i)) (slice_index_or (notes ++ x ∷ []) i d)) (sym grown)
          (note-longer nodes more (net_of h (slice_index nets i)) (slice_index_or (notes ++ x ∷ []) i d)
          (subst (IsNote h p a b region nodes (net_of h (slice_index nets i)))
          (sym (get_or_append_left notes (x ∷ []) d i (let c = are.count in omega arith))) (are.each i d m)))
      | inr m ↦
          let same : n ≡ i = omega arith in
          subst (IsNote h p a b region after (net_of h (slice_index nets i)))
          (sym (get_or_push notes x d i (are.count ∙ same)))
          (subst (λ j. IsNote h p a b region after (net_of h (slice_index nets j)) x) same is)
    ];
  }

  pub notes-all : (n : ℕ) (nets nodes : List ℕ) (notes : List Note) → length nets ≡ n → AreNotesBelow n nets nodes notes
      → AreNotes h p a b region nets nodes notes
  notes-all n nets nodes notes e are = record { count = are.count ∙ sym e; each = λ i d l. are.each i d (omega arith) }

  pub note-at : (nets nodes ys : List ℕ) (notes ns : List Note) (i : ℕ) (d : Note) → AreNotes h p a b region nets nodes notes → i < length nets
      → ns ≡ notes → ys ≡ nodes → IsNote h p a b region ys (net_of h (slice_index nets i)) (slice_index_or ns i d)
  note-at nets nodes ys notes ns i d are l e f =
      subst (λ zs. IsNote h p a b region zs (net_of h (slice_index nets i)) (slice_index_or ns i d)) (sym f)
      (subst (λ ms. IsNote h p a b region nodes (net_of h (slice_index nets i)) (slice_index_or ms i d)) (sym e) (are.each i d l))

  -- what a noted net adds
  module _ (nodes : List ℕ) (e : Net) (n : Note) (is : IsNote h p a b region nodes e n) where
    pub note-count : end_count n.outside.0 n.outside.1 (slice_range nodes n.from n.to) ≡ short_count p a b region e
    note-count =
        ap (λ x. end_count x n.outside.1 (slice_range nodes n.from n.to)) is.first
        ∙ ap (λ x. end_count (has_pin_outside p region e a) x (slice_range nodes n.from n.to)) is.second
        ∙ ap (end_count (has_pin_outside p region e a) (has_pin_outside p region e b)) is.nodes_are

    pub note-arcs : (most at : ℕ) → most ≡ unbounded h
        → end_arcs n.outside.0 n.outside.1 most n.price at (slice_range nodes n.from n.to) ≡ short_arcs h p a b region at e
    note-arcs most at f =
        ap (λ x. end_arcs x n.outside.1 most n.price at (slice_range nodes n.from n.to)) is.first
        ∙ ap (λ x. end_arcs (has_pin_outside p region e a) x most n.price at (slice_range nodes n.from n.to)) is.second
        ∙ ap (λ x. end_arcs (has_pin_outside p region e a) (has_pin_outside p region e b) x n.price at (slice_range nodes n.from n.to)) f
        ∙ ap (λ x. end_arcs (has_pin_outside p region e a) (has_pin_outside p region e b) (unbounded h) x at (slice_range nodes n.from n.to)) is.price_is
        ∙ ap (end_arcs (has_pin_outside p region e a) (has_pin_outside p region e b) (unbounded h) (net_price h p a b e) at) is.nodes_are

    pub note-fixed : (if n.outside.0 && n.outside.1 then n.price else 0) ≡ fixed_price h p a b region e
    note-fixed =
        ap (λ x. if x && n.outside.1 then n.price else 0) is.first
        ∙ ap (λ x. if has_pin_outside p region e a && x then n.price else 0) is.second
        ∙ ap (λ x. if has_pin_outside p region e a && has_pin_outside p region e b then x else 0) is.price_is

    pub note-below : (most : ℕ) → 2 + length region ≤ most → All (λ x. x < most) (slice_range nodes n.from n.to)
    note-below most l = subst (All (λ x. x < most)) (sym is.nodes_are) (inner-below region e.pins most l)

    pub note-few : length (slice_range nodes n.from n.to) ≤ length e.pins
    note-few = let s = ap length is.nodes_are in let f = inner-few region e.pins in omega arith

  -- the only run has all nets
  pub noted-alone : (nets : List ℕ) (runs : List Notes) (run : Notes) (i : ℕ) (d : Notes) → length runs ≡ 1
      → (run.whole ≡ true → AreNotes h p a b region nets run.nodes.items run.nets.items) → i < length (slice_set runs 0 run)
      → IsNotedRun h p a b region nets (length (slice_set runs 0 run)) i (slice_index_or (slice_set runs 0 run) i d)
  noted-alone nets runs run i d one are l =
      let n = length nets in
      let same : length (slice_set runs 0 run) ≡ 1 = length-set runs 0 run ∙ one in
      let first : 0 ≡ i = omega arith in
      let low : 0 ≡ n * 0 / 1 = omega arith in
      let high : n ≡ n * (0 + 1) / 1 = omega arith in
      let all : nets ≡ run_of nets 1 0 =
      sym (take_all n nets (omega arith)) ∙ sym (between_from_start nets n) ∙ ap₂ (λ x y. slice_range nets x y) low high in
      subst (λ k. IsNotedRun h p a b region nets k i (slice_index_or (slice_set runs 0 run) i d)) (sym same)
      (subst (λ k. IsNotedRun h p a b region nets 1 k (slice_index_or (slice_set runs 0 run) k d)) first
      (subst (IsNotedRun h p a b region nets 1 0) (sym (get_or-set_same runs 0 run d (omega arith)))
      (λ w. subst (λ es. AreNotes h p a b region es run.nodes.items run.nets.items) all (are w))))

-- ---- the arcs and sums of runs

pub all_arcs-append : (h : Hyper) (p : List ℕ) (a b : ℕ) (region : List ℕ) (at : ℕ) (xs ys : List Net)
    → all_short_arcs h p a b region at (xs ++ ys)
    ≡ all_short_arcs h p a b region at xs ++ all_short_arcs h p a b region (at + total (short_count p a b region) xs) ys
all_arcs-append h p a b region at [] ys = ap (λ n. all_short_arcs h p a b region n ys) (let z : at ≡ at + 0 = omega arith in z)
all_arcs-append h p a b region at (e ∷ xs) ys =
    let count = short_count p a b region in
    let next = at + count e in
    let more : next + total count xs ≡ at + total count (e ∷ xs) = omega arith in
    ap (λ zs. short_arcs h p a b region at e ++ zs) (all_arcs-append h p a b region next xs ys)
    ∙ sym (append_assoc (short_arcs h p a b region at e) (all_short_arcs h p a b region next xs) (all_short_arcs h p a b region (next + total count xs) ys))
    ∙ ap (λ n. (short_arcs h p a b region at e ++ all_short_arcs h p a b region next xs) ++ all_short_arcs h p a b region n ys) more

module _ (h : Hyper) (p : List ℕ) (a b : ℕ) (region nets : List ℕ) where
  -- the first m of some nets were added to a network of the region alone
  pub record AreAdded (m : ℕ) (network : FlowNetwork) (fixed : ℕ) : Type 0 where
    pub nodes : network.nodes + total (short_count p a b region) (map (net_of h) (drop m nets))
        ≡ 2 + length region + total (short_count p a b region) (map (net_of h) nets)
    pub low : 2 + length region ≤ network.nodes
    pub high : network.nodes ≤ 2 + length region + 2 * m
    pub arcs : network.arcs ++ all_short_arcs h p a b region network.nodes (map (net_of h) (drop m nets))
        ≡ all_short_arcs h p a b region (2 + length region) (map (net_of h) nets)
    pub idle : IsIdle network
    pub few : length network.arcs ≤ m + 2 * total (λ e. length (net_of h e).pins) (take m nets)
    pub paid : fixed + total (fixed_price h p a b region) (map (net_of h) (drop m nets)) ≡ total (fixed_price h p a b region) (map (net_of h) nets)

  pub added-none : (network : FlowNetwork) → network.nodes ≡ 2 + length region → network.arcs ≡ [] → network.flows ≡ [] → AreAdded 0 network 0
  added-none network nodes arcs flows = record {
    nodes = ap (λ n. n + total (short_count p a b region) (map (net_of h) nets)) nodes;
    low = omega arith;
    high = omega arith;
    arcs = ap (λ xs. xs ++ all_short_arcs h p a b region network.nodes (map (net_of h) nets)) arcs
        ∙ ap (λ n. all_short_arcs h p a b region n (map (net_of h) nets)) nodes;
    idle = flows ∙ ap (λ (xs : List Arc). replicate (length xs) 0) (sym arcs);
    few = let s = ap length arcs in omega arith;
    paid = omega arith;
  }

  -- and then those of a run
  module _ (m n : ℕ) (l : m ≤ n) (most : n ≤ length nets) where
    abbrev pub part : List Net
    part = map (net_of h) (slice_range nets m n)

    left : map (net_of h) (drop m nets) ≡ part ++ map (net_of h) (drop n nets)
    left = ap (map (net_of h)) (range-drop nets m n l) ∙ map-append (net_of h) (slice_range nets m n) (drop n nets)

    sum-left : (f : Net → ℕ) → total f (map (net_of h) (drop m nets)) ≡ total f part + total f (map (net_of h) (drop n nets))
    sum-left f = ap (total f) left ∙ total-append f part (map (net_of h) (drop n nets))

    arcs-left : (at : ℕ) → all_short_arcs h p a b region at (map (net_of h) (drop m nets))
        ≡ all_short_arcs h p a b region at part
        ++ all_short_arcs h p a b region (at + total (short_count p a b region) part) (map (net_of h) (drop n nets))
    arcs-left at = ap (all_short_arcs h p a b region at) left ∙ all_arcs-append h p a b region at part (map (net_of h) (drop n nets))

    pins-run : total (λ e. length (net_of h e).pins) (take n nets)
        ≡ total (λ e. length (net_of h e).pins) (take m nets) + total (λ e. length (net_of h e).pins) (slice_range nets m n)
    pins-run =
        ap (total (λ e. length (net_of h e).pins)) (range-take nets m n l)
        ∙ total-append (λ e. length (net_of h e).pins) (take m nets) (slice_range nets m n)

    length-run : length (slice_range nets m n) ≡ n - m
    length-run = length-take-le (n - m) (drop m nets) (let d = length-drop m nets in omega arith)

    module _ (network : FlowNetwork) (fixed : ℕ) (are : AreAdded m network fixed) where
      pub run-nodes : network.nodes + 2 * length (slice_range nets m n) ≤ 2 + length region + 2 * length nets
      run-nodes = let s = length-run in let high = are.high in omega arith

      pub run-arcs : length network.arcs + length (slice_range nets m n) + 2 * total (λ e. length (net_of h e).pins) (slice_range nets m n)
          ≤ length nets + 2 * total (λ e. length (net_of h e).pins) nets
      run-arcs =
          let s = length-run in
          let few = are.few in
          let sum = pins-run in
          let all = total-take-le (λ e. length (net_of h e).pins) nets n in
          omega arith

      pub run-paid : fixed + total (fixed_price h p a b region) part ≤ total (fixed_price h p a b region) (map (net_of h) nets)
      run-paid = let s = sum-left (fixed_price h p a b region) in let paid = are.paid in omega arith

      pub added-run : (after : FlowNetwork) (more : ℕ)
          → Extends network after (total (short_count p a b region) part) (all_short_arcs h p a b region network.nodes part)
          → after.nodes ≤ network.nodes + 2 * length (slice_range nets m n)
          → length after.arcs ≤ length network.arcs + length (slice_range nets m n) + 2 * total (λ e. length (net_of h e).pins) (slice_range nets m n)
          → more ≡ total (fixed_price h p a b region) part → AreAdded n after (fixed + more)
      added-run after more x nodes arcs paid =
          let rest = map (net_of h) (drop n nets) in
          let end = network.nodes + total (short_count p a b region) part in
          let run = length-run in
          record {
            nodes = let s = sum-left (short_count p a b region) in let was = are.nodes in let now = x.more_nodes in omega arith;
            low = let was = are.low in let now = x.more_nodes in omega arith;
            high = let was = are.high in omega arith;
            arcs =
                ap (λ k. after.arcs ++ all_short_arcs h p a b region k rest) x.more_nodes
                ∙ ap (λ xs. xs ++ all_short_arcs h p a b region end rest) x.more_arcs
                ∙ append_assoc network.arcs (all_short_arcs h p a b region network.nodes part) (all_short_arcs h p a b region end rest)
                ∙ ap (λ xs. network.arcs ++ xs) (sym (arcs-left network.nodes)) ∙ are.arcs;
            idle = x.idle;
            few = let was = are.few in let sum = pins-run in omega arith;
            paid = let s = sum-left (fixed_price h p a b region) in let was = are.paid in omega arith;
          }
