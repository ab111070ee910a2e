-- Each level of a coarsening may be parted, and the sweeps at the end add nothing to the tallies.
use Rattle.std.proofs.Common.{◌≡◌, ◌≢◌, ℕ, zero, suc, ◌+◌, ◌≤◌, false, List, [], ◌∷◌, ◌++◌, length, All, refl, sym, ap, subst, ◌∙◌, arith}
use Rattle.std.proofs.lemmas.Nat.{mul-le}
use Rattle.std.proofs.lemmas.List.{append-nil, length-map}
use Rattle.std.proofs.lemmas.List.Elements.{All-nil, All-cons, All-head, All-tail, filter-append}
use Rattle.hg_defs.specs.Hypergraph.{Hyper, vertex_count, net_count, IsHypergraph, IsFixedWithin, Suits}
use Rattle.hg_defs.specs.Contraction.{contract, images, merged_weight}
use Rattle.hg_defs.specs.Clustering.{cluster_count, IsClustering}
use Rattle.hg_defs.specs.Levels.{level}
use Rattle.hg_defs.proofs.ContractionLaws.{length-images-le}
use Rattle.hg_defs.specs.Sums.{total}
use Rattle.hg_defs.proofs.NumberingLaws.{filter_none}
use Rattle.hg_defs.proofs.LevelLaws.{vertices_of_contraction}
use Rattle.round_log.specs.declared.record.Kind.{Kind}
use Rattle.round_log.specs.declared.record.Kind.TheVariants.{Label, Search, Flow, Sweep}
use Rattle.round_log.specs.declared.record.LoggedRound.{LoggedRound}
use Rattle.round_log.specs.Rounds.{after_round, after_rounds}
use Rattle.round_log.specs.Passes.{IsPass, saved}
use Rattle.round_log.specs.Trace.{Good, AreContracted, IsDescent, AreSweeps}
use Rattle.round_log.proofs.DescentLaws.{level_fixed}
use Rattle.refiner.specs.declared.pass.Tally.{Tally}
use Rattle.level_stack.specs.Stack.{Stack}
use Rattle.uncoarsen.specs.Start.{ArePartable}
use Rattle.uncoarsen.specs.Refined.{ArePasses, IsRefinedBy, is_same_kind, rounds_of, tally_with, tallies_with}

-- ---- each level may be parted

-- a contraction that removes vertices has no more counts
suits_contraction : (k : ℕ) (h : Hyper) (c : List ℕ) → cluster_count c ≤ vertex_count h → Suits h k → Suits (contract h c (cluster_count c)) k
suits_contraction k h c fewer suits =
    let vertices = vertices_of_contraction h c (cluster_count c) in
    let nets : net_count (contract h c (cluster_count c)) ≡ length (images h c) =
    length-map (images h c) (λ i. record { weight = merged_weight h c i; pins = i }) in
    let less = length-images-le h c in
    let sum : vertex_count (contract h c (cluster_count c)) + net_count (contract h c (cluster_count c)) ≤ vertex_count h + net_count h = omega arith in
    let most = mul-le (vertex_count (contract h c (cluster_count c)) + net_count (contract h c (cluster_count c))) k (vertex_count h + net_count h) k sum
    (omega arith) in
    omega arith

suits_levels : (good : Good) (number k : ℕ) (h : Hyper) (maps : List (List ℕ)) → AreContracted good number h k maps → Suits h k →
    (i : ℕ) → i ≤ length maps → Suits (level h maps i) k
suits_levels good number k h maps a suits zero low = suits
suits_levels good number k h [] a suits (suc i) low = suits
suits_levels good number k h (c ∷ maps) a suits (suc i) low =
    let large = a.0 in
    let shrinks = a.2 in
    let fewer : cluster_count c ≤ vertex_count h = omega arith in
    suits_levels good (suc number) k (contract h c (cluster_count c)) maps a.3 (suits_contraction k h c fewer suits) i (omega arith)

-- whatever is asked of the clusterings, where it makes them clusterings
pub levels_partable : (good : Good) → ((number : ℕ) (h : Hyper) (c : List ℕ) → IsHypergraph h → good number h c → (cap : ℕ) × IsClustering h cap c) →
    (k : ℕ) (s : Stack) → IsHypergraph s.base → AreContracted good 0 s.base k s.maps → Suits s.base k → IsFixedWithin s.base k → ArePartable s k
levels_partable good clustering k s sound contracted suits fixed i low = record {
  suits = suits_levels good 0 k s.base s.maps contracted suits i low;
  fixed = level_fixed good clustering k s.base s.maps sound contracted fixed i low;
}

-- ---- tallies

-- no refiner that made a pass makes sweeps
passes_unswept : (kinds : List Kind) (h : Hyper) (k l workers : ℕ) (p : List ℕ) (rounds : List LoggedRound) → ArePasses kinds h k l workers p rounds →
    All (λ (kind : Kind). Sweep ≢ kind) kinds
passes_unswept [] h k l workers p rounds none = All-nil (λ (kind : Kind). Sweep ≢ kind)
passes_unswept (kind ∷ kinds) h k l workers p rounds s =
    All-cons (λ (x : Kind). Sweep ≢ x) kind kinds (λ e. subst (λ (x : Kind). IsPass x h k l workers p s.0) (sym e) s.3)
    (passes_unswept kinds h k l workers (after_rounds p s.0) s.1 s.4)

descent_unswept : (kinds : List Kind) (h : Hyper) (k l workers : ℕ) (maps : List (List ℕ)) (i : ℕ) (p : List ℕ) (rounds : List LoggedRound) (q : List ℕ) →
    IsDescent (IsRefinedBy kinds k l workers) h maps i p rounds q → All (λ (kind : Kind). Sweep ≢ kind) kinds
descent_unswept kinds h k l workers maps zero p rounds q d = passes_unswept kinds h k l workers p rounds d.passes
descent_unswept kinds h k l workers maps (suc i) p rounds q d = passes_unswept kinds (level h maps (suc i)) k l workers p d.0 d.4.passes

sweeps_kind : (h : Hyper) (k l : ℕ) (p : List ℕ) (rounds : List LoggedRound) (q : List ℕ) → AreSweeps h k l p rounds q →
    All (λ (r : LoggedRound). r.kind ≡ Sweep) rounds
sweeps_kind h k l p [] q s = All-nil (λ (r : LoggedRound). r.kind ≡ Sweep)
sweeps_kind h k l p (r ∷ rounds) q s =
    All-cons (λ (x : LoggedRound). x.kind ≡ Sweep) r rounds s.0 (sweeps_kind h k l (after_round p r) rounds q s.4)

same_kind-sweep : (kind : Kind) → Sweep ≢ kind → is_same_kind Sweep kind ≡ false
same_kind-sweep Label n = refl
same_kind-sweep Search n = refl
same_kind-sweep Flow n = refl
same_kind-sweep Sweep n = absurd (n refl)

rounds_swept : (kind : Kind) (rounds sweeps : List LoggedRound) → Sweep ≢ kind → All (λ (r : LoggedRound). r.kind ≡ Sweep) sweeps →
    rounds_of kind (rounds ++ sweeps) ≡ rounds_of kind rounds
rounds_swept kind rounds sweeps other swept =
    filter-append (λ (r : LoggedRound). is_same_kind r.kind kind) rounds sweeps
    ∙ ap (λ (rs : List LoggedRound). rounds_of kind rounds ++ rs)
    (filter_none (λ (r : LoggedRound). is_same_kind r.kind kind) sweeps
    (λ i d low. ap (λ (x : Kind). is_same_kind x kind) (swept i d low) ∙ same_kind-sweep kind other))
    ∙ append-nil (rounds_of kind rounds)

counted_swept : (rounds sweeps : List LoggedRound) (kinds : List Kind) (ts : List Tally) → All (λ (kind : Kind). Sweep ≢ kind) kinds →
    All (λ (r : LoggedRound). r.kind ≡ Sweep) sweeps → tallies_with (rounds ++ sweeps) kinds ts ≡ tallies_with rounds kinds ts
counted_swept rounds sweeps [] ts others swept = refl
counted_swept rounds sweeps (kind ∷ kinds) [] others swept = refl
counted_swept rounds sweeps (kind ∷ kinds) (t ∷ ts) others swept =
    ap (λ (rs : List LoggedRound). let u : Tally = record { rounds = t.rounds + length rs; gain = t.gain + total saved rs } in
    u ∷ tallies_with (rounds ++ sweeps) kinds ts)
    (rounds_swept kind rounds sweeps (All-head (λ (x : Kind). Sweep ≢ x) kind kinds others) swept)
    ∙ ap (λ (us : List Tally). tally_with rounds kind t ∷ us)
    (counted_swept rounds sweeps kinds ts (All-tail (λ (x : Kind). Sweep ≢ x) kind kinds others) swept)

-- the sweeps at the end add nothing to the tallies
pub tallies_swept : (kinds : List Kind) (h : Hyper) (k l workers : ℕ) (maps : List (List ℕ)) (i : ℕ) (p last swept q : List ℕ)
    (rounds sweeps : List LoggedRound) (ts : List Tally) → IsDescent (IsRefinedBy kinds k l workers) h maps i p rounds last →
    AreSweeps h k l swept sweeps q → tallies_with (rounds ++ sweeps) kinds ts ≡ tallies_with rounds kinds ts
tallies_swept kinds h k l workers maps i p last swept q rounds sweeps ts down settled =
    counted_swept rounds sweeps kinds ts (descent_unswept kinds h k l workers maps i p rounds last down) (sweeps_kind h k l swept sweeps q settled)
