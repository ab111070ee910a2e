-- Laws of one level more.
use Rattle.std.proofs.Common.{◌≡◌, ◌≢◌, ◌⊎◌, inl, inr, ◌↔◌, ℕ, suc, ◌+◌, ◌-◌, ◌*◌, ◌^◌, ◌<◌, ◌≤◌, Bool, true, false, true≢false, nat_eq}
use Rattle.std.proofs.Common.{List, [], ◌∷◌, ◌++◌, length, get_or, All, Contains, refl, sym, ap, ◌∙◌, subst, arith}
use Rattle.std.specs.Bool.{IsTrue}
use Rattle.std.specs.List.{range_with_len, IsDistinct}
use Rattle.std.specs.Set.{is_member}
use Rattle.std.proofs.lemmas.Bool.{cases_lt, ne_eqb}
use Rattle.std.proofs.lemmas.Bool.Decides.{Decides-eqb}
use Rattle.std.proofs.lemmas.Cmp.{nat_eq_equiv}
use Rattle.std.proofs.lemmas.List.FromFn.{length-range_with_len, get_or-range_with_len, length-map-range_with_len}
use Rattle.std.proofs.lemmas.Map.Keys.{IsDistinct-from_apart}
use Rattle.std.proofs.lemmas.Map.Made.{length-le_from_is_member, is_member-Decides}
use Rattle.hg_defs.specs.Hypergraph.{Hyper, vertex_count, total_weight, IsHypergraph, IsWithinLimits}
use Rattle.hg_defs.specs.Partition.{weight_in}
use Rattle.hg_defs.specs.Contraction.{IsFull, IsApart, contract}
use Rattle.hg_defs.specs.Clustering.{cluster_count, IsClustering, Shrinks}
use Rattle.hg_defs.specs.Levels.{coarsest}
use Rattle.hg_defs.proofs.LevelLaws.{level_is_added}
use Rattle.contract_nets.specs.declared.ledger.Merged.{Merged}
use Rattle.contract_nets.specs.Ledger.{IsLedger}
use Rattle.level_stack.specs.Stack.{Stack, LeadsUp}
use Rattle.round_log.specs.Trace.{IsLarge}

-- there are no more clusters than vertices
count_le : (clusters : List ℕ) (count : ℕ) → ((i : ℕ) → i < count → Contains clusters i) → count ≤ length clusters
count_le clusters count used =
    let e = length-range_with_len 0 count in
    let l = length-le_from_is_member nat_eq_equiv (range_with_len 0 count) clusters distinct has in
    omega arith
  where
    distinct : IsDistinct nat_eq (range_with_len 0 count)
    distinct = IsDistinct-from_apart nat_eq (range_with_len 0 count) (λ i j d l m.
        let n = length-range_with_len 0 count in
        let a = get_or-range_with_len 0 count i d (omega arith) in
        let b = get_or-range_with_len 0 count j d (omega arith) in
        ne_eqb (get_or (range_with_len 0 count) i d) (get_or (range_with_len 0 count) j d) (λ e. absurd (omega arith)))

    has : (q : ℕ) → is_member nat_eq (range_with_len 0 count) q ≡ true → is_member nat_eq clusters q ≡ true
    has q e =
        let c = (is_member-Decides Decides-eqb (range_with_len 0 count) q).0 e in
        let n = length-range_with_len 0 count in
        let a = get_or-range_with_len 0 count c.0 q (let l = c.1 in omega arith) in
        let s = c.2 in
        (is_member-Decides Decides-eqb clusters q).1 (used q (let l = c.1 in omega arith))

pub count_within : (h : Hyper) (cap : ℕ) (clusters : List ℕ) → IsClustering h cap clusters → cluster_count clusters ≤ vertex_count h
count_within h cap clusters c = let n = count_le clusters (cluster_count clusters) c.full.used in let v = c.full.vertices in omega arith

pub all_small : (h : Hyper) (cap : ℕ) (clusters lent : List ℕ) → IsClustering h cap clusters → IsWithinLimits h → lent ≡ clusters →
    All (λ i. i < 2 ^ 22) lent
all_small h cap clusters lent c limits same =
    subst (All (λ i. i < 2 ^ 22)) (sym same)
    (λ k d l. let a = c.full.below k d l in let b = count_within h cap clusters c in let v = limits.vertices in omega arith)

pub apart_from : (h : Hyper) (cap : ℕ) (clusters : List ℕ) → IsClustering h cap clusters → IsApart h clusters
apart_from h cap clusters c v u l m e n = c.free v u (record { first = l; second = m; different = n; cluster = e })

pub leads_from : (h top coarse : Hyper) (cap : ℕ) (clusters lent : List ℕ) (ledger : List Merged) → IsClustering h cap clusters → top ≡ h →
    lent ≡ clusters →
    IsLedger top lent coarse ledger → LeadsUp h clusters coarse ledger
leads_from h top coarse cap clusters lent ledger c a b books = record {
  full = c.full;
  apart = apart_from h cap clusters c;
  books = subst (λ (x : Hyper). IsLedger x clusters coarse ledger) a (subst (λ (x : List ℕ). IsLedger top x coarse ledger) b books);
}

pub not_fewer : (test : Bool) (n count : ℕ) → (n ≤ 20 * (n - count) → IsTrue test) → test ≡ false → 20 * (n - count) < n
not_fewer test n count f e = by (cases_lt (20 * (n - count)) n)
  where
    by : (20 * (n - count) < n) ⊎ (n ≤ 20 * (n - count)) → 20 * (n - count) < n
    by (inl l) = l
    by (inr m) = absurd (true≢false (sym (f m) ∙ e))

-- the contraction has as many vertices as there are clusters
pub coarse_count : (base : Hyper) (maps : List (List ℕ)) (clusters : List ℕ) → vertex_count (coarsest base (maps ++ clusters ∷ [])) ≡ cluster_count clusters
coarse_count base maps clusters =
    ap (λ (h : Hyper). vertex_count h) (level_is_added base maps clusters)
    ∙ length-map-range_with_len (weight_in (coarsest base maps).weights clusters) 0 (cluster_count clusters)

-- the level is large
pub large_at : (stack base top : Hyper) (maps : List (List ℕ)) (k a b m : ℕ) → stack ≡ base → top ≡ coarsest stack maps → m ≡ vertex_count top → a ≡ m →
    b ≡ k → 32 * b < a → IsLarge (coarsest base maps) k
large_at stack base top maps k a b m same is count from to large =
    let e = ap (λ (x : Hyper). vertex_count x) (is ∙ ap (λ (x : Hyper). coarsest x maps) same) in omega arith

-- the next level has fewer vertices
pub fewer_at : (stack new : Stack) (clusters : List ℕ) (count : ℕ) (top : Hyper) → new.base ≡ stack.base → new.maps ≡ stack.maps ++ clusters ∷ [] →
    top ≡ coarsest stack.base stack.maps
    → count ≡ cluster_count clusters → vertex_count top ≤ 20 * (vertex_count top - count) → 0 < vertex_count top →
    vertex_count (coarsest new.base new.maps) <
    vertex_count (coarsest stack.base stack.maps)
fewer_at stack new clusters count top base maps is number fewer some =
    let e = ap (λ (x : Hyper). vertex_count x) is in
    let d = ap (λ (x : Hyper). vertex_count (coarsest x new.maps)) base ∙ ap (λ (ms : List (List ℕ)). vertex_count (coarsest stack.base ms)) maps ∙
    coarse_count stack.base stack.maps clusters in
    omega arith
