-- Laws of numbering roots one after the other.
use Rattle.std.proofs.Common.{◌≡◌, ◌≢◌, ◌⊎◌, inl, inr, ⊎_elim, ℕ, zero, suc, if◌then◌else◌, ◌+◌, ◌<◌, ◌≤◌, Bool, true, false, cond}
use Rattle.std.proofs.Common.{nat_eq, List, [], ◌∷◌, ◌++◌, length, map, filter, get_or, set, slice_index, replicate, refl, sym, ap}
use Rattle.std.proofs.Common.{◌∙◌, subst, arith, length-set, get_or-set_same, get_or-set_other}
use Rattle.std.specs.List.{range_with_len}
use Rattle.std.proofs.lemmas.Bool.{cases_eq, eq-eqb, ne_eqb}
use Rattle.std.proofs.lemmas.List.{length-append, map-id, ext_get_or, length-map, get_or-map, length-replicate, get_or-replicate}
use Rattle.std.proofs.lemmas.List.FromFn.{filter_of_map_range_with_len_more}
use Rattle.hg_defs.specs.declared.objective.Objective.{Objective}
use Rattle.hg_defs.specs.declared.objective.Objective.TheVariants.{Connectivity}
use Rattle.hg_defs.specs.declared.objective.TheConstants.{FREE}
use Rattle.hg_defs.specs.Hypergraph.{Hyper}
use Rattle.hg_defs.specs.Partition.{weight_in}
use Rattle.hg_defs.specs.Numbering.{IsRooted, root_number, numbered}
use Rattle.hg_defs.proofs.NumberingLaws.{number_counts_roots}
use Rattle.coarsen.specs.Numbers.{AreRoots, roots_below, AreNumbers}

roots_below_more : (roots : List ℕ) (v : ℕ) → roots_below roots (v + 1) ≡ roots_below roots v + length (cond (nat_eq (slice_index roots v) v) (v ∷ []) [])
roots_below_more roots v =
    let test : ℕ → Bool = λ u. nat_eq (slice_index roots u) u in
    ap length
    (ap (filter test) (sym (map-id (range_with_len 0 (v + 1))))
    ∙ filter_of_map_range_with_len_more test (λ u. u) 0 v v (omega arith)
    ∙ ap (λ (xs : List ℕ). filter test xs ++ cond (nat_eq (slice_index roots v) v) (v ∷ []) []) (map-id (range_with_len 0 v)))
    ∙ length-append (filter test (range_with_len 0 v)) (cond (nat_eq (slice_index roots v) v) (v ∷ []) [])

pub roots_below_root : (roots : List ℕ) (v : ℕ) → slice_index roots v ≡ v → roots_below roots (v + 1) ≡ roots_below roots v + 1
roots_below_root roots v own = roots_below_more roots v ∙ ap (λ (b : Bool). roots_below roots v + length (cond b (v ∷ []) []))
    (eq-eqb (slice_index roots v) v own)

pub roots_below_other : (roots : List ℕ) (v : ℕ) → slice_index roots v ≢ v → roots_below roots (v + 1) ≡ roots_below roots v
roots_below_other roots v other =
    roots_below_more roots v
    ∙ ap (λ (b : Bool). roots_below roots v + length (cond b (v ∷ []) [])) (ne_eqb (slice_index roots v) v other)
    ∙ (let n = roots_below roots v in let z : n + 0 ≡ n = omega arith in z)

-- how far the numbering has come
pub record IsNumbering (roots : List ℕ) (v count : ℕ) (numbers : List ℕ) : Type 0 where
  pub small : count ≤ v
  pub counts : count ≡ roots_below roots v
  pub done : AreNumbers roots v numbers

pub numbering_none : (roots numbers : List ℕ) → length numbers ≡ length roots → IsNumbering roots 0 0 numbers
numbering_none roots numbers long = record { small = omega arith; counts = refl; done = record { vertices = long; each = λ r l. absurd (omega arith) } }

module _ (roots numbers : List ℕ) (v count : ℕ) (m : IsNumbering roots v count numbers) where
  pub numbering_root : slice_index roots v ≡ v → v < length roots → IsNumbering roots (v + 1) (count + 1) (set numbers v count)
  numbering_root own low = record {
    small = (let s = m.small in omega arith);
    counts = ap (λ (n : ℕ). n + 1) m.counts ∙ sym (roots_below_root roots v own);
    done = record {
      vertices = length-set numbers v count ∙ m.done.vertices;
      each = λ r l o.
          ⊎_elim
          (λ (e : r ≡ v). ap (λ (x : ℕ). get_or (set numbers v count) x 0) e ∙ get_or-set_same numbers v count 0 (let n = m.done.vertices in omega arith) ∙
          m.counts ∙ ap (roots_below roots) (sym e))
          (λ (n : r ≢ v). get_or-set_other numbers v r count 0 n ∙ m.done.each r (omega arith) o)
          (cases_eq r v);
    };
  }

  pub numbering_other : slice_index roots v ≢ v → IsNumbering roots (v + 1) count numbers
  numbering_other other = record {
    small = (let s = m.small in omega arith);
    counts = m.counts ∙ sym (roots_below_other roots v other);
    done = record {
      vertices = m.done.vertices;
      each = λ r l o.
          ⊎_elim
          (λ (e : r ≡ v). absurd (other (subst (λ (x : ℕ). slice_index roots x ≡ x) e o)))
          (λ (n : r ≢ v). m.done.each r (omega arith) o)
          (cases_eq r v);
    };
  }

weightless : (n : ℕ) (roots : List ℕ) (b : ℕ) → weight_in (replicate n 0) roots b ≡ 0
weightless zero roots b = refl
weightless (suc n) [] b = refl
weightless (suc n) (x ∷ roots) b = by (nat_eq x b) (weightless n roots b)
  where
    by : (t : Bool) → weight_in (replicate n 0) roots b ≡ 0 → (if t then 0 else 0) + weight_in (replicate n 0) roots b ≡ 0
    by true e = omega arith
    by false e = omega arith

-- the number of a root is how many roots are below it
pub root_number_is : (roots : List ℕ) (r : ℕ) → AreRoots (length roots) roots → r < length roots → root_number roots r ≡ roots_below roots r
root_number_is roots r are low =
    let n = length roots in
    let h : Hyper = record { weights = replicate n 0; nets = []; objective = Connectivity; fixes = replicate n FREE } in
    let long : length (replicate {A = ℕ} n 0) ≡ n = length-replicate n 0 in
    number_counts_roots h 0 roots r
    (record {
      vertices = sym long;
      below = λ v l. let b = are.below v (omega arith) in omega arith;
      own = λ v l. are.own v (omega arith);
      capped = λ u v t. (let w = weightless n roots (slice_index roots u) in omega arith);
      free = λ u v t. (let f = t.first in get_or-replicate n u FREE FREE (omega arith));
    })
    (omega arith)

-- so the numbers of the roots are those of the clusters
pub numbered_is : (roots numbers out : List ℕ) → AreRoots (length roots) roots → AreNumbers roots (length roots) numbers → length out ≡ length roots
    → ((k : ℕ) → k < length roots → slice_index out k ≡ slice_index numbers (slice_index roots k)) → out ≡ numbered roots
numbered_is roots numbers out are all long each =
    ext_get_or 0 out (numbered roots) (long ∙ sym (length-map roots (root_number roots)))
    (λ k l.
    let below : k < length roots = omega arith in
    each k below
    ∙ all.each (slice_index roots k) (are.below k below) (are.own k below)
    ∙ sym (root_number_is roots (slice_index roots k) are (are.below k below))
    ∙ sym (get_or-map (root_number roots) roots k 0 0 below))
