-- What follows from the claims and the moves: no vertex is held twice, and none is carried twice.
use Rattle.std.proofs.Common.{◌≡◌, ℕ, zero, suc, ◌+◌, ◌*◌, ◌<◌, ◌≤◌, ◌≢◌, false, List, [], ◌∷◌, map, length, length-set}
use Rattle.std.proofs.Common.{get_or, get_or-set_other, set, All, refl, sym, ap, ◌∙◌, subst, arith}
use Rattle.std.proofs.lemmas.List.Elements.{All-nil, All-head, All-tail, All-cons}
use Rattle.hg_defs.specs.declared.moves.Move.{Move}
use Rattle.hg_defs.specs.Sums.{total, sum_below}
use Rattle.hg_defs.specs.Hypergraph.{vertex_count, weight_of}
use Rattle.hg_defs.specs.Partition.{block_of, load}
use Rattle.hg_defs.proofs.SumLaws.{total-le, total-set, total_at-le, total-append, total-same}
use Rattle.hg_defs.proofs.SumLaws.{total-scale_right, sum_below-total, sum_below-le, sum_below-same}
use Rattle.hg_defs.proofs.SumLaws.{sum_below-only, sum_below-add, sum_below-zero, weight_in-by_index, weight_if, weight_if-same, weight_if-other}
use Rattle.move_core.specs.declared.account.Account.{Account}
use Rattle.move_core.specs.State.{Setup, Readings, times, blank}
use Rattle.move_core.specs.Events.{moved_vertices}
use Rattle.move_core.specs.Balance.{Claims, Moves, carried, stage_vertices}
use Rattle.move_core.proofs.TimesLaws.{All_at_times, All_from_times}

-- two different places of a list are within the sum
pub total_two : (f : Account → ℕ) (accounts : List Account) (i k : ℕ) (d : Account) → f (blank false) ≡ 0 → i < length accounts → k < length accounts →
    k ≢ i
    → f (get_or accounts i (blank false)) + f (get_or accounts k d) ≤ total f accounts
total_two f accounts i k d z li lk q =
    let e = total-set f accounts i (blank false) (blank false) li in
    let o = get_or-set_other accounts i k (blank false) d q in
    let b = total_at-le f (set accounts i (blank false)) k d (omega (arith, length-set accounts i (blank false))) in
    let c : f (get_or (set accounts i (blank false)) k d) ≡ f (get_or accounts k d) = ap f o in
    omega arith

-- a sum over a list of numbers below n, number by number
pub total-by_times : (g : ℕ → ℕ) (n : ℕ) (xs : List ℕ) → All (λ v. v < n) xs → total g xs ≡ sum_below (λ v. times v xs * g v) n
total-by_times g n [] h = sym (sum_below-zero (λ v. 0 * g v) n (λ i l. omega arith))
total-by_times g n (x ∷ xs) h =
    let e = total-by_times g n xs (All-tail (λ v. v < n) x xs h) in
    let l = All-head (λ v. v < n) x xs h in
    let o = sum_below-only (λ v. weight_if x v 1 * g v) n x l (λ j m q. ap (λ z. z * g j) (weight_if-other x j 1 (λ p. q (sym p))) ∙ zero-times (g j)) in
    let one : weight_if x x 1 * g x ≡ g x = ap (λ z. z * g x) (weight_if-same x x 1 refl) ∙ one-times (g x) in
    let a = sum_below-add (λ v. weight_if x v 1 * g v) (λ v. times v xs * g v) n in
    let b = sum_below-same (λ v. times v (x ∷ xs) * g v) (λ v. weight_if x v 1 * g v + times v xs * g v) n
    (λ v m. spread (weight_if x v 1) (times v xs) (g v))
    in
    omega arith
  where
    zero-times : (y : ℕ) → 0 * y ≡ 0
    zero-times y = omega arith

    one-times : (y : ℕ) → 1 * y ≡ y
    one-times y = omega arith

    spread : (p q y : ℕ) → (p + q) * y ≡ p * y + q * y
    spread p q y = omega arith

module _ (s : Setup) (r : Readings) (accounts : List Account) (c : Claims s.graph r accounts) (m : Moves s accounts) where
  pub held_once : (v : ℕ) → v < vertex_count s.graph → total (λ a. times v a.held) accounts ≤ 1
  held_once v l = let e = c.word v l in let o = c.once v l in omega arith

  pub carried_below : All (λ a. All (λ v. v < vertex_count s.graph) (carried a)) accounts
  carried_below k d l =
      let a = get_or accounts k d in
      All_from_times (λ v. v < vertex_count s.graph) (carried a) (λ v p.
      All_at_times (λ u. u < vertex_count s.graph) a.held v (c.range k d l) (let h = m.held k d l v in omega arith))

  pub moved_below : All (λ a. All (λ z. z.vertex < vertex_count s.graph) a.moves) accounts
  moved_below k d l =
      let a = get_or accounts k d in
      from_map a.moves (λ v p. All_at_times (λ u. u < vertex_count s.graph) (carried a) v (carried_below k d l)
      (let e = total-append (λ x. weight_if x v 1) (moved_vertices a) (stage_vertices a.stage) in omega arith))
    where
      from_map : (ms : List Move) → ((v : ℕ) → 0 < times v (map (λ z. z.vertex) ms) → v < vertex_count s.graph) →
          All (λ z. z.vertex < vertex_count s.graph) ms
      from_map [] h = All-nil (λ (z : Move). z.vertex < vertex_count s.graph)
      from_map (z ∷ zs) h =
          All-cons (λ (z : Move). z.vertex < vertex_count s.graph) z zs
          (h z.vertex (let e = weight_if-same z.vertex z.vertex 1 refl in omega arith))
          (from_map zs (λ v p. h v (omega arith)))

  pub carried_once : (v : ℕ) → v < vertex_count s.graph → total (λ a. times v (carried a)) accounts ≤ 1
  carried_once v l =
      let o = held_once v l in
      let e = total-le (λ a. times v (carried a)) (λ a. times v a.held) accounts (λ k d q. m.held k d q v) in
      omega arith

  pub moved_once : (v : ℕ) → v < vertex_count s.graph → total (λ a. times v (moved_vertices a)) accounts ≤ 1
  moved_once v l =
      let o = carried_once v l in
      let e = total-le (λ a. times v (moved_vertices a)) (λ a. times v (carried a)) accounts
      (λ j d m. let a = get_or accounts j d in let p = total-append (λ x. weight_if x v 1) (moved_vertices a) (stage_vertices a.stage) in omega arith) in
      omega arith

  -- a vertex that one pass holds no other carries
  pub held_alone : (v i k : ℕ) (d : Account) → v < vertex_count s.graph → i < length accounts → k < length accounts → k ≢ i
      → 0 < times v (get_or accounts i (blank false)).held → times v (carried (get_or accounts k d)) ≡ 0
  held_alone v i k d l li lk q p =
      let o = held_once v l in
      let t = total_two (λ a. times v a.held) accounts i k d refl li lk q in
      let b = m.held k d lk v in
      omega arith

  -- what all passes carry of a block at the opening is within its load there
  pub carried_weight : (b : ℕ) → vertex_count s.graph ≤ length s.opening
      → total (λ a. total (λ v. weight_if (block_of s.opening v) b (weight_of s.graph v)) (carried a)) accounts ≤ load s.graph s.opening b
  carried_weight b wide =
      let n = vertex_count s.graph in
      let g : ℕ → ℕ = λ v. weight_if (block_of s.opening v) b (weight_of s.graph v) in
      let e1 = total-same (λ a. total g (carried a)) (λ a. sum_below (λ v. times v (carried a) * g v) n) accounts
      (λ k d l. total-by_times g n (carried (get_or accounts k d)) (carried_below k d l)) in
      let e2 = sum_below-total (λ v a. times v (carried a) * g v) n accounts in
      let e3 = sum_below-le (λ v. total (λ a. times v (carried a) * g v) accounts) g n
      (λ v l. subst (λ z. z ≤ g v) (sym (total-scale_right (g v) (λ a. times v (carried a)) accounts))
      (within (total (λ a. times v (carried a)) accounts) (g v) (carried_once v l))) in
      let e4 = weight_in-by_index s.graph.weights s.opening b wide in
      omega arith
    where
      within : (x y : ℕ) → x ≤ 1 → x * y ≤ y
      within zero y h = omega arith
      within (suc zero) y h = omega arith
      within (suc (suc x)) y h = absurd (omega arith)
