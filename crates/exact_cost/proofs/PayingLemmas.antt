-- What runs of nets pay: one net more, and all runs together.
use Rattle.std.proofs.Common.{◌≡◌, ℕ, zero, suc, ◌+◌, ◌*◌, ◌/◌, ◌^◌, ◌<◌, ◌≤◌, List, length, take, slice_index_or, sym, ap, subst, ◌∙◌, arith}
use Rattle.std.proofs.Math.Nat.{mul-div_cancel}
use Rattle.std.proofs.Math.Seq.{take-length}
use Rattle.hg_defs.specs.Sums.{total}
use Rattle.hg_defs.specs.Hypergraph.{Hyper, net_count, net_of, IsWithinLimits}
use Rattle.hg_defs.specs.Cost.{cost, net_cost}
use Rattle.hg_defs.proofs.SumLaws.{total-take_more}
use Rattle.hg_base.proofs.CountLaws.{cost_so_far-lt, cost_more}
use Rattle.exact_cost.specs.Paying.{paid_below, IsPaid, IsPaidByRun}

module _ (h : Hyper) (p : List ℕ) where
  -- one net more leaves room
  pub one_more-lt : (from e sum : ℕ) → IsWithinLimits h → e < net_count h → IsPaid h p from e sum → sum + net_cost h.objective p (net_of h e) < 2 ^ 57
  one_more-lt from e sum bounds l paid = let most = cost_so_far-lt h p e bounds l in omega arith

  pub one_more : (from e sum more : ℕ) → e < net_count h → more ≡ net_cost h.objective p (net_of h e) → IsPaid h p from e sum →
      IsPaid h p from (e + 1) (sum + more)
  one_more from e sum more l pays paid = let next = cost_more h p e l in omega arith

module _ (h : Hyper) (p sums : List ℕ) (runs : ℕ) (some : 0 < runs) (all : length sums ≡ runs)
    (each : (i : ℕ) → i < runs → IsPaidByRun h p runs i (slice_index_or sums i 0)) where
  -- the first runs together
  first_runs : (i : ℕ) → i ≤ runs → paid_below h p (net_count h * i / runs) ≡ total (λ s. s) (take i sums)
  first_runs zero low = ap (paid_below h p) (nothing (net_count h))
    where
      nothing : (n : ℕ) → n * 0 / runs ≡ 0
      nothing n = ap (λ (m : ℕ). m / runs) (let x : n * 0 ≡ 0 * runs = omega arith in x) ∙ mul-div_cancel 0 some
  first_runs (suc i) low =
      let next : suc i ≡ i + 1 = omega arith in
      let so_far = first_runs i (omega arith) in
      let more = total-take_more (λ (s : ℕ). s) sums i 0 (omega arith) in
      let one = each i (omega arith) in
      subst (λ (j : ℕ). paid_below h p (net_count h * j / runs) ≡ total (λ (s : ℕ). s) (take j sums)) (sym next) (omega arith)

  -- all pay the cost
  pub all_runs : total (λ s. s) sums ≡ cost h p
  all_runs =
      let last = first_runs runs (omega arith) in
      ap (total (λ (s : ℕ). s)) (sym (ap (λ (n : ℕ). take n sums) (sym all) ∙ take-length sums))
      ∙ sym last
      ∙ ap (paid_below h p) (mul-div_cancel (net_count h) some)
      ∙ ap (total (net_cost h.objective p)) (take-length h.nets)
