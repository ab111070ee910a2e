-- Laws of what a run of nets pays: one net more, two runs that follow on each other, and all nets.
use Rattle.std.proofs.Common.{◌≡◌, ℕ, ◌+◌, ◌^◌, ◌<◌, List, take, ap, ◌∙◌, arith}
use Rattle.std.proofs.Math.Seq.{take-length}
use Rattle.hg_defs.specs.Sums.{total}
use Rattle.hg_defs.specs.Hypergraph.{Hyper, net_count, net_of, IsWithinLimits}
use Rattle.hg_defs.specs.Cost.{cost, net_cost}
use Rattle.hg_defs.proofs.SumLaws.{total-take-le}
use Rattle.hg_base.proofs.CountLaws.{cost_so_far-lt, cost_more, cost-lt}
use Rattle.pin_plain.specs.Costs.{cost_below, IsCostOfRun}

module _ (h : Hyper) (p : List ℕ) (bounds : IsWithinLimits h) where
  -- one net more leaves room
  pub one_more-lt : (from e sum : ℕ) → e < net_count h → cost_below h p e ≡ cost_below h p from + sum → sum + net_cost h.objective p (net_of h e) < 2 ^ 57
  one_more-lt from e sum l paid = let most = cost_so_far-lt h p e bounds l in omega arith

  pub one_more : (from e sum more : ℕ) → e < net_count h → more ≡ net_cost h.objective p (net_of h e) → cost_below h p e ≡ cost_below h p from + sum →
      cost_below h p (e + 1) ≡ cost_below h p from + (sum + more)
  one_more from e sum more l pays paid = let next = cost_more h p e l in omega arith

  -- what a run pays has room
  pub run_cost : (from to sum : ℕ) → cost_below h p to ≡ cost_below h p from + sum → IsCostOfRun h p from to sum
  run_cost from to sum paid = record {
    paid = paid;
    bound =
        let all = total-take-le (net_cost h.objective p) h.nets to in
        let most = cost-lt h p bounds in
        omega arith;
  }

  pub both_runs : (from mid to low high : ℕ) → IsCostOfRun h p from mid low → IsCostOfRun h p mid to high → IsCostOfRun h p from to (low + high)
  both_runs from mid to low high first others =
      let a = first.paid in
      let b = others.paid in
      run_cost from to (low + high) (omega arith)

pub whole_run : (h : Hyper) (p : List ℕ) (count sum : ℕ) → count ≡ net_count h → IsCostOfRun h p 0 count sum → sum ≡ cost h p
whole_run h p count sum all run =
    let paid : cost_below h p count ≡ 0 + sum = run.paid in
    let whole : cost_below h p count ≡ cost h p = ap (total (net_cost h.objective p)) (ap (λ n. take n h.nets) all ∙ take-length h.nets) in
    omega arith
