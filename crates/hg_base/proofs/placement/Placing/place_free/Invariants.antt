-- The placing of the vertices that are left ends as that of all does.
use Rattle.std.proofs.Common.{◌≡◌, ℕ, length, map, drop}
use Rattle.std.specs.declared.cmp.Reverse.{Reverse}
use Rattle.hg_defs.specs.LeastLoaded.{placed, first_overfilling}
use Rattle.hg_base.proofs.placement.Placing.place_free.Given as goal

abbrev pub invariant-loop-rank : goal.invariant-loop-rank
invariant-loop-rank l =
    (length l.self.blocks ≡ length l.fn.self.blocks) × (length l.self.loads ≡ length l.fn.self.loads)
    × (placed l.h l.self (map (λ (r : Reverse ℕ × ℕ). r.1) (drop l.rank-index l.ranks)) ≡ placed l.h l.fn.self (map (λ (r : Reverse ℕ × ℕ). r.1) l.ranks))
    × (first_overfilling l.h l.limit l.self (map (λ (r : Reverse ℕ × ℕ). r.1) (drop l.rank-index l.ranks)) ≡ first_overfilling l.h l.limit l.fn.self
    (map (λ (r : Reverse ℕ × ℕ). r.1) l.ranks))
