-- What the words of the table tell when it is closed.
use Rattle.std.proofs.Common.{◌≡◌, ℕ, ◌-◌, ◌^◌, ◌<◌, inl, inr, List, map, slice_index, sym, ap, ◌∙◌, subst, arith}
use Rattle.std.specs.List.{range_with_len}
use Rattle.std.proofs.lemmas.Bool.{cases_lt}
use Rattle.atomic_table.specs.Table.{Final}
use Rattle.atomic_table.specs.Seated.{TableId}
use Rattle.hg_defs.specs.Hypergraph.{Hyper, vertex_count}
use Rattle.cluster_core.specs.declared.account.Account.{Account}
use Rattle.cluster_core.specs.State.{Setup, setup_of}
use Rattle.cluster_core.specs.Balance.{InBalance}
use Rattle.hg_defs.specs.Numbering.{IsRooted}
use Rattle.cluster_core.specs.Roots.{root_in}
use Rattle.cluster_core.proofs.RootLaws.{roots_are}
use Rattle.cluster_claim.specs.declared.board.Key.{Key}
use Rattle.cluster_claim.specs.Board.{IsKept, IsBoard, setup_at, readings_of, accounts_of}

module _ (key : Key) (tid : TableId) (h : Hyper) (cap : ℕ) (b : IsBoard key tid h cap) (ws : List ℕ) (xs : List (Unit {0}))
    (f : Final (IsKept (setup_at key) key.workers) ws xs) where
  here : setup_at key ≡ setup_of h cap
  here = ap (λ z. setup_of z key.cap) b.same_graph ∙ ap (setup_of h) b.same_cap

  -- the last state, over the words that were closed
  record IsLast (accounts : List Account) : Type 0 where
    pub balance : InBalance (setup_of h cap) (readings_of (vertex_count h) ws) accounts

  last : IsLast (accounts_of f.0.views)
  last = record {
    balance = subst (λ (z : Setup). InBalance z (readings_of (vertex_count z.graph) ws) (accounts_of f.0.views)) here
        (subst (λ z. InBalance (setup_at key) (readings_of (vertex_count (setup_at key).graph) z) (accounts_of f.0.views)) f.2 f.1.balance);
  }

  -- a mark has 32 bits
  pub mark_fits : (v : ℕ) → v < vertex_count h → slice_index ws v < 2 ^ 32
  mark_fits v l =
      let n = b.bounds.vertices in
      elim (cases_lt (slice_index ws v) 2) [
        | inl t ↦ omega arith
        | inr t ↦ let q = (last.balance.marks.roots v (slice_index ws v - 2) l (omega arith)).vertex in omega arith
      ]

  pub closed_roots : (n : ℕ) → n ≡ vertex_count h → IsRooted h cap (map (λ v. root_in (slice_index ws v) v) (range_with_len 0 n))
  closed_roots n e =
      subst (λ z. IsRooted h cap (map (λ v. root_in (slice_index ws v) v) (range_with_len 0 z))) (sym e)
      (roots_are (setup_of h cap) (readings_of (vertex_count h) ws) (accounts_of f.0.views) last.balance)
