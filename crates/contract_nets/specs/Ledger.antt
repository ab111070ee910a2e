-- The ledger of a contraction: where each net went.
use Rattle.std.specs.Prelude.{◌≡◌, ℕ, ◌<◌, List, length, slice_index_or, Bool, false, nat_eq, if◌then◌else◌}
use Rattle.std.specs.List.{range_with_len}
use Rattle.hg_defs.specs.Sums.{total}
use Rattle.hg_defs.specs.Hypergraph.{Hyper, net_count, net_of}
use Rattle.hg_defs.specs.Contraction.{image}
use Rattle.contract_nets.specs.declared.ledger.Merged.{Merged}
use Rattle.contract_nets.specs.declared.ledger.Merged.TheVariants.{Dropped, Into}

-- where a net went
abbrev pub place_of : List Merged → ℕ → Merged
place_of ledger e = slice_index_or ledger e Dropped

-- a net was dropped where it touches fewer than two clusters; else it went into the net of all the clusters that it touches
abbrev pub Names : Hyper → List ℕ → Merged → Type 0
Names coarse pins Dropped = length pins < 2
Names coarse pins (Into i) = (i < net_count coarse) × ((net_of coarse i).pins ≡ pins)

-- whether a net went into a coarse net
abbrev pub went_into : ℕ → Merged → Bool
went_into i Dropped = false
went_into i (Into j) = nat_eq j i

-- the weight of all nets that went into a coarse net
abbrev pub weight_into : Hyper → List Merged → ℕ → ℕ
weight_into h ledger i =
    total (λ e. if went_into i (place_of ledger e) then (net_of h e).weight else 0) (range_with_len 0 (net_count h))

-- the ledger names for each net the coarse net of its clusters, or drops it, and each coarse net weighs what went into it
pub record IsLedger (h : Hyper) (clusters : List ℕ) (coarse : Hyper) (ledger : List Merged) : Type 0 where
  pub nets : length ledger ≡ net_count h
  pub named : (e : ℕ) → e < net_count h → Names coarse (image clusters (net_of h e)) (place_of ledger e)
  pub sums : (i : ℕ) → i < net_count coarse → (net_of coarse i).weight ≡ weight_into h ledger i
