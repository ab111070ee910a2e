-- Parts of the images with their keys.
use Rattle.std.specs.Prelude.{◌≡◌, ℕ, ◌-◌, ◌*◌, List, [], min}
use Rattle.hg_defs.specs.Hypergraph.{Hyper, net_count}
use Rattle.contract_nets.specs.declared.images.Mapped.{Mapped}
use Rattle.contract_nets.specs.Keys.{Key, keys_from}
use Rattle.contract_nets.specs.Images.{over, IsPart}

-- the keys of part j of the nets, which are cut into parts of a size
abbrev pub keys_in : Hyper → List ℕ → ℕ → ℕ → List Key
keys_in h clusters size j = keys_from (over h clusters) (j * size) (min size (net_count h - j * size))

-- part j of the nets, and its keys
pub record IsMapped (h : Hyper) (clusters : List ℕ) (size j : ℕ) (mapped : Mapped) : Type 0 where
  pub part : IsPart h clusters size j mapped.part
  pub keys : mapped.keys.items ≡ keys_in h clusters size j

-- a part without lists and keys
pub record IsBare (mapped : Mapped) : Type 0 where
  pub part : mapped.part ≡ record { starts = []; pins = [] }
  pub keys : mapped.keys.items ≡ []
