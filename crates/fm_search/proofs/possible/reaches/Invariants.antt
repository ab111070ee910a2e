use Rattle.std.proofs.Common.{◌≡◌, ℕ, ◌<◌, get_or}
use Rattle.hg_defs.specs.Hypergraph.{net_of}
use Rattle.hg_defs.specs.Incidence.{nets_of}
use Rattle.hg_defs.specs.Pins.{pins_in}
use Rattle.fm_search.proofs.possible.reaches.Given as goal

abbrev pub invariant-nets : goal.invariant-nets
invariant-nets l = (i : ℕ) → i < l.e-index → pins_in l.p.blocks (net_of l.h (get_or (nets_of l.h l.v) i 0)).pins l.b ≡ 0
