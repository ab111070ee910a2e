use Rattle.std.proofs.Common.{◌≡◌, false, take}
use Rattle.std.specs.List.{list_any}
use Rattle.hg_make.specs.Text.{needs_weight}
use Rattle.hg_make.proofs.text.has_weighted_nets.Given as goal

abbrev pub invariant-nets : goal.invariant-nets
invariant-nets l = list_any needs_weight (take l.e l.h.nets) ≡ false
