-- The copies made so far are the items below the index.
use Rattle.std.proofs.Common.{◌≡◌, take}
use Rattle.hg_base.proofs.list.Items.copy.Given as goal

abbrev pub invariant-loop-item : goal.invariant-loop-item
invariant-loop-item g l = l.items.items ≡ take l.item-index l.item-items
