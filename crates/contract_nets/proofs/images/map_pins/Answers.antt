-- Sorted and without repeats, they are the set.
use Rattle.std.proofs.Common.{◌∙◌, map, slice_index, nat_cmp, ap, arith}
use Rattle.std.proofs.lemmas.List.{take_all}
use Rattle.hg_defs.specs.Sorting.{set_of}
use Rattle.hg_defs.proofs.SortLaws.{set_from_sort_dedup}
use Rattle.contract_nets.proofs.images.map_pins.Goals as goal

pub returns : goal.returns
returns c =
    set_from_sort_dedup c.loop-v.numbers.items c.sort_unstable.new.self.items c.dedup.new.self.items c.sort_unstable.ensures.permutation
    c.sort_unstable.ensures.sorted c.dedup.ensures.filtered
    ∙ ap (set_of nat_cmp) (c.loop-v.invariant ∙ ap (map (slice_index c.args.clusters.now)) (take_all c.loop-v.v-index c.args.pins.now (omega arith)))
