-- Sorted and without repeats, they are the set.
use Rattle.hg_defs.proofs.SortLaws.{set_from_sort_dedup}
use Rattle.hmetis_read.proofs.shares.sort_set.Goals as goal

pub returns : goal.returns
returns c =
    set_from_sort_dedup c.args.numbers.now.items c.sort_unstable.new.self.items c.dedup.new.self.items c.sort_unstable.ensures.permutation
    c.sort_unstable.ensures.sorted c.dedup.ensures.filtered
