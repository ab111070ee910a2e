use Rattle.std.proofs.Common.{◌≡◌, ◌++◌, take, drop}
use Rattle.part_run.proofs.partition.fix_all.Given as goal

-- the first fixes are those of the list, and the others are as they were
abbrev pub invariant-loop-v : goal.invariant-loop-v
invariant-loop-v l = l.h ≡ record l.fn.h { fixes = take l.v l.fixes ++ drop l.v l.fn.h.fixes }
