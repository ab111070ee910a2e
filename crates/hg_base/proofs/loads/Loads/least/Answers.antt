-- The first least load of all groups is the least one.
use Rattle.std.proofs.Common.{◌≡◌, ◌*◌, ◌≤◌, length, slice_index, ap, arith}
use Rattle.hg_defs.specs.LeastLoaded.{least}
use Rattle.hg_defs.proofs.PlacementLaws.{least_is, first_least_same}
use Rattle.hg_base.proofs.loads.Loads.least.Goals as goal

pub returns-clause-least : goal.returns-clause-least
returns-clause-least c =
    let xs = c.args.self.now in
    let b = c.loop-group.best in
    let best = c.loop-group.invariant.0 in
    let groups = c.self.invariant.groups in
    let same : length c.self.inside.loads.items ≡ length xs = ap length c.self.view_is in
    let all : length xs ≤ 16 * c.loop-group.group = omega (arith, c.loop-group-test.false, c.len-group-end.ensures) in
    first_least_same (slice_index xs) (length xs) b (least xs)
    (record { below = omega (arith, best.below); least = λ d l. best.least d (omega arith) (omega arith); first = λ d l. best.first d (omega arith) l })
    (least_is xs c.requires.some)
