-- Two passes are all the passes of their round, and so they are where they come back.
use Rattle.std.proofs.Common.{rules}
use Rattle.move_table.proofs.PassesLaws.{IsIdlePass, two_passes, same_passes}
use Rattle.move_table.proofs.tests.closed.Goals as goal

pub close-requires-clause-passes : goal.close-requires-clause-passes
close-requires-clause-passes g c κs within =
    let first : IsIdlePass c.args.round 0 c.args.first = record { belongs = search rules; idle = search rules; number = search rules } in
    let second : IsIdlePass c.args.round 1 c.args.second = record { belongs = search rules; idle = search rules; number = search rules } in
    two_passes c.args.round c.from_vec.result c.args.first c.args.second (search rules) c.requires.two first second

pub close-requires-in-Err-clause-passes : goal.close-requires-in-Err-clause-passes
close-requires-in-Err-clause-passes g c κs within =
    let first : IsIdlePass c.args.round 0 c.args.first = record { belongs = search rules; idle = search rules; number = search rules } in
    let second : IsIdlePass c.args.round 1 c.args.second = record { belongs = search rules; idle = search rules; number = search rules } in
    let same = c.in-Err.ensures.refused in
    same_passes same.0 same.1
    (two_passes c.args.round c.from_vec.result c.args.first c.args.second (search rules) c.requires.two first second)
