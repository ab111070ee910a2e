-- Two passes are all the passes of their round.
use Rattle.std.proofs.Common.{rules}
use Rattle.move_table.proofs.PassesLaws.{IsIdlePass, two_passes}
use Rattle.refinement_tests.proofs.logs.closed.Goals as goal

pub close-requires-clause-passes : goal.close-requires-clause-passes
close-requires-clause-passes g c κs within =
    let first : IsIdlePass c.args.round 0 c.args.first = record { belongs = search rules; idle = search rules; number = search rules } in
    let second : IsIdlePass c.args.round 1 c.args.second = record { belongs = search rules; idle = search rules; number = search rules } in
    two_passes c.args.round c.from_vec.result c.args.first c.args.second (search rules) c.requires.two first second
