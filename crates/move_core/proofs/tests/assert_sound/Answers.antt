use Rattle.std.proofs.Common.{rules, ◌≤◌, All}
use Rattle.move_core.proofs.OpenFacts.{fits_by_all}
use Rattle.move_core.proofs.tests.assert_sound.Goals as goal

pub returns-clause-fits : goal.returns-clause-fits
returns-clause-fits g c =
    let within : All (λ load. load ≤ c.args.limit) c.in_ok-loads.loads.items = search rules in
    fits_by_all c.args.h.now c.args.k c.args.limit c.args.blocks.now c.in_ok-loads.loads.items c.in_ok-loads.ensures within
