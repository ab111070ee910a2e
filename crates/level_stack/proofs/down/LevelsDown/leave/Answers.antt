-- The level below is the last one that is kept.
use Rattle.std.proofs.Common.{◌≡◌, subst}
use Rattle.hg_defs.specs.Levels.{level}
use Rattle.level_stack.specs.Down.{Down}
use Rattle.level_stack.proofs.DownLaws.{is_down_left, last_level}
use Rattle.level_stack.proofs.down.LevelsDown.leave.Goals as goal

pub invariant_of-result : goal.invariant_of-result
invariant_of-result c =
    let d = c.self.inside in
    let last = c.take_last-below in
    is_down_left d.maps d.below.items d.on c.self.invariant last.result.0.items last.result.1 last.ensures

pub returns-clause-level : goal.returns-clause-level
returns-clause-level c =
    let d = c.self.inside in
    subst (λ (x : Down). d.on ≡ level x.base x.maps x.number) c.self.view_is (last_level d.maps d.below.items d.on c.self.invariant)
