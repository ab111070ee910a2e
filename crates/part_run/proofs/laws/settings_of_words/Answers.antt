use Rattle.part_run.proofs.WordLaws.{taken-settings, taken-once, taken-spelled, settings-taken}
use Rattle.part_run.proofs.laws.settings_of_words.Goals as goal

pub returns-clause-settings : goal.returns-clause-settings
returns-clause-settings c = taken-settings

pub returns-clause-once : goal.returns-clause-once
returns-clause-once c = taken-once

pub returns-clause-spelled : goal.returns-clause-spelled
returns-clause-spelled c = taken-spelled

pub returns-clause-taken : goal.returns-clause-taken
returns-clause-taken c = settings-taken
