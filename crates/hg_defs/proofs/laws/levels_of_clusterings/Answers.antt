use Rattle.hg_defs.proofs.LevelLaws.{levels_one_more, levels_listed, level_is_contraction, levels_stay, level_is_added, lifted-projected}
use Rattle.hg_defs.proofs.LevelLaws.{only_lifted, lifted_follows, projection_keeps_cost, lifted_projected_back}
use Rattle.hg_defs.proofs.laws.levels_of_clusterings.Goals as goal

pub returns-clause-count : goal.returns-clause-count
returns-clause-count c = levels_one_more

pub returns-clause-listed : goal.returns-clause-listed
returns-clause-listed c = levels_listed

pub returns-clause-contracted : goal.returns-clause-contracted
returns-clause-contracted c = level_is_contraction

pub returns-clause-same : goal.returns-clause-same
returns-clause-same c = levels_stay

pub returns-clause-added : goal.returns-clause-added
returns-clause-added c = level_is_added

pub returns-clause-lifted : goal.returns-clause-lifted
returns-clause-lifted c = lifted-projected

pub returns-clause-only : goal.returns-clause-only
returns-clause-only c = only_lifted

pub returns-clause-carried : goal.returns-clause-carried
returns-clause-carried c = lifted_follows

pub returns-clause-costs : goal.returns-clause-costs
returns-clause-costs c = projection_keeps_cost

pub returns-clause-back : goal.returns-clause-back
returns-clause-back c = lifted_projected_back
