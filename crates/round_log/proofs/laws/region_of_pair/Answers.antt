use Rattle.round_log.proofs.RegionLaws.{touching_has_both, near_is_told, next_is_told, takes_while_room, side_fits}
use Rattle.round_log.proofs.RegionLaws.{side_is_ranked, region_has_sides, region_rises}
use Rattle.round_log.proofs.laws.region_of_pair.Goals as goal

pub returns-clause-touching : goal.returns-clause-touching
returns-clause-touching c = touching_has_both

pub returns-clause-near : goal.returns-clause-near
returns-clause-near c = near_is_told

pub returns-clause-next : goal.returns-clause-next
returns-clause-next c = next_is_told

pub returns-clause-taken : goal.returns-clause-taken
returns-clause-taken c = takes_while_room

pub returns-clause-room : goal.returns-clause-room
returns-clause-room c = side_fits

pub returns-clause-ranked : goal.returns-clause-ranked
returns-clause-ranked c = side_is_ranked

pub returns-clause-sides : goal.returns-clause-sides
returns-clause-sides c = region_has_sides

pub returns-clause-rising : goal.returns-clause-rising
returns-clause-rising c = region_rises
