use Rattle.hmetis_read.proofs.Placed.{faults_placed}
use Rattle.hmetis_read.proofs.FirstLaws.{faults_first}
use Rattle.hmetis_read.proofs.Counted.{lines_counted}
use Rattle.hmetis_read.proofs.laws.text_laws.Goals as goal

pub returns : goal.returns
returns c = record { placed = faults_placed; first = faults_first; lines = lines_counted }
