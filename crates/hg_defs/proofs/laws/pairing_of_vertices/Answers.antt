use Rattle.hg_defs.proofs.PairingLaws.{alone_is_rooted, pairing-rooted, pairing-joins, pairing-maximal, paired-clustering, paired-maximal}
use Rattle.hg_defs.proofs.laws.pairing_of_vertices.Goals as goal

pub returns-clause-alone : goal.returns-clause-alone
returns-clause-alone c = alone_is_rooted

pub returns-clause-rooted : goal.returns-clause-rooted
returns-clause-rooted c = pairing-rooted

pub returns-clause-joined : goal.returns-clause-joined
returns-clause-joined c = pairing-joins

pub returns-clause-maximal : goal.returns-clause-maximal
returns-clause-maximal c = pairing-maximal

pub returns-clause-paired : goal.returns-clause-paired
returns-clause-paired c = paired-clustering

pub returns-clause-most : goal.returns-clause-most
returns-clause-most c = paired-maximal
