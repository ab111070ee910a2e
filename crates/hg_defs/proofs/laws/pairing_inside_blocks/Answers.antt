use Rattle.hg_defs.proofs.PairingLaws.{inside-rooted, inside-joins, inside-blocks, inside-maximal, paired_inside-inside, split-rooted, split-blocks}
use Rattle.hg_defs.proofs.laws.pairing_inside_blocks.Goals as goal

pub returns-clause-rooted : goal.returns-clause-rooted
returns-clause-rooted c = inside-rooted

pub returns-clause-joined : goal.returns-clause-joined
returns-clause-joined c = inside-joins

pub returns-clause-blocks : goal.returns-clause-blocks
returns-clause-blocks c = inside-blocks

pub returns-clause-maximal : goal.returns-clause-maximal
returns-clause-maximal c = inside-maximal

pub returns-clause-inside : goal.returns-clause-inside
returns-clause-inside c = paired_inside-inside

pub returns-clause-split : goal.returns-clause-split
returns-clause-split c = split-rooted

pub returns-clause-apart : goal.returns-clause-apart
returns-clause-apart c = split-blocks
