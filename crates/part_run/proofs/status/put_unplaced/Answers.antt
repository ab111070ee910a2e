use Rattle.hg_io.proofs.PenLemmas.{ended, unfinished}
use Rattle.part_run.proofs.status.put_unplaced.Goals as goal

pub returns-in_err-write_unplaced-clause-bytes : goal.returns-in_err-write_unplaced-clause-bytes
returns-in_err-write_unplaced-clause-bytes g c = unfinished c.from_residual.result c.from_residual.ensures.0 c.new-pen.ensures
    c.in_err-write_unplaced.ensures.bytes

pub returns-clause-bytes : goal.returns-clause-bytes
returns-clause-bytes g c = ended c.end.result c.new-pen.ensures c.in_ok-write_unplaced.ensures.bytes c.end.ensures.bytes
