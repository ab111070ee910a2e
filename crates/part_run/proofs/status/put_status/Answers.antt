use Rattle.part_run.proofs.status.put_status.Goals as goal

pub returns-in-Malformed-clause-bytes : goal.returns-in-Malformed-clause-bytes
returns-in-Malformed-clause-bytes g c = rw c.in-Malformed.is (rw c.line_kind_name.ensures at c.put_line.ensures.bytes)

pub returns-in-ReadFault-clause-bytes : goal.returns-in-ReadFault-clause-bytes
returns-in-ReadFault-clause-bytes g c = rw c.in-ReadFault.is c.put_all-in-ReadFault.ensures.bytes

pub returns-in-Usage-clause-bytes : goal.returns-in-Usage-clause-bytes
returns-in-Usage-clause-bytes g c = rw c.in-Usage.is c.put_all.ensures.bytes
