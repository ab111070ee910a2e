use Rattle.part_run.proofs.Flushed.{flushed, unput}
use Rattle.part_run.proofs.generate.write_hypergraph.Goals as goal

pub returns-in_err-put_hypergraph-clause-answer : goal.returns-in_err-put_hypergraph-clause-answer
returns-in_err-put_hypergraph-clause-answer g c =
    unput _ _ _ _ _ _ _ c.requires c.in_err-put_hypergraph.ensures.bytes c.in_err-put_hypergraph.ensures.cause.failed c.from_residual.result
    c.from_residual.ensures.0

pub returns-clause-answer : goal.returns-clause-answer
returns-clause-answer g c =
    flushed _ _ _ _ _ _ _ _ _ c.requires c.in_ok-put_hypergraph.ensures.bytes c.in_ok-put_hypergraph.ensures.cause.kept c.flush.result c.flush.ensures.bytes
    c.flush.ensures.cause c.flush.ensures.sent
