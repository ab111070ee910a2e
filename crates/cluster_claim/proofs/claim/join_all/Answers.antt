-- The workers that are left are as they were.
use Rattle.std.proofs.Common.{◌-◌, All, subst, sym, vec_len}
use Rattle.std.proofs.lemmas.List.Elements.{All-take}
use Rattle.hg_defs.specs.Hypergraph.{vertex_count}
use Rattle.cluster_claim.specs.Workers.{IsWorker}
use Rattle.cluster_claim.proofs.claim.join_all.Goals as goal

pub rest-preserved : goal.rest-preserved
rest-preserved c = record {
  pass = c.take_over.ensures;
  made =
      subst (All (IsWorker c.args.words.now.table_id (vertex_count c.args.h.now))) (sym c.pop-in-rest.ensures.rest)
      (All-take (IsWorker c.args.words.now.table_id (vertex_count c.args.h.now)) (vec_len c.rest.made - 1) c.rest.made.items c.rest.invariant.made);
}
