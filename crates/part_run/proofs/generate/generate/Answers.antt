use Rattle.std.proofs.Common.{refl, sym, subst, [], ◌≢◌}
use Rattle.hg_defs.specs.Hypergraph.{Hyper}
use Rattle.hg_make.specs.Text.{hypergraph_text}
use Rattle.part_run.specs.Answers.{port_of, IsSent, IsCutOff}
use Rattle.part_run.proofs.Flushed.{uncalled}
use Rattle.part_run.proofs.Nonempty.{hypergraph_text-some}
use Rattle.part_run.proofs.generate.generate.Goals as goal

pub write_hypergraph-requires : goal.write_hypergraph-requires
write_hypergraph-requires g c = subst (λ (h : Hyper). hypergraph_text h ≢ []) (sym c.in-Ok.ensures) (hypergraph_text-some c.args.n)

pub returns-in-Ok-write_hypergraph-clause-answer : goal.returns-in-Ok-write_hypergraph-clause-answer
returns-in-Ok-write_hypergraph-clause-answer g c =
    let old = port_of (g.K.Sink.got c.args.out.now) (g.K.Sink.faults c.args.out.now) (g.K.Sink.held c.args.out.now) in
    let new = port_of (g.K.Sink.got c.write_hypergraph.new.out) (g.K.Sink.faults c.write_hypergraph.new.out) (g.K.Sink.held c.write_hypergraph.new.out) in
    record {
      out = subst (λ (h : Hyper). IsSent old new (hypergraph_text h)) c.in-Ok.ensures c.in-Ok-write_hypergraph.ensures.answer;
      report = uncalled (port_of (g.R.Sink.got c.args.report.now) (g.R.Sink.faults c.args.report.now) (g.R.Sink.held c.args.report.now));
    }

pub returns-clause-answer : goal.returns-clause-answer
returns-clause-answer g c =
    let old = port_of (g.K.Sink.got c.args.out.now) (g.K.Sink.faults c.args.out.now) (g.K.Sink.held c.args.out.now) in
    let new = port_of (g.K.Sink.got c.write_hypergraph.new.out) (g.K.Sink.faults c.write_hypergraph.new.out) (g.K.Sink.held c.write_hypergraph.new.out) in
    record {
      out = subst (λ (h : Hyper). IsCutOff old new (hypergraph_text h)) c.in-Ok.ensures c.in-Err-write_hypergraph.ensures.answer;
      report = refl;
    }
