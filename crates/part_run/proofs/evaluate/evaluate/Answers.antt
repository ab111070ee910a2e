use Rattle.std.proofs.Common.{◌≡◌, ℕ, List, inl, inr, ap, ◌∙◌, sym, refl, subst, length}
use Rattle.std.specs.Prelude.{Ok}
use Rattle.hg_defs.specs.Hypergraph.{Hyper, vertex_count}
use Rattle.part_text.specs.Entries.{spelled_part}
use Rattle.trace_text.specs.Evaluation.{evaluation_text}
use Rattle.part_run.specs.Reads.{feed_of, IsPartRefusal}
use Rattle.part_run.specs.Answers.{port_of, IsSent, IsCutOff}
use Rattle.part_run.proofs.Flushed.{uncalled}
use Rattle.part_run.proofs.evaluate.evaluate.Goals as goal

pub returns-in-Err-read_blocks-clause-answer : goal.returns-in-Err-read_blocks-clause-answer
returns-in-Err-read_blocks-clause-answer g c =
    inl (record {
      cause = inr (record {
        hypergraph = c.in-Ok.h;
        graph = c.in-Ok.ensures.answer;
        cause = subst
            (λ (n : ℕ). IsPartRefusal n c.args.e.now.balance.k (feed_of (g.X.Source.left c.args.extra.now) (g.X.Source.faults c.args.extra.now))
            (feed_of (g.X.Source.left c.read_blocks.new.source) (g.X.Source.faults c.read_blocks.new.source)) c.in-Err-read_blocks.status)
            c.vertices.ensures.count
            c.in-Err-read_blocks.ensures.answer;
      });
      unwritten = refl;
    })

pub write_evaluation-requires : goal.write_evaluation-requires
write_evaluation-requires g c = record {
  partition = record {
    vertices = ap length c.slice.ensures ∙ c.in-Ok-read_blocks.ensures.vertices ∙ c.vertices.ensures.count ∙
        sym (ap (λ (h : Hyper). vertex_count h) c.set_objective.ensures);
    blocks = rw c.slice.ensures c.in-Ok-read_blocks.ensures.blocks;
  };
}

pub returns-in-Ok-write_evaluation-clause-answer : goal.returns-in-Ok-write_evaluation-clause-answer
returns-in-Ok-write_evaluation-clause-answer g c =
    let told = c.in-Ok-read_blocks.ensures.answer in
    let old = port_of (g.R.Sink.got c.args.report.now) (g.R.Sink.faults c.args.report.now) (g.R.Sink.held c.args.report.now) in
    let new = port_of (g.R.Sink.got c.write_evaluation.new.report) (g.R.Sink.faults c.write_evaluation.new.report)
    (g.R.Sink.held c.write_evaluation.new.report) in
    let b = c.args.e.now.balance in
    record {
      hypergraph = c.in-Ok.h;
      blocks = c.in-Ok-read_blocks.blocks;
      graph = c.in-Ok.ensures.answer;
      part = record {
        bytes = told.bytes;
        read = told.read;
        spelled = subst (λ (n : ℕ). spelled_part told.bytes n b.k ≡ Ok c.in-Ok-read_blocks.blocks)
            c.vertices.ensures.count told.spelled;
      };
      written = record {
        out = uncalled (port_of (g.K.Sink.got c.args.out.now) (g.K.Sink.faults c.args.out.now) (g.K.Sink.held c.args.out.now));
        report = subst (λ (h : Hyper). IsSent old new (evaluation_text h b.k b.eps c.in-Ok-read_blocks.blocks)) c.set_objective.ensures
            (subst (λ (bs : List ℕ). IsSent old new (evaluation_text c.set_objective.new.self b.k b.eps bs)) c.slice.ensures
            c.in-Ok-write_evaluation.ensures.answer);
      };
    }

pub returns-clause-answer : goal.returns-clause-answer
returns-clause-answer g c =
    let told = c.in-Ok-read_blocks.ensures.answer in
    let old = port_of (g.R.Sink.got c.args.report.now) (g.R.Sink.faults c.args.report.now) (g.R.Sink.held c.args.report.now) in
    let new = port_of (g.R.Sink.got c.write_evaluation.new.report) (g.R.Sink.faults c.write_evaluation.new.report)
    (g.R.Sink.held c.write_evaluation.new.report) in
    let b = c.args.e.now.balance in
    inr (record {
      hypergraph = c.in-Ok.h;
      blocks = c.in-Ok-read_blocks.blocks;
      graph = c.in-Ok.ensures.answer;
      part = record {
        bytes = told.bytes;
        read = told.read;
        spelled = subst (λ (n : ℕ). spelled_part told.bytes n b.k ≡ Ok c.in-Ok-read_blocks.blocks)
            c.vertices.ensures.count told.spelled;
      };
      write_fault = refl;
      cause = record {
        out = uncalled (port_of (g.K.Sink.got c.args.out.now) (g.K.Sink.faults c.args.out.now) (g.K.Sink.held c.args.out.now));
        report = subst (λ (h : Hyper). IsCutOff old new (evaluation_text h b.k b.eps c.in-Ok-read_blocks.blocks)) c.set_objective.ensures
            (subst (λ (bs : List ℕ). IsCutOff old new (evaluation_text c.set_objective.new.self b.k b.eps bs)) c.slice.ensures
            c.in-Err-write_evaluation.ensures.answer);
      };
    })
