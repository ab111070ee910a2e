use Rattle.std.proofs.Common.{◌≡◌, ℕ, ◌<◌, List, [], refl, sym, ap, ap₂, ◌∙◌, subst, arith}
use Rattle.hg_defs.specs.Hypergraph.{Hyper}
use Rattle.hg_defs.specs.Partition.{IsPartition}
use Rattle.hg_defs.specs.Cost.{cost}
use Rattle.hg_defs.specs.LeastLoaded.{greedy}
use Rattle.hg_defs.specs.Levels.{level}
use Rattle.round_log.specs.declared.record.Trace.{Trace}
use Rattle.trace_text.specs.Report.{IsPrintable}
use Rattle.trace_text.proofs.tests.report.Goals as goal

-- a trace of one level
printable : (h : Hyper) (k : ℕ) (t : Trace) (p : List ℕ) → t.start ≡ 0 → t.first ≡ p → IsPartition h k p → IsPrintable h k t
printable h k t p start first good = record {
  start = omega arith;
  levels = λ i low. absurd (omega arith);
  first = subst (λ (s : ℕ). IsPartition (level h t.maps s) k t.first) (sym start) (subst (λ (q : List ℕ). IsPartition h k q) (sym first) good);
}

pub put_report-requires-clause-greedy : goal.put_report-requires-clause-greedy
put_report-requires-clause-greedy g c κs within =
    c.cost_of-cost.ensures.value
    ∙ ap₂ cost c.flat-2.ensures (c.slice.ensures ∙ c.in_ok-placed.ensures.ok ∙ ap (λ (h : Hyper). greedy h c.args.k) c.flat.ensures)

pub put_report-requires-clause-trace : goal.put_report-requires-clause-trace
put_report-requires-clause-trace g c κs within =
    printable c.in_ok-h.h c.args.k c.in_ok-main.main c.in_ok-blocks.blocks c.in_ok-main.ensures.start
    (c.in_ok-main.ensures.first ∙ c.in_ok-copy-2.ensures)
    (record { vertices = c.in_ok-blocks.ensures.vertices ∙ c.vertices.ensures.count; blocks = c.in_ok-blocks.ensures.blocks })

pub put_report-requires-clause-cycles : goal.put_report-requires-clause-cycles
put_report-requires-clause-cycles g c κs within i d low =
    let t = c.in_ok-cycles.ensures i d low in
    printable c.in_ok-h.h c.args.k _ c.in_ok-blocks.blocks t.1.0 (t.1.1 ∙ c.in_ok-copy.ensures)
    (record { vertices = c.in_ok-blocks.ensures.vertices ∙ c.vertices.ensures.count; blocks = c.in_ok-blocks.ensures.blocks })
