use Rattle.std.proofs.Common.{◌≡◌, ℕ, ◌+◌, ◌<◌, List, ◌++◌, length, drop, get_or, sym, ap, ◌∙◌, subst, arith}
use Rattle.std.specs.List.{flat_map, enumerate_from}
use Rattle.std.proofs.lemmas.List.{at_drop_more}
use Rattle.hg_io.proofs.PenLemmas.{exit}
use Rattle.hg_defs.specs.Hypergraph.{Hyper}
use Rattle.round_log.specs.declared.record.Trace.{Trace}
use Rattle.trace_text.specs.Report.{IsPrintable, cycle_text}
use Rattle.trace_text.proofs.TextLemmas.{line-written, line-failed}
use Rattle.trace_text.proofs.report.put_cycles.Goals as goal

step : (h : Hyper) (cycles : List Trace) (i : ℕ) (t : Trace) → i < length cycles → t ≡ get_or cycles i t →
    flat_map (cycle_text h) (enumerate_from (i + 1) (drop i cycles))
    ≡ cycle_text h (i + 1, t) ++ flat_map (cycle_text h) (enumerate_from (i + 1 + 1) (drop (i + 1) cycles))
step h cycles i t low is =
    at_drop_more (λ xs. flat_map (cycle_text h) (enumerate_from (i + 1) xs)) cycles i t low
    ∙ ap (λ (x : Trace). cycle_text h (i + 1, x) ++ flat_map (cycle_text h) (enumerate_from (i + 1 + 1) (drop (i + 1) cycles))) (sym is)

pub put_cycle-requires : goal.put_cycle-requires
put_cycle-requires g c =
    let t = c.index-cycles-i.result in
    (c.type_bounds.sync-H, subst (IsPrintable c.args.h.now 256) (sym c.index-cycles-i.is) (c.requires c.cycles.i t (omega arith)))

pub returns-in_err-put_cycle-clause-bytes : goal.returns-in_err-put_cycle-clause-bytes
returns-in_err-put_cycle-clause-bytes g c =
    exit c.from_residual.result c.from_residual.ensures.0
    (line-failed _ (step c.args.h.now c.args.cycles.now c.cycles.i c.index-cycles-i.result (omega arith) c.index-cycles-i.is)
    c.cycles.invariant c.in_err-put_cycle.ensures.bytes)

pub cycles-preserved : goal.cycles-preserved
cycles-preserved g c =
    line-written (step c.args.h.now c.args.cycles.now c.cycles.i c.index-cycles-i.result (omega arith) c.index-cycles-i.is)
    c.cycles.invariant c.in_ok-put_cycle.ensures.bytes c.in_ok-put_cycle.ensures.cause.kept
