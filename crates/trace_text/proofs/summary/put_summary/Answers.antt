use Rattle.std.proofs.Common.{ℕ, List, ◌∙◌, ap, codes}
use Rattle.hg_defs.specs.Hypergraph.{net_count}
use Rattle.hg_defs.specs.Cost.{cost}
use Rattle.hg_defs.specs.LeastLoaded.{greedy}
use Rattle.trace_text.specs.Lines.{number_line}
use Rattle.trace_text.specs.Summary.{outcome_text}
use Rattle.hg_io.proofs.PenLemmas.{wrote, cut, ended, unfinished, spelt}
use Rattle.trace_text.proofs.summary.put_summary.Goals as goal

abbrev vertices_line : ℕ → List ℕ
vertices_line n = number_line (codes "vertices ") n

abbrev nets_line : ℕ → List ℕ
nets_line n = number_line (codes "nets ") n

abbrev blocks_line : ℕ → List ℕ
blocks_line n = number_line (codes "blocks ") n

abbrev limit_line : ℕ → List ℕ
limit_line n = number_line (codes "limit ") n

abbrev greedy_line : ℕ → List ℕ
greedy_line n = number_line (codes "greedy ") n

pub returns-in_err-put_line-clause-bytes : goal.returns-in_err-put_line-clause-bytes
returns-in_err-put_line-clause-bytes g c =
    let h = c.args.h.now in
    unfinished c.from_residual.result c.from_residual.ensures.0 c.new-pen.ensures
    (cut outcome_text (cut (greedy_line (cost h (greedy h c.args.k)))
    (cut (limit_line c.args.limit) (cut (blocks_line c.args.k)
    (cut (nets_line (net_count h)) (spelt (ap vertices_line (c.from.ensures ∙ c.vertices.ensures.count)) c.in_err-put_line.ensures.bytes))))))

pub returns-in_err-put_line-2-clause-bytes : goal.returns-in_err-put_line-2-clause-bytes
returns-in_err-put_line-2-clause-bytes g c =
    let h = c.args.h.now in
    let one = spelt (ap vertices_line (c.from.ensures ∙ c.vertices.ensures.count)) c.in_ok-put_line.ensures.bytes in
    unfinished c.from_residual-in_err-put_line-2.result c.from_residual-in_err-put_line-2.ensures.0 c.new-pen.ensures
    (cut outcome_text (cut (greedy_line (cost h (greedy h c.args.k)))
    (cut (limit_line c.args.limit) (cut (blocks_line c.args.k)
    (wrote one (spelt (ap nets_line (c.from-2.ensures ∙ c.nets.ensures.count)) c.in_err-put_line-2.ensures.bytes))))))

pub returns-in_err-put_line-3-clause-bytes : goal.returns-in_err-put_line-3-clause-bytes
returns-in_err-put_line-3-clause-bytes g c =
    let h = c.args.h.now in
    let one = spelt (ap vertices_line (c.from.ensures ∙ c.vertices.ensures.count)) c.in_ok-put_line.ensures.bytes in
    let two = wrote one (spelt (ap nets_line (c.from-2.ensures ∙ c.nets.ensures.count)) c.in_ok-put_line-2.ensures.bytes) in
    unfinished c.from_residual-in_err-put_line-3.result c.from_residual-in_err-put_line-3.ensures.0 c.new-pen.ensures
    (cut outcome_text (cut (greedy_line (cost h (greedy h c.args.k)))
    (cut (limit_line c.args.limit) (wrote two (spelt (ap blocks_line c.from-3.ensures) c.in_err-put_line-3.ensures.bytes)))))

pub returns-in_err-put_line-4-clause-bytes : goal.returns-in_err-put_line-4-clause-bytes
returns-in_err-put_line-4-clause-bytes g c =
    let h = c.args.h.now in
    let one = spelt (ap vertices_line (c.from.ensures ∙ c.vertices.ensures.count)) c.in_ok-put_line.ensures.bytes in
    let two = wrote one (spelt (ap nets_line (c.from-2.ensures ∙ c.nets.ensures.count)) c.in_ok-put_line-2.ensures.bytes) in
    let three = wrote two (spelt (ap blocks_line c.from-3.ensures) c.in_ok-put_line-3.ensures.bytes) in
    unfinished c.from_residual-in_err-put_line-4.result c.from_residual-in_err-put_line-4.ensures.0 c.new-pen.ensures
    (cut outcome_text (cut (greedy_line (cost h (greedy h c.args.k))) (wrote three c.in_err-put_line-4.ensures.bytes)))

pub returns-in_err-put_line-5-clause-bytes : goal.returns-in_err-put_line-5-clause-bytes
returns-in_err-put_line-5-clause-bytes g c =
    let h = c.args.h.now in
    let one = spelt (ap vertices_line (c.from.ensures ∙ c.vertices.ensures.count)) c.in_ok-put_line.ensures.bytes in
    let two = wrote one (spelt (ap nets_line (c.from-2.ensures ∙ c.nets.ensures.count)) c.in_ok-put_line-2.ensures.bytes) in
    let three = wrote two (spelt (ap blocks_line c.from-3.ensures) c.in_ok-put_line-3.ensures.bytes) in
    let four = wrote three c.in_ok-put_line-4.ensures.bytes in
    unfinished c.from_residual-in_err-put_line-5.result c.from_residual-in_err-put_line-5.ensures.0 c.new-pen.ensures
    (cut outcome_text (wrote four (spelt (ap greedy_line c.requires) c.in_err-put_line-5.ensures.bytes)))

pub returns-in_err-write-clause-bytes : goal.returns-in_err-write-clause-bytes
returns-in_err-write-clause-bytes g c =
    let h = c.args.h.now in
    let one = spelt (ap vertices_line (c.from.ensures ∙ c.vertices.ensures.count)) c.in_ok-put_line.ensures.bytes in
    let two = wrote one (spelt (ap nets_line (c.from-2.ensures ∙ c.nets.ensures.count)) c.in_ok-put_line-2.ensures.bytes) in
    let three = wrote two (spelt (ap blocks_line c.from-3.ensures) c.in_ok-put_line-3.ensures.bytes) in
    let four = wrote three c.in_ok-put_line-4.ensures.bytes in
    let five = wrote four (spelt (ap greedy_line c.requires) c.in_ok-put_line-5.ensures.bytes) in
    unfinished c.from_residual-in_err-write.result c.from_residual-in_err-write.ensures.0 c.new-pen.ensures (wrote five c.in_err-write.ensures.bytes)

pub returns-clause-bytes : goal.returns-clause-bytes
returns-clause-bytes g c =
    let h = c.args.h.now in
    let one = spelt (ap vertices_line (c.from.ensures ∙ c.vertices.ensures.count)) c.in_ok-put_line.ensures.bytes in
    let two = wrote one (spelt (ap nets_line (c.from-2.ensures ∙ c.nets.ensures.count)) c.in_ok-put_line-2.ensures.bytes) in
    let three = wrote two (spelt (ap blocks_line c.from-3.ensures) c.in_ok-put_line-3.ensures.bytes) in
    let four = wrote three c.in_ok-put_line-4.ensures.bytes in
    let five = wrote four (spelt (ap greedy_line c.requires) c.in_ok-put_line-5.ensures.bytes) in
    ended c.end.result c.new-pen.ensures (wrote five c.in_ok-write.ensures.bytes) c.end.ensures.bytes
