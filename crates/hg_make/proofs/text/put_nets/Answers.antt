use Rattle.std.proofs.Common.{◌∙◌, ◌+◌, ◌++◌, [], drop, map, sym, arith}
use Rattle.std.specs.List.{flat_map}
use Rattle.hg_defs.specs.Hypergraph.{net_of}
use Rattle.part_text.specs.NumberLines.{numbers_line}
use Rattle.hg_make.specs.Text.{net_numbers}
use Rattle.hg_io.proofs.PenLemmas.{wrote, cut, exit, spelt}
use Rattle.hg_make.proofs.TextLemmas.{one_more, nets_lines-next, net_written}
use Rattle.hg_make.proofs.text.put_nets.Goals as goal

pub returns-in_err-put_net-clause-bytes : goal.returns-in_err-put_net-clause-bytes
returns-in_err-put_net-clause-bytes g c =
    let before = c.nets.invariant in
    let h = c.args.h.now in
    let e = c.nets.e in
    let line = numbers_line (net_numbers c.args.weighted (net_of h e)) in
    let later = flat_map numbers_line (map (net_numbers c.args.weighted) (drop (e + 1) h.nets)) in
    exit c.from_residual.result c.from_residual.ensures.0
    (spelt (one_more before.0 line later before.1.1 (nets_lines-next c.args.weighted h.nets e (record { weight = 0; pins = [] }) (omega arith)))
    (cut later (wrote before.1.0 (spelt (net_written c.args.weighted (net_of h e) _ _ c.net_weight.ensures.value c.pins.ensures.value)
    c.in_err-put_net.ensures.bytes))))

pub nets-preserved : goal.nets-preserved
nets-preserved g c =
    let before = c.nets.invariant in
    let h = c.args.h.now in
    let e = c.nets.e in
    let line = numbers_line (net_numbers c.args.weighted (net_of h e)) in
    let later = flat_map numbers_line (map (net_numbers c.args.weighted) (drop (e + 1) h.nets)) in (
      before.0 ++ line,
      (
        wrote before.1.0 (spelt (net_written c.args.weighted (net_of h e) _ _ c.net_weight.ensures.value c.pins.ensures.value)
            c.in_ok-put_net.ensures.bytes),
        sym (one_more before.0 line later before.1.1 (nets_lines-next c.args.weighted h.nets e (record { weight = 0; pins = [] }) (omega arith))),
        c.in_ok-put_net.ensures.cause.kept ∙ before.1.2,
      ),
    )
