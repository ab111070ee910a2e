-- The header's shape, and all nets behind it.
use Rattle.std.proofs.Common.{◌≡◌, ℕ, List, map, sym, ap, ◌∙◌, arith}
use Rattle.hg_text.specs.Kept.{Reading, reading, field_lists}
use Rattle.hmetis_read.specs.Graph.{shape_of, read_on}
use Rattle.hmetis_read.specs.Shares.{pins_spelt}
use Rattle.hmetis_read.proofs.ShareLaws.{graph_spelt, fields_of}
use Rattle.hmetis_read.proofs.shares.read_shares.Goals as goal

pub returns : goal.returns
returns g c =
    let bytes : List ℕ = c.args.bytes.now in
    let over : c.over-lines.result ≡ reading bytes = c.over-lines.ensures in
    graph_spelt bytes c.rest.result.now c.in-Ok.shape c.in_ok-hyper.hyper (pins_spelt c.in-Ok.shape (field_lists c.rest.result.now))
    (sym (c.in-Ok.ensures.value ∙ ap shape_of over)) c.if-shape.false
    (ap (λ (r : Reading). map fields_of r.kept) (sym (c.in-Ok.ensures.rest ∙ ap (read_on 1) over)) ∙ c.rest.ensures.kept) c.in_ok-hyper.ensures.nets
    c.in_ok-hyper.ensures.others (omega arith)
